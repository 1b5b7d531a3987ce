-- `sound::low_half`: the goals that the search leaves. Assumes nothing.
use mathlib.Core.Path.{ap, ◌∙◌}
use mathlib.Core.Bool.{cond, not}
use lib.Ieee.{Float}
use Rattle.trees.proofs.Areas.{higher, low_mid, low_low}
use Rattle.sound.proofs.Numbers.{or_nan}
use Rattle.sound.proofs.low_half.Goals as goal

pub returns-then-low-plane : goal.returns-then-low-plane
returns-then-low-plane c = low_mid c.args.high c.args.low c.midplane-plane.result (ap not c.if-not-high.false) (or_nan _ _ _ c.midplane-plane.result c.is_nan.ensures.value c.if-low-plane.true) ∙ ap (λ (v : Float). cond c.args.high (higher c.args.low v) c.args.low) c.midplane-plane.ensures

pub returns-else-low-plane : goal.returns-else-low-plane
returns-else-low-plane c = low_low c.args.high c.args.low c.midplane-plane.result (ap not c.if-not-high.false) (or_nan _ _ _ c.midplane-plane.result c.is_nan.ensures.value c.if-low-plane.false) ∙ ap (λ (v : Float). cond c.args.high (higher c.args.low v) c.args.low) c.midplane-plane.ensures
