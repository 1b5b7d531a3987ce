-- `sound::top_half`: the goals that the search leaves. Assumes nothing.
use mathlib.Core.Path.{ap, ◌∙◌}
use mathlib.Core.Bool.{cond}
use lib.Ieee.{Float}
use Rattle.trees.proofs.Areas.{lower, top_mid, top_top}
use Rattle.sound.proofs.Numbers.{or_nan}
use Rattle.sound.proofs.top_half.Goals as goal

pub returns-then-plane-top : goal.returns-then-plane-top
returns-then-plane-top c = top_mid _ _ _ c.if-high.false (or_nan _ _ _ c.args.top c.is_nan.ensures.value c.if-plane-top.true) ∙ ap (λ (v : Float). cond c.args.high c.args.top (lower c.args.top v)) c.midplane-plane.ensures

pub returns-else-plane-top : goal.returns-else-plane-top
returns-else-plane-top c = top_top _ _ c.midplane-plane.result c.if-high.false (or_nan _ _ _ c.args.top c.is_nan.ensures.value c.if-plane-top.false) ∙ ap (λ (v : Float). cond c.args.high c.args.top (lower c.args.top v)) c.midplane-plane.ensures
