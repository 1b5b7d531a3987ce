-- `axis::Side::half`: the goals that the search leaves. Assumes nothing.
use mathlib.Core.Path.{◌≡◌}
use mathlib.Core.Bool.{Bool, true, false}
use lib.Ieee.{Float, binary64}
use Rattle.floats.specs.Span.{span}
use Rattle.model.specs.Boxes.{Side, side, far, mid, half}
use Rattle.axis.proofs.Side.half.Goals as goal

high_half : (t : Bool) (s : Side) (m f e : Float) → t ≡ true → m ≡ mid s → f ≡ far s → e ≡ span binary64 m f → side m e ≡ half t s
unfolding half
high_half t s m f e h p q r = rw (h, r, q, p)

low_half : (t : Bool) (s : Side) (m e : Float) → t ≡ false → m ≡ mid s → e ≡ span binary64 s.corner m → side s.corner e ≡ half t s
unfolding half
low_half t s m e h p r = rw (h, r, p)

pub returns-then-high : goal.returns-then-high
returns-then-high c = high_half _ _ _ _ _ c.if-high.true c.midplane-middle.ensures c.far.ensures c.span.ensures

pub returns-else-high : goal.returns-else-high
returns-else-high c = low_half _ _ _ _ c.if-high.false c.midplane-middle.ensures c.span-else-high.ensures
