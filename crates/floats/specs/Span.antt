-- The extent of a box between two edges. Definitions only.
use Rattle.std.specs.Prelude.{ℕ, zero, suc, Bool, true, false, ◌&&◌, Float}
use Rattle.std.specs.Float.{Format}
use Rattle.std.specs.Float.Ieee.{add, sub, lt}
use Rattle.std.specs.Float.Ieee.Scale.{finite}
use Rattle.floats.specs.Values.{plus_zero}
use Rattle.floats.specs.Next.{next_up}

-- "while positive and finite and lo + length < hi"
unfoldable pub short : Format → Float → Float → Float → Bool
short f lo hi length = lt plus_zero length && (finite length && lt (add f lo length) hi)

-- "the next double up, at most four times": here at most n times
unfoldable pub lengthened : Format → ℕ → Float → Float → Float → Float
unfolding short next_up
lengthened f zero lo hi length = length
lengthened f (suc n) lo hi length = elim (short f lo hi length) [ true ↦ lengthened f n lo hi (next_up f length) | false ↦ length ]

-- "`span(lo, hi)`: hi − lo, then while positive and finite and lo + length < hi, the next double up, at most four times"
unfoldable pub span : Format → Float → Float → Float
unfolding lengthened
span f lo hi = lengthened f 4 lo hi (sub f hi lo)
