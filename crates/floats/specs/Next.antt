-- The next value up. Definitions only.
use Rattle.std.specs.Prelude.{◌+◌, ◌-◌, ◌%◌, false, cond, Float}
use Rattle.std.specs.Float.{inf, Format}
use Rattle.std.specs.Float.Ieee.{lt, top, of_bits, to_bits}
use Rattle.floats.specs.Values.{plus_zero}

-- IEEE 754, 5.3.1, nextUp: the least value of the format that is greater than x.
-- Patterns of one sign stand in the order of the sizes: so it is the pattern before for an x below zero, and for any other x below +∞ the pattern
-- after, the sign of −0 left out. What nothing exceeds, +∞ and a NaN, stays.
unfoldable pub next_up : Format → Float → Float
unfolding of_bits to_bits lt
next_up f x = cond (lt x plus_zero) (of_bits f (to_bits f x - 1)) (cond (lt x (inf false)) (of_bits f (to_bits f x % top f + 1)) x)
