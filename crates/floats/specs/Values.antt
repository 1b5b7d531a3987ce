-- The constants that the rules name. Definitions only.
use Rattle.std.specs.Prelude.{false, pos, Float}
use Rattle.std.specs.Float.{fin}

abbrev pub plus_zero : Float
plus_zero = fin false 0 (pos 0)

abbrev pub two : Float
two = fin false 1 (pos 1)
