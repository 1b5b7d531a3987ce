-- `record::numbers::glyph`: the goals that the search leaves. Assumes nothing.
use Prim.Native.Nat.{◌%◌}
use native.Mathlib.Omega.{arith}
use lib.Dec.{ltb}
use Rattle.record.proofs.Digits.{letter_small, glyph_is}
use Rattle.record.proofs.numbers.glyph.Goals as goal

pub overflow_mul-result : goal.overflow_mul-result
overflow_mul-result c = omega (arith, letter_small (ltb 9 (c.args.d % 16)))

pub overflow_add-result-2 : goal.overflow_add-result-2
overflow_add-result-2 c = omega (arith, letter_small (ltb 9 (c.args.d % 16)))

pub returns : goal.returns
returns c = glyph_is _
