-- `record::numbers::digit`: the goals that the search leaves. Assumes nothing.
use native.Mathlib.Omega.{arith}
use lib.Dec.{ltb}
use Rattle.record.proofs.Digits.{tests_out, tests_between, tests_low, letter_small, letter_less, tests_digit}
use Rattle.record.proofs.numbers.digit.Goals as goal

pub returns-then-b : goal.returns-then-b
returns-then-b c = tests_out _ c.if-b.true

pub returns-then-b-2 : goal.returns-then-b-2
returns-then-b-2 c = tests_between _ c.if-b-2.true

pub overflow_sub-result : goal.overflow_sub-result
overflow_sub-result c = tests_low _ c.if-b.false

pub overflow_mul-result : goal.overflow_mul-result
overflow_mul-result c = omega (arith, letter_small (ltb 64 c.args.b))

pub overflow_sub-result-2 : goal.overflow_sub-result-2
overflow_sub-result-2 c = letter_less _ c.if-b.false

pub returns : goal.returns
returns c = tests_digit _ c.if-b.false c.if-b-2.false
