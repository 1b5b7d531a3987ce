-- `record::numbers::number_of`: the goals that the search leaves. Assumes nothing.
use native.Mathlib.Omega.{arith}
use Rattle.std.specs.Prelude.{Some}
use mathlib.Core.Path.{refl, ap, ◌∙◌}
use Rattle.record.proofs.Digits.{number_short, number_bad, number_good, hex_fits, hex_room, digits_no, digits_yes, digits_all, value_more, value_all}
use borrow.Author.Rules.{rules}
use Rattle.record.proofs.numbers.number_of.Goals as goal

pub returns-then-s-ne16 : goal.returns-then-s-ne16
returns-then-s-ne16 c = number_short _ c.if-s-ne16.true

pub loop-b-init : goal.loop-b-init
loop-b-init c = (search rules, refl, refl)

pub returns-then-d-ge16 : goal.returns-then-d-ge16
returns-then-d-ge16 c = let l = c.loop-b in
    number_bad _ (digits_no 16 _ l.b-index _ (search rules) l.invariant.2 c.digit-d.ensures c.if-d-ge16.true)

pub overflow_mul-n : goal.overflow_mul-n
overflow_mul-n c = omega (arith, hex_fits _ 0 _ c.loop-b.invariant.0 (omega arith) (omega arith))

pub overflow_add-n : goal.overflow_add-n
overflow_add-n c = record { fits = hex_fits _ _ _ c.loop-b.invariant.0 (search rules) (omega arith) }

pub loop-b-preserved : goal.loop-b-preserved
loop-b-preserved c = let l = c.loop-b in
    let h = c.loop-b-test.true in
    (hex_room _ _ _ l.invariant.0 c.if-d-ge16.false, value_more 16 _ _ _ _ h l.invariant.1 c.digit-d.ensures, digits_yes 16 _ _ _ h l.invariant.2 c.digit-d.ensures c.if-d-ge16.false)

pub returns : goal.returns
returns c = let l = c.loop-b in
    ap Some c.from_bits.ensures
    ∙ number_good _ l.n (search rules) (digits_all 16 _ l.b-index (search rules) c.loop-b-test.false l.invariant.2) (value_all 16 l.n _ l.b-index (search rules) c.loop-b-test.false l.invariant.1)
