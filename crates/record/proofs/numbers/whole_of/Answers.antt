-- `record::numbers::whole_of`: the goals that the search leaves. Assumes nothing.
use borrow.Author.Tests.{not-true, not-false}
use Prim.Native.Nat.{◌+◌}
use mathlib.Core.Path.{refl, sym, ◌∙◌}
use Rattle.record.proofs.Digits.{whole_unled, whole_bad, whole_large, whole_good, digits_no, digits_yes, digits_all, value_more, value_all}
use borrow.Author.Rules.{rules}
use Rattle.record.proofs.numbers.whole_of.Goals as goal

pub returns-then-not-led : goal.returns-then-not-led
returns-then-not-led c = whole_unled _ (sym c.led.ensures ∙ not-true _ c.if-not-led.true-raw)

pub loop-b-init : goal.loop-b-init
loop-b-init c = (search rules, refl, refl)

pub returns-then-d-ge10 : goal.returns-then-d-ge10
returns-then-d-ge10 c = let l = c.loop-b in
    whole_bad _ (digits_no 10 _ l.b-index _ (search rules) l.invariant.2 c.digit-d.ensures c.if-d-ge10.true)

pub returns-then-n-gt4294967295 : goal.returns-then-n-gt4294967295
returns-then-n-gt4294967295 c = let l = c.loop-b in
    let h = c.loop-b-test.true in
    whole_large _ _ (l.b-index + 1) c.if-n-gt4294967295.true (value_more 10 _ _ _ _ h l.invariant.1 c.digit-d.ensures)

pub loop-b-preserved : goal.loop-b-preserved
loop-b-preserved c = let l = c.loop-b in
    let h = c.loop-b-test.true in
    (search rules, value_more 10 _ _ _ _ h l.invariant.1 c.digit-d.ensures, digits_yes 10 _ _ _ h l.invariant.2 c.digit-d.ensures c.if-d-ge10.false)

pub returns : goal.returns
returns c = let l = c.loop-b in
    whole_good _ l.n (sym c.led.ensures ∙ not-false _ c.if-not-led.false-raw) (digits_all 10 _ l.b-index (search rules) c.loop-b-test.false l.invariant.2) l.invariant.0 (value_all 10 l.n _ l.b-index (search rules) c.loop-b-test.false l.invariant.1)
