-- `fields::word_of`: the goals that the search leaves. Assumes nothing.
use mathlib.Core.Path.{refl, sym, ap}
use Rattle.record.specs.Text.{same}
use Rattle.record.specs.Commands.{word_of}
use Rattle.record.proofs.Parts.{says_same, says_other}
use Rattle.record.proofs.Words.{Other, made_word, no_word}
use Rattle.fields.proofs.word_of.Goals as goal

pub returns-then-eq : goal.returns-then-eq
unfolding word_of same
returns-then-eq c = sym (ap (word_of _) (says_same _ _ _ _ c.eq.ensures c.as_slice.ensures c.if-eq.true))

pub returns-then-eq-2 : goal.returns-then-eq-2
unfolding word_of same
returns-then-eq-2 c = sym (ap (word_of _) (says_same _ _ _ _ c.eq-else-eq.ensures c.as_slice-else-eq.ensures c.if-eq-2.true))

pub returns-then-eq-3 : goal.returns-then-eq-3
unfolding word_of same
returns-then-eq-3 c = sym (ap (word_of _) (says_same _ _ _ _ c.eq-else-eq-2.ensures c.as_slice-else-eq-2.ensures c.if-eq-3.true))

pub returns-then-eq-4 : goal.returns-then-eq-4
unfolding word_of same
returns-then-eq-4 c = sym (ap (word_of _) (says_same _ _ _ _ c.eq-else-eq-3.ensures c.as_slice-else-eq-3.ensures c.if-eq-4.true))

pub returns-then-eq-5 : goal.returns-then-eq-5
unfolding word_of same
returns-then-eq-5 c = sym (ap (word_of _) (says_same _ _ _ _ c.eq-else-eq-4.ensures c.as_slice-else-eq-4.ensures c.if-eq-5.true))

pub returns-then-eq-6 : goal.returns-then-eq-6
unfolding word_of same
returns-then-eq-6 c = sym (ap (word_of _) (says_same _ _ _ _ c.eq-else-eq-5.ensures c.as_slice-else-eq-5.ensures c.if-eq-6.true))

pub returns-then-eq-7 : goal.returns-then-eq-7
unfolding word_of same
returns-then-eq-7 c = sym (ap (word_of _) (says_same _ _ _ _ c.eq-else-eq-6.ensures c.as_slice-else-eq-6.ensures c.if-eq-7.true))

pub returns-then-eq-8 : goal.returns-then-eq-8
unfolding word_of same
returns-then-eq-8 c = sym (ap (word_of _) (says_same _ _ _ _ c.eq-else-eq-7.ensures c.as_slice-else-eq-7.ensures c.if-eq-8.true))

pub returns-then-eq-9 : goal.returns-then-eq-9
returns-then-eq-9 c = let o : Other c.args.w.now = record { insert = says_other _ _ _ _ c.eq.ensures c.as_slice.ensures c.if-eq.false; delete = says_other _ _ _ _ c.eq-else-eq.ensures c.as_slice-else-eq.ensures c.if-eq-2.false; contains = says_other _ _ _ _ c.eq-else-eq-2.ensures c.as_slice-else-eq-2.ensures c.if-eq-3.false; range = says_other _ _ _ _ c.eq-else-eq-3.ensures c.as_slice-else-eq-3.ensures c.if-eq-4.false; knn = says_other _ _ _ _ c.eq-else-eq-4.ensures c.as_slice-else-eq-4.ensures c.if-eq-5.false; box = says_other _ _ _ _ c.eq-else-eq-5.ensures c.as_slice-else-eq-5.ensures c.if-eq-6.false; len = says_other _ _ _ _ c.eq-else-eq-6.ensures c.as_slice-else-eq-6.ensures c.if-eq-7.false; clear = says_other _ _ _ _ c.eq-else-eq-7.ensures c.as_slice-else-eq-7.ensures c.if-eq-8.false } in
    made_word _ _ o (says_same _ _ _ _ c.eq-else-eq-8.ensures refl c.if-eq-9.true)

pub returns-else-eq-9 : goal.returns-else-eq-9
returns-else-eq-9 c = let o : Other c.args.w.now = record { insert = says_other _ _ _ _ c.eq.ensures c.as_slice.ensures c.if-eq.false; delete = says_other _ _ _ _ c.eq-else-eq.ensures c.as_slice-else-eq.ensures c.if-eq-2.false; contains = says_other _ _ _ _ c.eq-else-eq-2.ensures c.as_slice-else-eq-2.ensures c.if-eq-3.false; range = says_other _ _ _ _ c.eq-else-eq-3.ensures c.as_slice-else-eq-3.ensures c.if-eq-4.false; knn = says_other _ _ _ _ c.eq-else-eq-4.ensures c.as_slice-else-eq-4.ensures c.if-eq-5.false; box = says_other _ _ _ _ c.eq-else-eq-5.ensures c.as_slice-else-eq-5.ensures c.if-eq-6.false; len = says_other _ _ _ _ c.eq-else-eq-6.ensures c.as_slice-else-eq-6.ensures c.if-eq-7.false; clear = says_other _ _ _ _ c.eq-else-eq-7.ensures c.as_slice-else-eq-7.ensures c.if-eq-8.false } in
    no_word _ _ o (says_other _ _ _ _ c.eq-else-eq-8.ensures refl c.if-eq-9.false)
