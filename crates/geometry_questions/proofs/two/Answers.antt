-- `geometry_questions::two`: the goals that the search leaves. Assumes nothing.
use Prim.Native.Nat.{ℕ}
use mathlib.Core.Path.{refl, ap, ◌∙◌}
use mathlib.Core.Bool.{Bool}
use lib.Ieee.{Float}
use lib.ListN.{drop}
use Rattle.record.specs.Text.{same}
use Rattle.geometry_answers.specs.Shown.{said_in, child, number, yes}
use Rattle.geometry_questions.specs.Asked.{questions}
use Rattle.geometry_questions.proofs.Tests.{met_by, past_by}
use Rattle.geometry_questions.proofs.two.Goals as goal

pub returns-then-n-eq : goal.returns-then-n-eq
unfolding said_in questions same
returns-then-n-eq c = met_by (drop 4 questions) 0 _ _ _ _ _ refl (ap (λ (y : Bool). yes y) c.contains.ensures) c.eq.ensures c.as_slice.ensures c.if-n-eq.true

pub returns-then-n-eq-2 : goal.returns-then-n-eq-2
unfolding said_in questions same
returns-then-n-eq-2 c = met_by (drop 4 questions) 1 _ _ _ _ _ refl (ap (λ (y : ℕ). child y) c.child_index.ensures) c.eq-2.ensures c.as_slice-2.ensures c.if-n-eq-2.true

pub returns-then-n-eq-3 : goal.returns-then-n-eq-3
unfolding said_in questions same
returns-then-n-eq-3 c = met_by (drop 4 questions) 2 _ _ _ _ _ refl (ap (λ (y : Float). number y) c.min_distance_sq.ensures) c.eq-3.ensures c.as_slice-3.ensures c.if-n-eq-3.true

pub returns-then-n-eq-4 : goal.returns-then-n-eq-4
unfolding said_in questions same
returns-then-n-eq-4 c = met_by (drop 4 questions) 3 _ _ _ _ _ refl (ap (λ (y : Bool). yes y) c.intersects.ensures) c.eq-4.ensures c.as_slice-4.ensures c.if-n-eq-4.true

pub returns : goal.returns
unfolding questions
returns c = c.pair2.ensures
    ∙ past_by (drop 4 questions) 3 _ _ _ _ _ c.eq-4.ensures c.as_slice-4.ensures c.if-n-eq-4.false
    ∙ past_by (drop 4 questions) 2 _ _ _ _ _ c.eq-3.ensures c.as_slice-3.ensures c.if-n-eq-3.false
    ∙ past_by (drop 4 questions) 1 _ _ _ _ _ c.eq-2.ensures c.as_slice-2.ensures c.if-n-eq-2.false
    ∙ past_by (drop 4 questions) 0 _ _ _ _ _ c.eq.ensures c.as_slice.ensures c.if-n-eq.false
