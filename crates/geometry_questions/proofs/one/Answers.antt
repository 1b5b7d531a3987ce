-- `geometry_questions::one`: the goals that the search leaves. Assumes nothing.
use mathlib.Core.Path.{refl, ap, ◌∙◌}
use lib.Ieee.{Float}
use Rattle.record.specs.Text.{same}
use Rattle.geometry_answers.specs.Shown.{said_in, number}
use Rattle.geometry_questions.specs.Asked.{questions}
use Rattle.geometry_questions.proofs.Tests.{met_by, past_by}
use Rattle.geometry_questions.proofs.one.Goals as goal

pub returns-then-n-eq : goal.returns-then-n-eq
unfolding said_in questions same
returns-then-n-eq c = met_by questions 0 _ _ _ _ _ refl (ap (λ (y : Float). number y) c.next_up.ensures) c.eq.ensures c.as_slice.ensures c.if-n-eq.true

pub returns-then-n-eq-2 : goal.returns-then-n-eq-2
unfolding said_in questions same
returns-then-n-eq-2 c = met_by questions 1 _ _ _ _ _ refl (ap (λ (y : Float). number y) c.span.ensures) c.eq-2.ensures c.as_slice-2.ensures c.if-n-eq-2.true

pub returns-then-n-eq-3 : goal.returns-then-n-eq-3
unfolding said_in questions same
returns-then-n-eq-3 c = met_by questions 2 _ _ _ _ _ refl (ap (λ (y : Float). number y) c.midplane.ensures) c.eq-3.ensures c.as_slice-3.ensures c.if-n-eq-3.true

pub returns-then-n-eq-4 : goal.returns-then-n-eq-4
unfolding said_in questions same
returns-then-n-eq-4 c = met_by questions 3 _ _ _ _ _ refl (ap (λ (y : Float). number y) c.distance.ensures) c.eq-4.ensures c.as_slice-4.ensures c.if-n-eq-4.true

pub returns : goal.returns
unfolding questions
returns c = c.two.ensures
    ∙ past_by questions 3 _ _ _ _ _ c.eq-4.ensures c.as_slice-4.ensures c.if-n-eq-4.false
    ∙ past_by questions 2 _ _ _ _ _ c.eq-3.ensures c.as_slice-3.ensures c.if-n-eq-3.false
    ∙ past_by questions 1 _ _ _ _ _ c.eq-2.ensures c.as_slice-2.ensures c.if-n-eq-2.false
    ∙ past_by questions 0 _ _ _ _ _ c.eq.ensures c.as_slice.ensures c.if-n-eq.false
