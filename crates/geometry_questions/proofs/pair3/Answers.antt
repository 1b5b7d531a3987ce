-- `geometry_questions::pair3`: the goals that the search leaves. Assumes nothing.
use mathlib.Core.Path.{refl, ap, ◌∙◌}
use mathlib.Core.Bool.{Bool}
use lib.Ieee.{Float}
use lib.ListN.{drop}
use Rattle.record.specs.Text.{same}
use Rattle.geometry_answers.specs.Shown.{said_in, number, yes}
use Rattle.geometry_questions.specs.Asked.{questions}
use Rattle.geometry_questions.proofs.Tests.{met_by, no_more, past_by}
use Rattle.geometry_questions.proofs.pair3.Goals as goal

pub returns-then-n-eq : goal.returns-then-n-eq
unfolding said_in questions same
returns-then-n-eq c = met_by (drop 14 questions) 0 _ _ _ _ _ refl (ap (λ (y : Float). number y) c.distance_sq.ensures) c.eq.ensures c.as_slice.ensures c.if-n-eq.true

pub returns-then-n-eq-2 : goal.returns-then-n-eq-2
unfolding said_in questions same
returns-then-n-eq-2 c = met_by (drop 14 questions) 1 _ _ _ _ _ refl (ap (λ (y : Bool). yes y) c.same.ensures) c.eq-2.ensures c.as_slice-2.ensures c.if-n-eq-2.true

pub returns : goal.returns
unfolding said_in questions
returns c = no_more _ _ _
    ∙ past_by (drop 14 questions) 1 _ _ _ _ _ c.eq-2.ensures c.as_slice-2.ensures c.if-n-eq-2.false
    ∙ past_by (drop 14 questions) 0 _ _ _ _ _ c.eq.ensures c.as_slice.ensures c.if-n-eq.false
