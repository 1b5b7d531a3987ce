-- `geometry_questions::parts`: the goals that the search leaves. Assumes nothing.
use mathlib.Core.Path.{refl, ap, ◌∙◌}
use Rattle.record.specs.Text.{same}
use Rattle.geometry_answers.specs.Shown.{said_in, boxed}
use Rattle.geometry_questions.specs.Asked.{parts}
use Rattle.geometry_questions.proofs.Tests.{met_by, no_more, past_by}
use Rattle.geometry_questions.proofs.parts.Goals as goal

pub returns-then-n-eq : goal.returns-then-n-eq
unfolding said_in parts same
returns-then-n-eq c = met_by (parts _) 0 _ _ _ _ _ refl (ap boxed c.child.ensures) c.eq.ensures c.as_slice.ensures c.if-n-eq.true

pub returns-then-n-eq-2 : goal.returns-then-n-eq-2
unfolding said_in parts same
returns-then-n-eq-2 c = met_by (parts _) 1 _ _ _ _ _ refl (ap boxed c.child-then-n-eq-2.ensures) c.eq-2.ensures c.as_slice-2.ensures c.if-n-eq-2.true

pub returns : goal.returns
unfolding said_in parts
returns c = no_more _ _ _
    ∙ past_by (parts _) 1 _ _ _ _ _ c.eq-2.ensures c.as_slice-2.ensures c.if-n-eq-2.false
    ∙ past_by (parts _) 0 _ _ _ _ _ c.eq.ensures c.as_slice.ensures c.if-n-eq.false
