-- `execution::answer`: the goals that the search leaves. Assumes nothing.
use mathlib.Core.Path.{ap, ◌∙◌, sym, refl}
use native.Mathlib.Omega.{arith}
use Rattle.std.specs.Prelude.{option_map}
use Rattle.model.specs.Calls.{number}
use Rattle.replies.specs.Lines.{makes}
use Rattle.commands.specs.Commands.{call_in}
use Rattle.replies.proofs.Answers.{answers_as, answers_bad, answers_none}
use Rattle.execution.proofs.Doing.{done_held, opened, said, shut}
use Rattle.execution.proofs.answer.Goals as goal

pub returns-in_default-clause-answers : goal.returns-in_default-clause-answers
unfolding number
returns-in_default-clause-answers g c = λ h. answers_as g.R.Tree.kind _ _ _ _ _ _ _ _ _ _ (ap (option_map (call_in g.R.Region.sides g.R.Point.Place.place)) c.in_default.is) (answers_bad g.R.Tree.kind _ _ _ _ _ _ (c.put_reply.ensures.puts.wrote (omega (arith, h))))

pub returns-in-Create-clause-answers : goal.returns-in-Create-clause-answers
unfolding call_in
returns-in-Create-clause-answers g c = λ h. answers_as g.R.Tree.kind _ _ _ _ _ _ _ _ _ _ (said g.R.Region.sides g.R.Point.Place.place _ _ _ c.in-Some.is c.in-Create.is) c.make.ensures.answers

pub returns-in-Insert-clause-answers : goal.returns-in-Insert-clause-answers
unfolding call_in makes
returns-in-Insert-clause-answers g c = λ h. done_held g.R.Tree.kind _ _ _ _ _ _ _ _ _ (said g.R.Region.sides g.R.Point.Place.place _ _ _ c.in-Some.is c.in-Insert.is) (opened g.R.Region.sides g.R.Point.Place.place _ _ _ _ c.if-not-held-makes.false c.makes.ensures c.in-Insert.is refl) c.insert.ensures.answers

pub returns-in-Delete-clause-answers : goal.returns-in-Delete-clause-answers
unfolding call_in makes
returns-in-Delete-clause-answers g c = λ h. done_held g.R.Tree.kind _ _ _ _ _ _ _ _ _ (said g.R.Region.sides g.R.Point.Place.place _ _ _ c.in-Some.is c.in-Delete.is) (opened g.R.Region.sides g.R.Point.Place.place _ _ _ _ c.if-not-held-makes.false c.makes.ensures c.in-Delete.is refl) c.delete.ensures.answers

pub returns-in-Contains-clause-answers : goal.returns-in-Contains-clause-answers
unfolding call_in makes
returns-in-Contains-clause-answers g c = λ h. done_held g.R.Tree.kind _ _ _ _ _ _ _ _ _ (said g.R.Region.sides g.R.Point.Place.place _ _ _ c.in-Some.is c.in-Contains.is) (opened g.R.Region.sides g.R.Point.Place.place _ _ _ _ c.if-not-held-makes.false c.makes.ensures c.in-Contains.is refl) c.contains.ensures.answers

pub returns-in-Range-clause-answers : goal.returns-in-Range-clause-answers
unfolding call_in makes
returns-in-Range-clause-answers g c = λ h. done_held g.R.Tree.kind _ _ _ _ _ _ _ _ _ (said g.R.Region.sides g.R.Point.Place.place _ _ _ c.in-Some.is c.in-Range.is) (opened g.R.Region.sides g.R.Point.Place.place _ _ _ _ c.if-not-held-makes.false c.makes.ensures c.in-Range.is refl) c.range.ensures.answers

pub returns-in-Knn-clause-answers : goal.returns-in-Knn-clause-answers
unfolding call_in makes
returns-in-Knn-clause-answers g c = λ h. done_held g.R.Tree.kind _ _ _ _ _ _ _ _ _ (said g.R.Region.sides g.R.Point.Place.place _ _ _ c.in-Some.is c.in-Knn.is) (opened g.R.Region.sides g.R.Point.Place.place _ _ _ _ c.if-not-held-makes.false c.makes.ensures c.in-Knn.is refl) c.knn.ensures.answers

pub returns-in-Box-clause-answers : goal.returns-in-Box-clause-answers
unfolding call_in makes
returns-in-Box-clause-answers g c = λ h. done_held g.R.Tree.kind _ _ _ _ _ _ _ _ _ (said g.R.Region.sides g.R.Point.Place.place _ _ _ c.in-Some.is c.in-Box.is) (opened g.R.Region.sides g.R.Point.Place.place _ _ _ _ c.if-not-held-makes.false c.makes.ensures c.in-Box.is refl) c.area.ensures.answers

pub returns-in-Len-clause-answers : goal.returns-in-Len-clause-answers
unfolding call_in makes
returns-in-Len-clause-answers g c = λ h. done_held g.R.Tree.kind _ _ _ _ _ _ _ _ _ (said g.R.Region.sides g.R.Point.Place.place _ _ _ c.in-Some.is c.in-Len.is) (opened g.R.Region.sides g.R.Point.Place.place _ _ _ _ c.if-not-held-makes.false c.makes.ensures c.in-Len.is refl) c.len.ensures.answers

pub returns-in-Clear-clause-answers : goal.returns-in-Clear-clause-answers
unfolding call_in makes
returns-in-Clear-clause-answers g c = λ h. done_held g.R.Tree.kind _ _ _ _ _ _ _ _ _ (said g.R.Region.sides g.R.Point.Place.place _ _ _ c.in-Some.is c.in-Clear.is) (opened g.R.Region.sides g.R.Point.Place.place _ _ _ _ c.if-not-held-makes.false c.makes.ensures c.in-Clear.is refl) c.clear.ensures.answers

pub returns-then-not-held-makes-clause-answers : goal.returns-then-not-held-makes-clause-answers
unfolding number
returns-then-not-held-makes-clause-answers g c = λ h. let s = shut _ _ c.if-not-held-makes.true in
    answers_as g.R.Tree.kind _ _ _ _ _ _ _ _ _ _ (ap (option_map (call_in g.R.Region.sides g.R.Point.Place.place)) c.in-Some.is) (answers_none g.R.Tree.kind _ _ _ _ _ _ _ (sym c.makes.ensures ∙ s.1) s.0 (c.put_reply-then-not-held-makes.ensures.puts.wrote (omega (arith, h))))
