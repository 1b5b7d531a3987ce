-- `geometry_answers::show`: the goals that the search leaves. Assumes nothing.
use mathlib.Core.Path.{ap, ◌∙◌}
use Rattle.std.specs.Prelude.{Some}
use Rattle.geometry_answers.specs.Shown.{said_in, shown, boxed}
use Rattle.geometry_answers.proofs.Texts.{line_none_written, line_written, yes_line}
use Rattle.geometry_answers.proofs.show.Goals as goal

pub returns-then-out-lt128-clause-out_after : goal.returns-then-out-lt128-clause-out_after
returns-then-out-lt128-clause-out_after c = (line_none_written _ _ c.if-out-lt128.true).0

pub returns-then-out-lt128-clause-value : goal.returns-then-out-lt128-clause-value
returns-then-out-lt128-clause-value c = (line_none_written _ _ c.if-out-lt128.true).1

pub returns-in_default-clause-out_after : goal.returns-in_default-clause-out_after
unfolding said_in shown boxed
returns-in_default-clause-out_after c = (line_written _ _ _ _ _ c.in_default.is c.if-out-lt128.false c.mark.ensures.out_after c.mark.ensures.value).0

pub returns-in_default-clause-value : goal.returns-in_default-clause-value
unfolding said_in shown boxed
returns-in_default-clause-value c = (line_written _ _ _ _ _ c.in_default.is c.if-out-lt128.false c.mark.ensures.out_after c.mark.ensures.value).1

pub returns-in-Number-clause-out_after : goal.returns-in-Number-clause-out_after
unfolding said_in shown boxed
returns-in-Number-clause-out_after c = (line_written _ _ _ _ _ (c.in-Some.is ∙ ap Some c.in-Number.is) c.if-out-lt128.false c.put_numbers.ensures.out_after c.put_numbers.ensures.value).0

pub returns-in-Number-clause-value : goal.returns-in-Number-clause-value
unfolding said_in shown boxed
returns-in-Number-clause-value c = (line_written _ _ _ _ _ (c.in-Some.is ∙ ap Some c.in-Number.is) c.if-out-lt128.false c.put_numbers.ensures.out_after c.put_numbers.ensures.value).1

pub returns-in-Yes-clause-out_after : goal.returns-in-Yes-clause-out_after
unfolding said_in shown boxed
returns-in-Yes-clause-out_after c = (line_written _ _ _ _ _ (c.in-Some.is ∙ ap Some c.in-Yes.is) c.if-out-lt128.false (yes_line c.in-Yes.y c.args.out.now _ c.mark-in-Yes.ensures.out_after) c.mark-in-Yes.ensures.value).0

pub returns-in-Yes-clause-value : goal.returns-in-Yes-clause-value
unfolding said_in shown boxed
returns-in-Yes-clause-value c = (line_written _ _ _ _ _ (c.in-Some.is ∙ ap Some c.in-Yes.is) c.if-out-lt128.false (yes_line c.in-Yes.y c.args.out.now _ c.mark-in-Yes.ensures.out_after) c.mark-in-Yes.ensures.value).1

pub returns-in-Child-clause-out_after : goal.returns-in-Child-clause-out_after
unfolding said_in shown boxed
returns-in-Child-clause-out_after c = (line_written _ _ _ _ _ (c.in-Some.is ∙ ap Some c.in-Child.is) c.if-out-lt128.false c.mark-in-Child.ensures.out_after c.mark-in-Child.ensures.value).0

pub returns-in-Child-clause-value : goal.returns-in-Child-clause-value
unfolding said_in shown boxed
returns-in-Child-clause-value c = (line_written _ _ _ _ _ (c.in-Some.is ∙ ap Some c.in-Child.is) c.if-out-lt128.false c.mark-in-Child.ensures.out_after c.mark-in-Child.ensures.value).1

pub returns-in-Quadrant-clause-out_after : goal.returns-in-Quadrant-clause-out_after
unfolding said_in shown boxed
returns-in-Quadrant-clause-out_after c = (line_written _ _ _ _ _ (c.in-Some.is ∙ ap Some c.in-Quadrant.is) c.if-out-lt128.false c.put_numbers-in-Quadrant.ensures.out_after c.put_numbers-in-Quadrant.ensures.value).0

pub returns-in-Quadrant-clause-value : goal.returns-in-Quadrant-clause-value
unfolding said_in shown boxed
returns-in-Quadrant-clause-value c = (line_written _ _ _ _ _ (c.in-Some.is ∙ ap Some c.in-Quadrant.is) c.if-out-lt128.false c.put_numbers-in-Quadrant.ensures.out_after c.put_numbers-in-Quadrant.ensures.value).1

pub returns-in-Octant-clause-out_after : goal.returns-in-Octant-clause-out_after
unfolding said_in shown boxed
returns-in-Octant-clause-out_after c = (line_written _ _ _ _ _ (c.in-Some.is ∙ ap Some c.in-Octant.is) c.if-out-lt128.false c.put_numbers-in-Octant.ensures.out_after c.put_numbers-in-Octant.ensures.value).0

pub returns-in-Octant-clause-value : goal.returns-in-Octant-clause-value
unfolding said_in shown boxed
returns-in-Octant-clause-value c = (line_written _ _ _ _ _ (c.in-Some.is ∙ ap Some c.in-Octant.is) c.if-out-lt128.false c.put_numbers-in-Octant.ensures.out_after c.put_numbers-in-Octant.ensures.value).1
