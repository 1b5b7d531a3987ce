-- `tree_descent::descent::all_go`: the goals that the search leaves. Assumes nothing.
use mathlib.Core.Path.{sym, ap, ◌∙◌}
use Rattle.model.specs.Boxes.{route}
use Rattle.trees.proofs.Descents.{alike_end, alike_next, alike_no, alike_start}
use Rattle.tree.specs.Lists.{rest}
use Rattle.tree_descent.proofs.descent.all_go.Goals as goal

pub loop-p-init : goal.loop-p-init
loop-p-init g c = alike_start _ _ _ _ _ _ (ap rest c.into_iter-p-iterator.ensures.into_iter_gives ∙ c.list-p-items.ensures)

pub returns-then-child_index-c : goal.returns-then-child_index-c
returns-then-child_index-c g c = sym (alike_no _ _ _ _ _ _ c.in-Some.ensures.steps (c.child_index.ensures.value ∙ ap (route (g.R.Region.sides c.args.bounds)) c.point_at.ensures) c.if-child_index-c.true) ∙ c.loop-p.invariant

pub loop-p-preserved : goal.loop-p-preserved
loop-p-preserved g c = sym (alike_next _ _ _ _ _ _ c.in-Some.ensures.steps (c.child_index.ensures.value ∙ ap (route (g.R.Region.sides c.args.bounds)) c.point_at.ensures) c.if-child_index-c.false) ∙ c.loop-p.invariant

pub returns : goal.returns
returns g c = sym (alike_end _ _ _ c.in-None.ensures.steps.0) ∙ c.loop-p.invariant
