-- `tree_descent::insert::turns_of`: the goals that the search leaves. Assumes nothing.
use mathlib.Core.Path.{ap, ◌∙◌}
use Rattle.model.specs.Boxes.{route}
use Rattle.trees.proofs.Turns.{turned, turning_start, turning_step, turning_end}
use Rattle.tree.specs.Lists.{rest}
use Rattle.tree_descent.proofs.insert.turns_of.Goals as goal

pub loop-p-init : goal.loop-p-init
loop-p-init g c = turning_start _ _ _ _ _ (ap rest c.into_iter-p-iterator.ensures.into_iter_gives ∙ c.list-p-items.ensures)

pub loop-p-preserved : goal.loop-p-preserved
loop-p-preserved g c = turning_step _ _ _ _ _ _ _ _ _ _ _ _ c.loop-p.invariant c.in-Some.ensures.steps (c.child_index-c.ensures.value ∙ ap (route (g.R.Region.sides c.args.bounds)) c.point_at.ensures) c.note-m.auto.found c.note-m.ensures

pub returns : goal.returns
unfolding turned
returns g c = turning_end _ _ _ _ _ _ _ c.loop-p.invariant c.in-None.ensures.steps.0
