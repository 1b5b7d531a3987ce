-- `tree_descent::descent::find_in`: the goals that the search leaves. Assumes nothing.
use mathlib.Core.Path.{sym, ap, ◌∙◌}
use Prim.Native.Nat.{ℕ}
use mathlib.Core.List.{List}
use Rattle.model.specs.Trees.{same}
use Rattle.words.specs.Words.{words}
use Rattle.trees.specs.Points.{point_at}
use Rattle.trees.proofs.Finds.{chain_some, seek, seek_end, seek_hit, seek_next}
use Rattle.tree.specs.Lists.{rest}
use Rattle.tree_descent.proofs.descent.find_in.Goals as goal

pub loop-place-init : goal.loop-place-init
loop-place-init g c = ap (λ (l : List ℕ). seek (λ p. same (record { at = g.R.Point.Place.place c.args.point; payload = c.args.mark }) (point_at g.R.Tree.kind.axes (words c.args.tree.now.points.now) p)) l 0) (ap rest c.into_iter-place-iterator.ensures.into_iter_gives ∙ c.list-place-items.ensures)

pub returns-then-same_at : goal.returns-then-same_at
returns-then-same_at g c = (seek_hit _ _ _ _ _ _ c.in-Some.ensures.steps c.same_at.ensures c.if-same_at.true ∙ c.loop-place.invariant, chain_some _ _ _ _ _ c.in-Some.ensures.steps)

pub loop-place-preserved : goal.loop-place-preserved
loop-place-preserved g c = seek_next _ _ _ _ _ _ c.in-Some.ensures.steps c.same_at.ensures c.if-same_at.false ∙ c.loop-place.invariant

pub returns : goal.returns
returns g c = sym (seek_end _ _ _ c.in-None.ensures.steps.0) ∙ c.loop-place.invariant
