-- `tree_delete::delete`: the goals that the search leaves. Assumes nothing.
use mathlib.Core.Path.{refl, ap, sym, ◌∙◌}
use Rattle.std.proofs.Common.{length-take-le}
use native.Mathlib.Omega.{arith}
use borrow.Author.Tests.{not-false, not-true}
use Rattle.model.specs.Calls.{number}
use Rattle.trees.proofs.Removals.{deletes_absent, deletes_done, deletes_outside}
use Rattle.trees.proofs.Deletes.{along_all}
use Rattle.trees.proofs.Finds.{Place}
use Rattle.trees.proofs.Ways.{path_is, path_short}
use Rattle.tree_delete.proofs.delete.Goals as goal

pub returns-then-not-contains : goal.returns-then-not-contains
unfolding number
returns-then-not-contains g c = deletes_outside g.R.Tree.kind g.met.R.Tree.regular _ _ c.numbers.ensures _ _ c.boundary-bounds.ensures c.contains.ensures (not-true c.contains.result c.if-not-contains.true-raw)

pub returns-in_default : goal.returns-in_default
unfolding number
returns-in_default g c = deletes_absent g.R.Tree.kind g.met.R.Tree.regular _ _ c.numbers.ensures _ _ c.boundary-bounds.ensures c.contains.ensures (not-false c.contains.result c.if-not-contains.false-raw) _ c.leaf_of-leaf.ensures.node _ c.first-start.ensures _ refl (ap (λ (s : Place). s.place) (sym c.in_default.ensures))

pub returns : goal.returns
unfolding number
returns g c = deletes_done g.R.Tree.kind g.met.R.Tree.regular _ _ c.numbers.ensures _ _ c.boundary-bounds.ensures c.contains.ensures (not-false c.contains.result c.if-not-contains.false-raw) _ c.leaf_of-leaf.ensures.node _ c.first-start.ensures _ c.in-Ok.ensures.0 c.in-Ok.ensures.1 _ c.capacity-most.ensures _ _ _ c.unlink.auto.nodes (c.give_place.auto.links ∙ c.unlink.auto.links) (along_all _ _ _ _ _ _ _ _ _ _ _ _ _ _ (c.unlink.ensures _ _) (path_is _ _ _ _ _ _ _ _ _ (omega arith) c.leaf_of-leaf.ensures.notes) c.leaf_of-leaf.ensures.node) c.give_place.ensures.tree

pub slice_bounds-path-end : goal.slice_bounds-path-end
slice_bounds-path-end g c = omega (arith, c.leaf_of-leaf.auto.path, path_short _ _ _ _ _ _ _ _ _ (omega arith) c.leaf_of-leaf.ensures.notes)

pub slice_bounds-unlink-end : goal.slice_bounds-unlink-end
slice_bounds-unlink-end g c = sym (length-take-le _ _ (omega (arith, c.leaf_of-leaf.auto.path, path_short _ _ _ _ _ _ _ _ _ (omega arith) c.leaf_of-leaf.ensures.notes)))
