-- `tree_insert::insert::insert`: the goals that the search leaves. Assumes nothing.
use mathlib.Core.Path.{sym}
use native.Mathlib.Omega.{arith}
use Rattle.std.proofs.Common.{length-take-le}
use borrow.Author.Tests.{not-false, not-true}
use Rattle.model.specs.Calls.{number}
use Rattle.trees.proofs.Changes.{inserts_crowded, inserts_done, inserts_full, inserts_outside}
use Rattle.trees.proofs.Ways.{path_is, path_short}
use Rattle.tree_insert.proofs.insert.insert.Goals as goal

pub returns-then-not-contains : goal.returns-then-not-contains
unfolding number
returns-then-not-contains g c = inserts_outside g.R.Tree.kind g.R.Tree.groups g.met.R.Tree.named.roomy _ _ _ _ c.boundary-bounds.ensures c.contains.ensures (not-true c.contains.result c.if-not-contains.true-raw)

pub returns-then-n-ge512 : goal.returns-then-n-ge512
unfolding number
returns-then-n-ge512 g c = inserts_full g.R.Tree.kind g.R.Tree.groups g.met.R.Tree.named.roomy _ _ _ _ c.boundary-bounds.ensures c.contains.ensures (not-false c.contains.result c.if-not-contains.false-raw) _ c.count-n.ensures c.if-n-ge512.true

pub returns-then-not-has_room : goal.returns-then-not-has_room
unfolding number
returns-then-not-has_room g c = inserts_crowded g.R.Tree.kind g.R.Tree.groups g.met.R.Tree.named.roomy _ _ _ _ c.boundary-bounds.ensures c.contains.ensures (not-false c.contains.result c.if-not-contains.false-raw) _ c.count-n.ensures c.if-n-ge512.false _ c.capacity-most.ensures _ (c.has_room.ensures _ c.leaf_of-leaf.ensures.node) (not-true c.has_room.result c.if-not-has_room.true-raw)

pub returns : goal.returns
unfolding number
returns g c = inserts_done g.R.Tree.kind g.R.Tree.groups g.met.R.Tree.named.roomy _ _ _ _ c.boundary-bounds.ensures c.contains.ensures (not-false c.contains.result c.if-not-contains.false-raw) _ c.count-n.ensures c.if-n-ge512.false _ c.capacity-most.ensures _ (c.has_room.ensures _ c.leaf_of-leaf.ensures.node) _ _ _ (not-false c.has_room.result c.if-not-has_room.false-raw) c.store.auto.nodes c.store.auto.links c.store.auto.points (c.store.ensures _ c.leaf_of-leaf.ensures.node (path_is _ _ _ _ _ _ _ _ _ (omega arith) c.leaf_of-leaf.ensures.notes)) c.numbers.ensures

pub slice_bounds-path-end : goal.slice_bounds-path-end
slice_bounds-path-end g c = omega (arith, c.leaf_of-leaf.auto.path, path_short _ _ _ _ _ _ _ _ _ (omega arith) c.leaf_of-leaf.ensures.notes)

pub slice_bounds-store-end : goal.slice_bounds-store-end
slice_bounds-store-end g c = sym (length-take-le _ _ (omega (arith, c.leaf_of-leaf.auto.path, path_short _ _ _ _ _ _ _ _ _ (omega arith) c.leaf_of-leaf.ensures.notes)))
