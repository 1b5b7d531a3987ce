-- `tree_search::nearest::knn_search_helper`: what its loops keep, and what grows less. Assumes nothing.
use Rattle.model.specs.Calls.{ways}
use Prim.Native.Nat.{◌-◌}
use Rattle.words.specs.Words.{words}
use Rattle.trees.specs.Points.{point_at}
use Rattle.trees.proofs.Tables.{Nexts}
use Rattle.tree_search.specs.Tables.{SameTable}
use Rattle.tree_search.proofs.nearest.+knn_search_helper.Given as goal

abbrev pub decreases-knn_search_helper : goal.decreases-knn_search_helper
decreases-knn_search_helper g l = l.node.levels

abbrev pub invariant-loop-j : goal.invariant-loop-j
invariant-loop-j g l = record {
  same : SameTable l.fn.table l.table;
  nexts : Nexts (point_at g.R.Tree.kind.axes (words l.tree.points.now)) (g.R.Point.Place.place l.target) l.fn.table.k (ways g.R.Tree.kind) (words l.tree.nodes.now) (words l.tree.links.now) (l.levels - 1) (g.R.Region.sides l.bounds) l.g l.fn.table.dist.now l.fn.table.item.now l.fn.table.count l.j l.table.dist.now l.table.item.now l.table.count;
}
