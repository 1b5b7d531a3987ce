-- `tree_search::nearest::offer_list`: what its loops keep. Assumes nothing.
use lib.ListN.{length}
use Rattle.words.specs.Words.{words}
use Rattle.pool.specs.Read.{chain}
use Rattle.trees.specs.Points.{point_at}
use Rattle.trees.proofs.Seeks.{candidate}
use Rattle.trees.proofs.Tables.{Offering}
use Rattle.tree.specs.Lists.{rest}
use Rattle.tree_search.specs.Tables.{SameTable}
use Rattle.tree_search.proofs.nearest.offer_list.Given as goal

abbrev pub invariant-loop-p : goal.invariant-loop-p
invariant-loop-p g l = record {
  same : SameTable l.fn.table l.table;
  offering : Offering l.fn.table.k (candidate (point_at g.R.Tree.kind.axes (words l.tree.points.now)) (g.R.Point.Place.place l.target)) (chain (length (words l.tree.links.now)) (words l.tree.links.now) l.head) l.fn.table.dist.now l.fn.table.item.now l.fn.table.count (rest l.p-iterator) l.table.dist.now l.table.item.now l.table.count;
}
