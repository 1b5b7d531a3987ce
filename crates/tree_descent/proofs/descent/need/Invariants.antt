-- `tree_descent::descent::need`: what its loops keep. Assumes nothing.
use Prim.Native.Nat.{◌-◌}
use Rattle.words.specs.Words.{words}
use Rattle.trees.specs.Points.{point_at}
use Rattle.trees.proofs.Descents.{Counting}
use Rattle.tree_descent.proofs.descent.need.Given as goal

abbrev pub invariant-loop-more : goal.invariant-loop-more
invariant-loop-more g l = Counting l.capacity (point_at g.R.Tree.kind.axes (words l.tree.points.now)) (g.R.Point.Place.place l.point) (words l.tree.nodes.now) (words l.tree.links.now) l.index l.levels (g.R.Region.sides l.fn.node.bounds) (l.levels - l.more) (g.R.Region.sides l.bounds) l.more
