-- `tree_sound_leaves::leaf::check_list`: what its loops keep. Assumes nothing.
use Prim.Native.Nat.{◌-◌}
use Rattle.words.specs.Words.{words}
use Rattle.trees.specs.Points.{point_at}
use Rattle.trees.proofs.Checks.{Listing}
use Rattle.tree_sound_leaves.proofs.leaf.check_list.Given as goal

abbrev pub invariant-loop : goal.invariant-loop
invariant-loop g l = Listing (point_at g.R.Tree.kind.axes (words l.tree.points.now)) (words l.tree.links.now) (g.R.Bounded.bounds l.area) l.head l.tail l.n l.fn.homes l.homes l.p l.end (l.n - l.counter)
