-- `tree_sound::check_node`: what its loops keep, and what grows less. Assumes nothing.
use lib.Dec.{eqb}
use Rattle.words.specs.Words.{words}
use Rattle.model.specs.Calls.{ways}
use Rattle.trees.specs.Points.{point_at}
use Rattle.trees.proofs.Checks.{counts, Descending}
use Rattle.tree_sound.proofs.+check_node.Given as goal

abbrev pub decreases-check_node : goal.decreases-check_node
decreases-check_node g l = l.node.levels

abbrev pub invariant-loop-c : goal.invariant-loop-c
invariant-loop-c g l = Descending (ways g.R.Tree.kind) l.capacity (point_at g.R.Tree.kind.axes (words l.tree.points.now)) (words l.tree.nodes.now) (words l.tree.links.now) l.below (g.R.Region.sides l.bounds) (g.R.Bounded.bounds l.area) l.k (eqb (counts (ways g.R.Tree.kind) (words l.tree.nodes.now) l.k 0 (ways g.R.Tree.kind)) l.n) l.initial.homes l.initial.used l.c l.homes l.used
