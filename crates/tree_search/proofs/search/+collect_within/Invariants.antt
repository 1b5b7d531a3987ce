-- `tree_search::search::collect_within`: what its loops keep, and what grows less. Assumes nothing.
use Rattle.model.specs.Calls.{ways}
use mathlib.Core.Path.{◌≡◌}
use Prim.Native.Nat.{◌-◌}
use lib.ListN.{length}
use Rattle.words.specs.Words.{words}
use Rattle.trees.specs.Points.{point_at}
use Rattle.trees.proofs.Collects.{Rows}
use Rattle.tree_search.proofs.search.+collect_within.Given as goal

abbrev pub decreases-collect_within : goal.decreases-collect_within
decreases-collect_within g l = l.node.levels

abbrev pub invariant-loop-c : goal.invariant-loop-c
invariant-loop-c g l = (length l.found ≡ length l.fn.found) × Rows (g.Q.Question.meets l.q) (λ p. g.Q.Question.takes l.q (point_at g.R.Tree.kind.axes (words l.tree.points.now) p).at) (ways g.R.Tree.kind) (words l.tree.nodes.now) (words l.tree.links.now) (l.levels - 1) (g.R.Region.sides l.bounds) l.k l.fn.found l.n l.c l.found l.m
