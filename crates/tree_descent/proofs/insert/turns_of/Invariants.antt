-- `tree_descent::insert::turns_of`: what its loops keep. Assumes nothing.
use lib.ListN.{length}
use Rattle.words.specs.Words.{words}
use Rattle.model.specs.Boxes.{route}
use Rattle.pool.specs.Read.{chain}
use Rattle.trees.specs.Points.{point_at}
use Rattle.trees.proofs.Turns.{Turning}
use Rattle.tree.specs.Lists.{rest}
use Rattle.tree_descent.proofs.insert.turns_of.Given as goal

abbrev pub invariant-loop-p : goal.invariant-loop-p
invariant-loop-p g l = Turning (λ q. route (g.R.Region.sides l.bounds) (point_at g.R.Tree.kind.axes (words l.points) q).at) (chain (length (words l.links)) (words l.links) l.head) l.fn.turns 0 (rest l.p-iterator) l.turns l.m
