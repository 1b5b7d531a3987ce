-- `tree_search::search::collect_list`: what its loops keep. Assumes nothing.
use lib.ListN.{length}
use Rattle.words.specs.Words.{words}
use Rattle.pool.specs.Read.{chain}
use Rattle.trees.specs.Points.{point_at}
use Rattle.trees.proofs.Collects.{Listing}
use Rattle.tree.specs.Lists.{rest}
use Rattle.tree_search.proofs.search.collect_list.Given as goal

abbrev pub invariant-loop-p : goal.invariant-loop-p
invariant-loop-p g l = Listing (λ p. g.Q.Question.takes l.q (point_at g.R.Tree.kind.axes (words l.tree.points.now) p).at) (chain (length (words l.tree.links.now)) (words l.tree.links.now) l.head) l.fn.found l.n (rest l.p-iterator) l.found l.m
