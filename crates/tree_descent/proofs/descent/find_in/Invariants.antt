-- `tree_descent::descent::find_in`: what its loops keep. Assumes nothing.
use mathlib.Core.Path.{◌≡◌}
use lib.ListN.{length}
use Rattle.words.specs.Words.{words}
use Rattle.model.specs.Trees.{same}
use Rattle.pool.specs.Read.{chain}
use Rattle.trees.specs.Points.{point_at}
use Rattle.trees.proofs.Finds.{seek}
use Rattle.tree.specs.Lists.{rest}
use Rattle.tree_descent.proofs.descent.find_in.Given as goal

abbrev pub invariant-loop-place : goal.invariant-loop-place
invariant-loop-place g l = seek (λ p. same (record { at = g.R.Point.Place.place l.point; payload = l.mark }) (point_at g.R.Tree.kind.axes (words l.tree.points.now) p)) (rest l.place-iterator) l.before ≡ seek (λ p. same (record { at = g.R.Point.Place.place l.point; payload = l.mark }) (point_at g.R.Tree.kind.axes (words l.tree.points.now) p)) (chain (length (words l.tree.links.now)) (words l.tree.links.now) l.head) 0
