-- `tree_descent::descent::all_go`: what its loops keep. Assumes nothing.
use mathlib.Core.Path.{◌≡◌}
use lib.ListN.{length}
use Rattle.words.specs.Words.{words}
use Rattle.model.specs.Boxes.{route}
use Rattle.trees.specs.Points.{point_at}
use Rattle.trees.proofs.Descents.{alike, together}
use Rattle.tree.specs.Lists.{rest}
use Rattle.tree_descent.proofs.descent.all_go.Given as goal

abbrev pub invariant-loop-p : goal.invariant-loop-p
invariant-loop-p g l = alike (λ p. route (g.R.Region.sides l.bounds) (point_at g.R.Tree.kind.axes (words l.tree.points.now) p).at) l.c (rest l.p-iterator) ≡ together (λ p. route (g.R.Region.sides l.bounds) (point_at g.R.Tree.kind.axes (words l.tree.points.now) p).at) l.c (length (words l.tree.links.now)) (words l.tree.links.now) l.head
