-- `tree_descent::descent::leaf_of`: what its loops keep. Assumes nothing.
use Prim.Native.Nat.{◌-◌}
use Rattle.words.specs.Words.{words}
use Rattle.trees.proofs.Ways.{Going}
use Rattle.model.specs.Calls.{ways}
use Rattle.tree_descent.proofs.descent.leaf_of.Given as goal

abbrev pub invariant-loop-step : goal.invariant-loop-step
invariant-loop-step g l = Going (ways g.R.Tree.kind) (words l.nodes) (g.R.Point.Place.place l.point) l.levels (g.R.Region.sides l.fn.from.bounds) l.fn.from.index l.fn.path (l.levels - l.step) (g.R.Region.sides l.bounds) l.index l.path l.depth
