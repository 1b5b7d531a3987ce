-- `tree_descent::insert::subdivide`: the goals that the search leaves. Assumes nothing.
use mathlib.Core.Path.{ap}
use Prim.Native.Nat.{ℕ, ◌^◌}
use lib.ListN.{replicate}
use Rattle.trees.proofs.Turns.{parts}
use Rattle.tree_descent.proofs.insert.subdivide.Goals as goal

pub returns : goal.returns
returns g c = λ few. parts _ _ _ _ _ _ _ _ _ (replicate 513 0) _ (ap (λ (a : ℕ). 2 ^ a) (g.met.R.Tree.each_side c.args.bounds)) c.first-head.ensures c.turns_of.ensures few c.split_in.ensures
