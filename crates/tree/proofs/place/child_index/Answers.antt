-- `tree::place::child_index`: the goals that the search leaves. Assumes nothing.
use mathlib.Core.Path.{sym, ap, ◌∙◌}
use Prim.Native.Nat.{ℕ, ◌^◌}
use Rattle.trees.proofs.Descents.{small_route}
use Rattle.tree.proofs.place.child_index.Goals as goal

pub returns-clause-value : goal.returns-clause-value
returns-clause-value g c = small_route _ _ _ _ (ap (λ (a : ℕ). 2 ^ a) (g.met.R.Tree.each_side c.args.b) ∙ sym c.ways.ensures) c.child_index.ensures
