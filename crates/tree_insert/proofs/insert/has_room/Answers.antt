-- `tree_insert::insert::has_room`: the goals that the search leaves. Assumes nothing.
use mathlib.Core.Path.{subst}
use Prim.Native.Nat.{ℕ}
use Rattle.words.specs.Words.{words}
use Rattle.pool.specs.Meanings.{Tells}
use Rattle.trees.proofs.Changes.{rooms}
use Rattle.tree_insert.proofs.insert.has_room.Goals as goal

pub returns : goal.returns
returns g c = λ b e. rooms _ _ _ _ _ _ _ _ _ _ _ _ e c.need-k.ensures (subst (λ (w : ℕ). Tells w (words c.args.tree.now.nodes.now) c.need-k.result c.has_groups.result) c.ways.ensures c.has_groups.ensures.tree)
