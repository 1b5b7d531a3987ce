-- `tree::space::CubeTree::write`: the goals that the search leaves. Assumes nothing.
use mathlib.Core.Path.{ap, ◌∙◌}
use native.Mathlib.Omega.{arith}
use Prim.Native.Nat.{ℕ, ◌+◌, min}
use Rattle.trees.proofs.Puts.{put_end, put_next}
use Rattle.tree.proofs.Far.{far_put}
use Rattle.tree.proofs.space.CubeTree.write.Goals as goal

pub returns : goal.returns
returns c =
    let i = c.args.i in
    let y = c.put_float-2.ensures ∙ far_put _ (i + 1) _ _ (omega arith) c.saturating_add.ensures in
    let z = c.put_float-3.ensures ∙ far_put _ (i + 1 + 1) _ _ (omega arith) (c.saturating_add-2.ensures ∙ ap (λ (n : ℕ). min n 18446744073709551615) (omega arith)) in
    put_next _ _ _ _ _ i c.put_float.ensures (put_next _ _ _ _ _ (i + 1) y (put_next _ _ _ _ _ (i + 1 + 1) z (put_end _ _)))
