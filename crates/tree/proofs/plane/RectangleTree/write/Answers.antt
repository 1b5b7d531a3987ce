-- `tree::plane::RectangleTree::write`: the goals that the search leaves. Assumes nothing.
use mathlib.Core.Path.{◌∙◌}
use native.Mathlib.Omega.{arith}
use Prim.Native.Nat.{◌+◌}
use Rattle.trees.proofs.Puts.{put_end, put_next}
use Rattle.tree.proofs.Far.{far_put}
use Rattle.tree.proofs.plane.RectangleTree.write.Goals as goal

pub returns : goal.returns
returns c =
    let y = c.put_float-2.ensures ∙ far_put _ (c.args.i + 1) _ _ (omega arith) c.saturating_add.ensures in
    put_next _ _ _ _ _ c.args.i c.put_float.ensures (put_next _ _ _ _ _ (c.args.i + 1) y (put_end _ (c.args.i + 1 + 1)))
