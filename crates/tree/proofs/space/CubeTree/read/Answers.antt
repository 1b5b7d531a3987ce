-- `tree::space::CubeTree::read`: the goals that the search leaves. Assumes nothing.
use mathlib.Core.Path.{ap, ap₂, ◌∙◌}
use mathlib.Core.List.{[], ◌∷◌}
use native.Mathlib.Omega.{arith}
use Prim.Native.Nat.{ℕ, ◌+◌, min}
use Rattle.std.specs.Float.{Float, binary64}
use Rattle.std.specs.Float.Ieee.{of_bits}
use Rattle.tree.proofs.Far.{far_float}
use Rattle.tree.proofs.space.CubeTree.read.Goals as goal

pub returns : goal.returns
returns c =
    let t = c.args.t.now in
    let y = far_float t (c.args.i + 1) _ (omega arith) c.saturating_add.ensures in
    let z = far_float t (c.args.i + 1 + 1) _ (omega arith) (c.saturating_add-2.ensures ∙ ap (λ (n : ℕ). min n 18446744073709551615) (omega arith)) in
    ap₂ ◌∷◌ c.get_float-x.ensures (ap₂ (λ (v w : Float). v ∷ w ∷ []) (c.get_float-y.ensures ∙ ap (of_bits binary64) y) (c.get_float-z.ensures ∙ ap (of_bits binary64) z))
