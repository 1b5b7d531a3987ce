-- `tree::plane::RectangleTree::read`: the goals that the search leaves. Assumes nothing.
use mathlib.Core.Path.{ap, ap₂, ◌∙◌}
use mathlib.Core.List.{[], ◌∷◌}
use native.Mathlib.Omega.{arith}
use Prim.Native.Nat.{◌+◌}
use Rattle.std.specs.Float.{Float, binary64}
use Rattle.std.specs.Float.Ieee.{of_bits}
use Rattle.tree.proofs.Far.{far_float}
use Rattle.tree.proofs.plane.RectangleTree.read.Goals as goal

pub returns : goal.returns
returns c = ap₂ (λ (x y : Float). x ∷ y ∷ []) c.get_float-x.ensures (c.get_float-y.ensures ∙ ap (of_bits binary64) (far_float c.args.t.now (c.args.i + 1) _ (omega arith) c.saturating_add.ensures))
