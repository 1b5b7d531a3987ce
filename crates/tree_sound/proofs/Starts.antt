-- The marks that the soundness test begins with: for groups the part of an array of marks not set that a tree has. Assumes nothing.
use mathlib.Core.Path.{◌≡◌, ap, ◌∙◌, subst}
use mathlib.Core.Bool.{Bool}
use mathlib.Core.List.{List}
use Prim.Native.Nat.{ℕ, suc, ◌+◌, ◌≤◌}
use native.Mathlib.Omega.{arith}
use lib.ListN.{take}
use Rattle.std.proofs.lemmas.List.{take-replicate}
use Rattle.model.specs.Boxes.{Side}
use Rattle.model.specs.Trees.{Point}
use Rattle.trees.proofs.Areas.{Bound}
use Rattle.trees.proofs.Checks.{Checks}
use Rattle.trees.proofs.Marks.{Rest}
use Rattle.trees.proofs.Soundness.{unmet}

module _ (w c : ℕ) (pt : ℕ → Point) (n x : List ℕ) (d : ℕ) (b : List Side) (a : List Bound) (i : ℕ) (m m1 u1 : List ℕ) (t : Bool) where
  pub checks_lent : (r g : ℕ) → r ≡ g → g ≤ 85 → Checks w c pt n x d b a i m (take (r + 1) (unmet 86)) m1 u1 t → Checks w c pt n x d b a i m (unmet (suc g)) m1 u1 t
  checks_lent r g e h k = subst (λ (u : List ℕ). Checks w c pt n x d b a i m u m1 u1 t) lent k
    where
      lent : take (r + 1) (unmet 86) ≡ unmet (suc g)
      lent = take-replicate (r + 1) 86 0 (omega (arith, e, h)) ∙ ap unmet {x = r + 1} {y = suc g} (omega (arith, e))

pub rest_as : (w w' : ℕ) (n x m u : List ℕ) (r : Bool) → w ≡ w' → Rest w n x m u r → Rest w' n x m u r
rest_as w w' n x m u r e q = subst (λ (v : ℕ). Rest v n x m u r) e q
