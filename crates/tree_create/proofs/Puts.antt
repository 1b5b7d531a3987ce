-- What is written where the code counts the axes.
use mathlib.Core.Path.{◌≡◌, ap, ◌∙◌}
use mathlib.Core.List.{List}
use Prim.Native.Nat.{ℕ, ◌+◌, ◌*◌}
use lib.Ieee.{Float}
use lib.ListN.{set}
use Rattle.model.specs.Trees.{Point}
use Rattle.trees.proofs.Puts.{put_head_lem, put_last, put_floats, put_head, put_point}

pub point_put : (axes n : ℕ) (w w1 r : List ℕ) (p i : ℕ) (q : Point) → n ≡ axes → i ≡ (n + 1) * p → w1 ≡ put_floats q.at w i → r ≡ set w1 (2 * i + 2 * n) q.payload → r ≡ put_point axes w p q
point_put axes n w w1 r p i q en ei e1 e2 = put_last n w w1 r p q (e1 ∙ ap (put_floats q.at w) ei) (e2 ∙ ap (λ (j : ℕ). set w1 (2 * j + 2 * n) q.payload) ei) ∙ ap (λ (a : ℕ). put_point a w p q) en

pub head_put : (axes n : ℕ) (w w1 w2 r : List ℕ) (cs es : List Float) (cap : ℕ) → n ≡ axes → w1 ≡ put_floats cs w 0 → w2 ≡ put_floats es w1 n → r ≡ set w2 (4 * n) cap → r ≡ put_head axes w cs es cap
head_put axes n w w1 w2 r cs es cap en e1 e2 e = put_head_lem n w w1 w2 r cs es cap e1 e2 e ∙ ap (λ (a : ℕ). put_head a w cs es cap) en
