-- Laws of hex digits that are printed from bytes. Assumes nothing.
use mathlib.Core.Path.{◌≡◌, refl, sym, ap, ap₂, ◌∙◌, subst}
use mathlib.Core.List.{List, [], ◌∷◌, ◌++◌, append_assoc}
use Prim.Native.Nat.{ℕ, zero, suc, ◌+◌, ◌-◌, ◌*◌, ◌/◌, ◌%◌, ◌≤◌, ◌<◌}
use native.Mathlib.Nat.{add-zero}
use native.Mathlib.Numerals.{add-one}
use native.Mathlib.Omega.{arith}
use lib.ListN.{length, get_or, set, take, drop, length-set, drop_of_length-le}
use lib.Seq.{drop-cons, get_or-take, get_or-drop}
use Rattle.record.specs.Numbers.{glyph, spelt}
use Rattle.trees.specs.Pieces.{bytes}
use Rattle.replies.specs.Lines.{field}
use Rattle.replies.specs.Printed.{nibbles, hex_at}
use Rattle.replies.specs.Programs.{Wrote}
use Rattle.replies.proofs.Written.{then}

-- two digits for each byte
pub nibbles_bytes : (n v : ℕ) → nibbles (bytes n v) ≡ spelt 16 (2 * n) v
unfolding nibbles bytes spelt
nibbles_bytes zero v = refl
nibbles_bytes (suc n) v =
    ap₂ (λ (s t : List ℕ). s ++ t) (nibbles_bytes n (v / 256)) (ap₂ (λ (a b : ℕ). glyph a ∷ glyph b ∷ []) high low)
    ∙ ap (λ (u : ℕ). spelt 16 (2 * n) u ++ (glyph (v / 16 % 16) ∷ glyph (v % 16) ∷ [])) over
    ∙ sym (append_assoc (spelt 16 (2 * n) (v / 16 / 16)) (glyph (v / 16 % 16) ∷ []) (glyph (v % 16) ∷ []))
    ∙ ap (λ (m : ℕ). spelt 16 m v) twice
  where
    high : v % 256 / 16 ≡ v / 16 % 16
    high = omega arith

    low : v % 256 % 16 ≡ v % 16
    low = omega arith

    over : v / 256 ≡ v / 16 / 16
    over = omega arith

    twice : suc (suc (2 * n)) ≡ 2 * suc n
    twice = omega arith

-- ---- the eight bytes of a float
byte_then : (s l : List ℕ) (k j n : ℕ) → k < length s → j ≡ suc k → l ≡ take n (drop j s) → get_or s k 0 ∷ l ≡ take (suc n) (drop k s)
byte_then s l k j n h e f = ap (λ (t : List ℕ). get_or s k 0 ∷ t) (f ∙ ap (λ (i : ℕ). take n (drop i s)) e) ∙ ap (take (suc n)) (sym (drop-cons s k 0 h))

pub eight_are : (s : List ℕ) (k : ℕ) → k + 8 ≤ length s
    → get_or s k 0 ∷ get_or s (k + 1) 0 ∷ get_or s (k + 2) 0 ∷ get_or s (k + 3) 0 ∷ get_or s (k + 4) 0 ∷ get_or s (k + 5) 0 ∷ get_or s (k + 6) 0 ∷ get_or s (k + 7) 0 ∷ [] ≡ take 8 (drop k s)
eight_are s k h =
    byte_then s _ k (k + 1) 7 (omega arith) (omega arith)
    (byte_then s _ (k + 1) (k + 2) 6 (omega arith) (omega arith)
    (byte_then s _ (k + 2) (k + 3) 5 (omega arith) (omega arith)
    (byte_then s _ (k + 3) (k + 4) 4 (omega arith) (omega arith)
    (byte_then s _ (k + 4) (k + 5) 3 (omega arith) (omega arith)
    (byte_then s _ (k + 5) (k + 6) 2 (omega arith) (omega arith)
    (byte_then s _ (k + 6) (k + 7) 1 (omega arith) (omega arith)
    (byte_then s _ (k + 7) (k + 8) 0 (omega arith) (omega arith) refl)))))))

module _ (s cs : List ℕ) (i : ℕ) (e : s ≡ take 8 (drop (8 * i) cs)) where
  pub eight_small : (k : ℕ) → ((j : ℕ) → get_or cs j 0 < 256) → k < 8 → get_or s k 0 < 256
  eight_small k h l = omega (arith, ap (λ (t : List ℕ). get_or t k 0) e, get_or-take 8 (drop (8 * i) cs) k 0 l, get_or-drop (8 * i) cs k 0, h (8 * i + k))

-- ---- the loop over the bytes, of which k are left
module _ (s : List ℕ) (o₀ : List ℕ) (w₀ : ℕ) where
  pub record Hexing (o : List ℕ) (w k : ℕ) : Type 0 where
    pub whole : length s ≡ 8
    pub few : k ≤ 8
    pub so_far : w + 2 * k ≡ w₀ + 16
    pub same : length o ≡ length o₀
    pub wrote : Wrote o₀ w₀ (nibbles (drop k s)) o w

  pub hexing_start : length s ≡ 8 → Hexing o₀ w₀ 8
  unfolding nibbles
  hexing_start e = record {
    whole = e;
    few = omega arith;
    so_far = omega arith;
    same = refl;
    wrote = subst (λ (l : List ℕ). Wrote o₀ w₀ (nibbles l) o₀ w₀) (sym (drop_of_length-le s {i = 8} (omega arith))) (sym (add-zero w₀), refl);
  }

  one_more : (k b : ℕ) → k < length s → b ≡ get_or s k 0 → nibbles (drop k s) ≡ nibbles (drop (suc k) s) ++ (glyph (b / 16) ∷ glyph (b % 16) ∷ [])
  unfolding nibbles
  one_more k b l e = ap nibbles (drop-cons s k 0 l) ∙ ap (λ (x : ℕ). nibbles (drop (suc k) s) ++ (glyph (x / 16) ∷ glyph (x % 16) ∷ [])) (sym e)

  pub hexing_step : (o : List ℕ) (w k b g h : ℕ) → Hexing o w k → 0 < k → b ≡ get_or s (k - 1) 0 → g ≡ glyph (b / 16) → h ≡ glyph (b % 16) → Hexing (set (set o w g) (w + 1) h) (w + 2) (k - 1)
  hexing_step o w zero b g h q l e eg eh = absurd (omega arith)
  hexing_step o w (suc k) b g h q l e eg eh =
      let j : suc k - 1 ≡ k = omega arith in
      record {
        whole = q.whole;
        few = omega (arith, q.few);
        so_far = omega (arith, q.so_far);
        same = length-set (set o w g) (w + 1) h ∙ length-set o w g ∙ q.same;
        wrote = subst (λ (x : List ℕ). Wrote o₀ w₀ x (set (set o w g) (w + 1) h) (w + 2))
            (sym (ap (λ (i : ℕ). nibbles (drop i s)) j ∙ one_more k b (omega (arith, q.few, q.whole)) (e ∙ ap (λ (i : ℕ). get_or s i 0) j)))
            (then o₀ o (set (set o w g) (w + 1) h) (nibbles (drop (suc k) s)) (glyph (b / 16) ∷ glyph (b % 16) ∷ []) w₀ w (w + 2) q.wrote
            (refl, (ap₂ (λ (x y : ℕ). set (set o w x) (w + 1) y) eg eh ∙ ap (λ (i : ℕ). set (set o w (glyph (b / 16))) i (glyph (b % 16))) (add-one w))));
      }

  pub hexing_end : (cs o₁ o : List ℕ) (i at w k : ℕ) → s ≡ take 8 (drop (8 * i) cs) → Wrote o₁ at (44 ∷ []) o₀ w₀ → Hexing o w k → k ≤ 0 → Wrote o₁ at (field (hex_at cs i)) o w
  hexing_end cs o₁ o i at w k e f q h =
      let z : k ≡ 0 = omega arith in
      then o₁ o₀ o (44 ∷ []) (hex_at cs i) at w₀ w f (subst (λ (l : List ℕ). Wrote o₀ w₀ (nibbles l) o w) e (subst (λ (j : ℕ). Wrote o₀ w₀ (nibbles (drop j s)) o w) z q.wrote))
