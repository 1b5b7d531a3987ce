-- Digits that are written from the last to the first, in any base. Assumes nothing.
use Prim.Native.Nat.{ℕ, zero, suc, ◌+◌, ◌-◌, ◌/◌, ◌%◌, ◌≤◌, ◌<◌}
use mathlib.Core.Path.{◌≡◌, refl, sym, ap, ◌∙◌}
use mathlib.Core.Logic.{◌≢◌}
use mathlib.Core.List.{List, [], ◌∷◌, ◌++◌}
use native.Mathlib.Nat.{add-zero}
use native.Mathlib.Omega.{arith}
use lib.ListN.{length, set}
use lib.Seq.{sets, set_comm}
use Rattle.record.specs.Numbers.{glyph, spelt}
use Rattle.record.proofs.Round.{spelt_length}

-- a store behind a run of stores may come first
sets_snoc : (xs o : List ℕ) (at g : ℕ) → sets (set o (at + length xs) g) at xs ≡ sets o at (xs ++ (g ∷ []))
sets_snoc [] o at g = ap (λ (k : ℕ). set o k g) (add-zero at)
sets_snoc (x ∷ xs) o at g =
    let e : at + suc (length xs) ≡ suc at + length xs = omega arith in
    let d : (at + suc (length xs)) ≢ at = λ q. omega arith in
    ap (λ (l : List ℕ). sets l (suc at) xs) (set_comm o (at + suc (length xs)) at g x d ∙ ap (λ (k : ℕ). set (set o at x) k g) e)
    ∙ sets_snoc xs (set o at x) (suc at) g

pub spelt_turn : (base i n : ℕ) (o : List ℕ) (at : ℕ) → 0 < i → sets (set o (at + (i - 1)) (glyph (n % base))) at (spelt base (i - 1) (n / base)) ≡ sets o at (spelt base i n)
unfolding spelt
spelt_turn base zero n o at h = absurd (omega arith)
spelt_turn base (suc i) n o at h =
    let e : suc i - 1 ≡ i = omega arith in
    rw e
    (ap (λ (k : ℕ). sets (set o (at + k) (glyph (n % base))) at (spelt base i (n / base))) (sym (spelt_length base i (n / base)))
    ∙ sets_snoc (spelt base i (n / base)) o at (glyph (n % base)))

pub spelt_done : (base n : ℕ) (o : List ℕ) (at i : ℕ) → i ≤ 0 → sets o at (spelt base i n) ≡ o
unfolding spelt
spelt_done base n o at zero h = refl
spelt_done base n o at (suc i) h = absurd (omega arith)
