-- The distance that a candidate must beat. Assumes nothing.
use mathlib.Core.Path.{◌≡◌, refl, ap, ap₂, sym, subst, ◌∙◌}
use mathlib.Core.Logic.{◌≢◌, inl, inr}
use mathlib.Core.Bool.{Bool, true, false, not, ◌&&◌}
use mathlib.Core.List.{List, [], ◌∷◌}
use Prim.Native.Nat.{ℕ, zero, suc, ◌-◌, ◌<◌, ◌≤◌, min}
use native.Mathlib.Omega.{arith}
use lib.ListN.{length, get_or, take, length-take}
use lib.Seq.{take-nil}
use lib.Dec.{ltb}
use borrow.Author.Tests.{lt-ltb, le-ltb}
use lib.Ieee.{Float, nan, inf, fin, binary64, lt, of_bits}
use Rattle.floats.proofs.Order.{nat_total}
use Rattle.floats.proofs.Patterns.{inf_bits}
use Rattle.model.specs.Searches.{worst}
use Rattle.knn.specs.Candidates.{bar, entries, last_or, room}
use Rattle.knn.proofs.Arrays.{entries_length}
use Rattle.knn.proofs.Offers.{entries_clip, entries_worst}

-- the bits of −∞
pub minus_inf_bits : of_bits binary64 0xfff0_0000_0000_0000 ≡ inf true
unfolding of_bits
minus_inf_bits = refl

bar_room : (k : ℕ) (ds : List Float) → length ds < k → bar k ds ≡ inf false
unfolding bar
bar_room k ds h = rw (lt-ltb (length ds) k h, bar) refl

bar_full : (k : ℕ) (ds : List Float) → k ≤ length ds → bar k ds ≡ last_or (inf true) ds
unfolding bar
bar_full k ds h = rw (le-ltb (length ds) k h, bar) refl

last_taken : (z : Float) (n : ℕ) (ds : List Float) → n < length ds → last_or z (take (suc n) ds) ≡ get_or ds n nan
unfolding last_or
last_taken z n [] h = absurd (omega arith)
last_taken z zero (d ∷ ds) h = refl
last_taken z (suc n) (d ∷ ds) h = last_taken d n ds (omega arith)

take_clip : (n : ℕ) (ds : List Float) → take n ds ≡ take (min n (length ds)) ds
take_clip zero ds = ap (λ (m : ℕ). take m ds) {x = 0} {y = min 0 (length ds)} (omega arith)
take_clip (suc n) [] = sym (take-nil (min (suc n) 0))
take_clip (suc n) (d ∷ ds) = ap {B = List Float} (λ l. d ∷ l) (take_clip n ds) ∙ ap (λ (m : ℕ). take m (d ∷ ds)) {x = suc (min n (length ds))} {y = min (suc n) (suc (length ds))} (omega arith)

module _ (count k : ℕ) (ds : List Float) (a r n : ℕ) (ea : a ≡ min k 512) (er : r ≡ min a (length ds)) (en : n ≡ min count (length ds)) where
  most : min (min k 512) (length ds) ≡ r
  most = ap (λ (m : ℕ). min m (length ds)) (sym ea) ∙ sym er

  kept : take count ds ≡ take n ds
  kept = take_clip count ds ∙ ap (λ (m : ℕ). take m ds) (sym en)

  long : length (take count ds) ≡ n
  long = length-take count ds ∙ sym en

  pub worst_room : n < r → of_bits binary64 0x7ff0_0000_0000_0000 ≡ bar (min (min k 512) (length ds)) (take count ds)
  worst_room h = inf_bits ∙ sym (bar_room (min (min k 512) (length ds)) (take count ds) (omega (arith, long, most)))

  pub worst_none : r ≤ n → n ≡ 0 → of_bits binary64 0xfff0_0000_0000_0000 ≡ bar (min (min k 512) (length ds)) (take count ds)
  worst_none h z = minus_inf_bits ∙ sym (bar_full (min (min k 512) (length ds)) (take count ds) (omega (arith, long, most)) ∙ ap (last_or (inf true)) (kept ∙ ap (λ (m : ℕ). take m ds) z) ∙ unfold last_or in refl)

  pub worst_last : r ≤ n → n ≢ 0 → get_or ds (n - 1) nan ≡ bar (min (min k 512) (length ds)) (take count ds)
  worst_last h z = sym (bar_full (min (min k 512) (length ds)) (take count ds) (omega (arith, long, most)) ∙ ap (last_or (inf true)) (kept ∙ ap (λ (m : ℕ). take m ds) {x = n} {y = suc (n - 1)} (omega arith)) ∙ last_taken (inf true) (n - 1) ds (omega (arith, en)))

-- ---- the test by which the rest of the children are skipped: a full table, and a distance above its worst
not_above : (x : Float) → lt (inf false) x ≡ false
unfolding lt
not_above nan = refl
not_above (inf true) = refl
not_above (inf false) = refl
not_above (fin s m e) = refl

-- with l entries and room for m
skip_of : (n : ℕ) (ds : List Float) (ps : List ℕ) (x : Float) (l m : ℕ) → 1 ≤ m → l ≤ length ds → l ≤ length ps → take n ds ≡ take l ds → entries n ds ps ≡ entries l ds ps → length (take n ds) ≡ l → length (entries n ds ps) ≡ l
    → lt (bar m (take n ds)) x ≡ not (ltb (length (entries n ds ps)) m) && worst (λ w. lt w x) (entries n ds ps)
skip_of n ds ps x l m one ld lp et ee here there = elim (nat_total m l) [
  | inr h ↦ ap (λ (w : Float). lt w x) (bar_room m (take n ds) (omega (arith, h, here))) ∙ not_above x
      ∙ ap₂ (λ (b c : Bool). not b && c) (sym (lt-ltb (length (entries n ds ps)) m (omega (arith, h, there)))) refl
  | inl h ↦ let s : l ≡ suc (l - 1) = omega (arith, h, one) in
      ap (λ (w : Float). lt w x) (bar_full m (take n ds) (omega (arith, h, here)) ∙ ap (last_or (inf true)) (et ∙ ap (λ (j : ℕ). take j ds) s) ∙ last_taken (inf true) (l - 1) ds (omega (arith, s, ld)))
      ∙ ap₂ (λ (b c : Bool). not b && c) (sym (le-ltb (length (entries n ds ps)) m (omega (arith, h, there))))
      (sym (ap (worst (λ w. lt w x)) (ee ∙ ap (λ (j : ℕ). entries j ds ps) s) ∙ entries_worst (λ w. lt w x) (l - 1) ds ps (omega (arith, s, ld)) (omega (arith, s, lp))))
]

pub skip_is : (n k : ℕ) (ds : List Float) (ps : List ℕ) (x : Float) → length ds ≡ length ps → 1 ≤ room k ds ps
    → lt (bar (min (min k 512) (length ds)) (take n ds)) x ≡ not (ltb (length (entries n ds ps)) (room k ds ps)) && worst (λ w. lt w x) (entries n ds ps)
skip_is n k ds ps x e one =
    subst (λ (m : ℕ). lt (bar m (take n ds)) x ≡ not (ltb (length (entries n ds ps)) (room k ds ps)) && worst (λ w. lt w x) (entries n ds ps)) (ap (min (min k 512)) same)
    (skip_of n ds ps x (min n (length ds)) (room k ds ps) one (omega arith) (omega (arith, e)) (take_clip n ds) (entries_clip n ds ps ∙ ap (λ (j : ℕ). entries (min n j) ds ps) same) (length-take n ds) (entries_length n ds ps ∙ ap (min n) same))
  where
    same : min (length ds) (length ps) ≡ length ds
    same = omega (arith, e)
