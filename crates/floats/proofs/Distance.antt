-- Rounded distances keep order: what lies between v and b is, computed, no further from v than b is. Assumes nothing.
use mathlib.Core.Path.{◌≡◌, refl, sym, ap, ◌∙◌}
use mathlib.Core.Logic.{◌⊎◌, inl, inr}
use Prim.Native.Nat.{ℕ, ◌+◌, ◌-◌, ◌≤◌}
use native.Mathlib.Nat.{le_trans, le_of_eq, add-zero, zero-add}
use native.Mathlib.Omega.{arith}
use mathlib.Core.Bool.{true, false}
use lib.Dec.{T}
use lib.Ieee.{Float, nan, inf, fin, Format, neg, add, sub, mul, le, fits}
use lib.Ieee.Fits.{sub-fits}
use lib.Ieee.Scale.{overflow}
use Rattle.floats.proofs.Order.{mag, P, N, num?, le→key, le_nums, le_reflexive}
use Rattle.floats.proofs.Rounding.{G, G_zero, sub_key}
use Rattle.floats.proofs.Monotone.{Nonneg, nonneg_mag, sub_mono, square_mono, nonneg_up}

-- ---- a difference of numbers in order is not below zero
nothing : (a b : ℕ) → a ≤ b → a - b ≡ 0
nothing a b h = omega arith

flip : (a a' b b' : ℕ) → a + b' ≤ b + a' → b' + a ≤ b + a'
flip a a' b b' h = omega arith

pub sub_nonneg : (f : Format) (x y : Float) → T (fits f x) → T (fits f y) → T (num? (sub f x y)) → T (le y x) → Nonneg f (sub f x y)
unfolding le sub add neg
sub_nonneg f nan y p q w h = absurd w
sub_nonneg f (inf s) nan p q w h = absurd w
sub_nonneg f (inf true) (inf true) p q w h = absurd w
sub_nonneg f (inf true) (inf false) p q w h = absurd h
sub_nonneg f (inf false) (inf true) p q w h = (tt, refl)
sub_nonneg f (inf false) (inf false) p q w h = absurd w
sub_nonneg f (inf true) (fin t n d) p q w h = absurd h
sub_nonneg f (inf false) (fin t n d) p q w h = (tt, refl)
sub_nonneg f (fin s m e) nan p q w h = absurd w
sub_nonneg f (fin s m e) (inf true) p q w h = (tt, refl)
sub_nonneg f (fin s m e) (inf false) p q w h = absurd h
sub_nonneg f (fin s m e) (fin t n d) p q w h =
    let x = fin s m e in
    let y = fin t n d in
    let r = sub_key f x y p q tt tt in
    (r.2, r.1 ∙ ap (G f) (nothing (N f x + P f y) (P f x + N f y) (flip (P f y) (N f y) (P f x) (N f x) (le→key f y x q p h))) ∙ G_zero f)

-- ---- x - y and y - x have one size
mag_sum : (f : Format) (x : Float) → mag f x ≡ P f x + N f x
mag_sum f nan = refl
mag_sum f (inf true) = sym (zero-add (overflow f))
mag_sum f (inf false) = sym (add-zero (overflow f))
mag_sum f (fin true m e) = sym (zero-add (mag f (fin true m e)))
mag_sum f (fin false m e) = sym (add-zero (mag f (fin false m e)))

cross_sum : (a b c d : ℕ) → a ≡ d → b ≡ c → a + b ≡ c + d
cross_sum a b c d p q = omega arith

pub sub_swap : (f : Format) (x y : Float) → T (fits f x) → T (fits f y) → T (num? (sub f x y)) → T (num? (sub f y x)) × (mag f (sub f x y) ≡ mag f (sub f y x))
unfolding sub add neg
sub_swap f nan y p q w = absurd w
sub_swap f (inf s) nan p q w = absurd w
sub_swap f (inf true) (inf true) p q w = absurd w
sub_swap f (inf true) (inf false) p q w = (tt, refl)
sub_swap f (inf false) (inf true) p q w = (tt, refl)
sub_swap f (inf false) (inf false) p q w = absurd w
sub_swap f (inf s) (fin t n d) p q w = (tt, refl)
sub_swap f (fin s m e) nan p q w = absurd w
sub_swap f (fin s m e) (inf t) p q w = (tt, refl)
sub_swap f (fin s m e) (fin t n d) p q w =
    let x = fin s m e in
    let y = fin t n d in
    let r = sub_key f x y p q tt tt in
    let k = sub_key f y x q p tt tt in (
      k.2,
      mag_sum f (sub f x y)
          ∙ cross_sum (P f (sub f x y)) (N f (sub f x y)) (P f (sub f y x)) (N f (sub f y x))
          (r.0 ∙ ap (G f) (commuted (P f x) (N f y) (N f x) (P f y)) ∙ sym k.1)
          (r.1 ∙ ap (G f) (commuted (N f x) (P f y) (P f x) (N f y)) ∙ sym k.0)
          ∙ sym (mag_sum f (sub f y x)),
    )
  where
    commuted : (a b c d : ℕ) → (a + b) - (c + d) ≡ (b + a) - (d + c)
    commuted a b c d = omega arith

-- 0 ≤ a ≤ b in size
sizes : (f : Format) (a b : Float) → T (fits f a) → T (fits f b) → Nonneg f a → T (le a b) → mag f a ≤ mag f b
sizes f a b p q h k =
    let hb : Nonneg f b = nonneg_up f a b p q h k in
    ends (mag f a) (mag f b) (P f a) (N f a) (P f b) (N f b) (nonneg_mag f a h) (nonneg_mag f b hb) hb.1 h.1 (le→key f a b p q k)
  where
    ends : (x y a a' b b' : ℕ) → x ≡ a → y ≡ b → b' ≡ 0 → a' ≡ 0 → a + b' ≤ b + a' → x ≤ y
    ends x y a a' b b' p q r s h = omega arith

-- ---- a lies between v and b
abbrev pub Between : Float → Float → Float → Type 0
Between v a b = (T (le v a) × T (le a b)) ⊎ (T (le b a) × T (le a v))

module _ (f : Format) (v a b : Float) (pv : T (fits f v)) (pa : T (fits f a)) (pb : T (fits f b)) (ua : T (num? (sub f a v))) (ub : T (num? (sub f b v))) where
  upward : T (le v a) → T (le a b) → mag f (sub f a v) ≤ mag f (sub f b v)
  upward h k =
      sizes f (sub f a v) (sub f b v) (sub-fits f a v) (sub-fits f b v) (sub_nonneg f a v pa pv ua h)
      (sub_mono f a b v v pa pb pv pv k (le_reflexive f v pv (le_nums v a h).0) ua ub)

  downward : T (le b a) → T (le a v) → mag f (sub f a v) ≤ mag f (sub f b v)
  downward h k =
      let ra = sub_swap f a v pa pv ua in
      let rb = sub_swap f b v pb pv ub in
      le_trans (le_of_eq ra.1)
      (le_trans (sizes f (sub f v a) (sub f v b) (sub-fits f v a) (sub-fits f v b) (sub_nonneg f v a pv pa ra.0 k)
      (sub_mono f v v a b pv pv pa pb (le_reflexive f v pv (le_nums a v k).1) h ra.0 rb.0)) (le_of_eq (sym rb.1)))

  pub size_kept : Between v a b → mag f (sub f a v) ≤ mag f (sub f b v)
  size_kept (inl h) = upward h.0 h.1
  size_kept (inr h) = downward h.0 h.1

  pub order_kept : Between v a b → T (le (mul f (sub f a v) (sub f a v)) (mul f (sub f b v) (sub f b v)))
  order_kept h = square_mono f (sub f a v) (sub f b v) (sub-fits f a v) (sub-fits f b v) ua ub (size_kept h)
