-- A value plus something that is not below zero is no smaller; and half of an extent moves a corner no further than the extent. Assumes nothing.
use mathlib.Core.Path.{◌≡◌, refl, sym, ap, ◌∙◌}
use Prim.Native.Nat.{ℕ, ◌+◌, ◌*◌, ◌^◌, ◌≤◌}
use native.Mathlib.Nat.{le_trans, le_refl, le_of_eq, mul-pos, sub-zero, zero-sub}
use native.Mathlib.Omega.{arith}
use mathlib.Core.Bool.{Bool, true, false, cond}
use lib.IntN.{ℤ}
use lib.Dec.{T, lit≤}
use lib.Pow.{pow_pos}
use lib.Ieee.{Float, nan, inf, fin, Format, low, up, down, add, div, le, fits}
use lib.Ieee.Fits.{down_pos, add-fits, div-fits}
use lib.Ieee.Scale.{finite}
use Rattle.floats.specs.Values.{two}
use Rattle.floats.proofs.Order.{mag, P, N, mag_eq, key→le, le_reflexive}
use Rattle.floats.proofs.Rounding.{Signed, signed_P, signed_N, Rounded, rm, rm_mono, round_signed, G, G_fixed, G_zero, add_key}
use Rattle.floats.proofs.Monotone.{Nonneg, rounded_le, le_top, finite_num, add_num_l, add_mono, nonneg_not_bottom}

-- a finite value is its own key, rounded
pub self_rounded : (f : Format) (x : Float) → T (fits f x) → T (finite x) → Rounded f (P f x) (N f x) x
self_rounded f nan p u = absurd u
self_rounded f (inf s) p u = absurd u
self_rounded f (fin true m e) p u =
    let v = mag f (fin true m e) in
    (sym (G_zero f) ∙ ap (G f) (sym (zero-sub v)), sym (G_fixed f (fin true m e) p tt) ∙ ap (G f) (sym (sub-zero v)), tt)
self_rounded f (fin false m e) p u =
    let v = mag f (fin false m e) in
    (sym (G_fixed f (fin false m e) p tt) ∙ ap (G f) (sym (sub-zero v)), sym (G_zero f) ∙ ap (G f) (sym (zero-sub v)), tt)

more : (a b c d : ℕ) → d ≡ 0 → a + (b + d) ≤ (a + c) + b
more a b c d e = omega arith

pub le_add : (f : Format) (c w : Float) → T (fits f c) → T (fits f w) → T (finite c) → Nonneg f w → T (le c (add f c w))
unfolding add
le_add f nan w p q u h = absurd u
le_add f (inf s) w p q u h = absurd u
le_add f (fin s m e) nan p q u h = absurd h.0
le_add f (fin s m e) (inf true) p q u h = absurd (nonneg_not_bottom f h)
le_add f (fin s m e) (inf false) p q u h = le_top f (fin s m e) p tt
le_add f (fin s m e) (fin t n d) p q u h =
    let x = fin s m e in
    let y = fin t n d in
    rounded_le f (P f x) (N f x) (P f x + P f y) (N f x + N f y) x (add f x y) p (add-fits f x y) (self_rounded f x p tt) (add_key f x y p q tt tt)
    (more (P f x) (N f x) (P f y) (N f y) h.1)

-- ---- half
halve : (x L W D : ℕ) → W * D ≡ x * L → x * 1 * L ≤ W * (2 * D)
halve x L W D e = omega arith

half_le : (f : Format) (s : Bool) (m : ℕ) (e : ℤ) → T (fits f (fin s m e)) → rm f (m * up e * 1) (2 * down e) ≤ mag f (fin s m e)
unfolding G
half_le f s m e p =
    le_trans (rm_mono f (m * up e * 1) (2 * down e) (mag f (fin s m e)) (2 ^ low f) (mul-pos (lit≤ tt) (down_pos e)) (pow_pos (low f))
    (halve (m * up e) (2 ^ low f) (mag f (fin s m e)) (down e) (mag_eq f s m e p)))
    (le_of_eq (G_fixed f (fin s m e) p tt))

half_signed : (f : Format) (s : Bool) (m : ℕ) (e : ℤ) → Signed f s (rm f (m * up e * 1) (2 * down e)) (div f (fin s m e) two)
unfolding div
half_signed f true m e = round_signed f true (m * up e * 1) (2 * down e)
half_signed f false m e = round_signed f false (m * up e * 1) (2 * down e)

no_more : (a b : ℕ) → a ≤ b → b ≡ 0 → a ≡ 0
no_more a b h e = omega arith

pub half_nonneg : (f : Format) (w : Float) → T (fits f w) → Nonneg f w → Nonneg f (div f w two)
half_nonneg f nan p h = absurd h.0
half_nonneg f (inf true) p h = absurd (nonneg_not_bottom f h)
half_nonneg f (inf false) p h = unfold div in (tt, refl)
half_nonneg f (fin true m e) p h =
    ((half_signed f true m e).2, signed_N f true (rm f (m * up e * 1) (2 * down e)) (div f (fin true m e) two) (half_signed f true m e) ∙ no_more (rm f (m * up e * 1) (2 * down e)) (mag f (fin true m e)) (half_le f true m e p) h.1)
half_nonneg f (fin false m e) p h =
    ((half_signed f false m e).2, signed_N f false (rm f (m * up e * 1) (2 * down e)) (div f (fin false m e) two) (half_signed f false m e))

lower : (a a' b b' : ℕ) → a ≤ b → b' ≡ 0 → a + b' ≤ b + a'
lower a a' b b' h e = omega arith

pub half_below : (f : Format) (w : Float) → T (fits f w) → Nonneg f w → T (le (div f w two) w)
half_below f nan p h = absurd h.0
half_below f (inf true) p h = absurd (nonneg_not_bottom f h)
half_below f (inf false) p h = unfold div le in tt
half_below f (fin s m e) p h =
    let x = div f (fin s m e) two in
    key→le f x (fin s m e) (div-fits f (fin s m e) two) p (half_signed f s m e).2 tt
    (lower (P f x) (N f x) (P f (fin s m e)) (N f (fin s m e)) (le_trans (le_of_eq (signed_P f s (rm f (m * up e * 1) (2 * down e)) x (half_signed f s m e))) (side s (half_le f s m e p))) h.1)
  where
    side : (t : Bool) {a b : ℕ} → a ≤ b → cond t 0 a ≤ cond t 0 b
    side true k = le_refl 0
    side false k = k

pub midplane : (f : Format) (c w : Float) → T (fits f c) → T (fits f w) → T (finite c) → Nonneg f w
    → T (le c (add f c (div f w two))) × T (le (add f c (div f w two)) (add f c w))
midplane f c w p q u h =
    let k = half_nonneg f w q h in (
      le_add f c (div f w two) p (div-fits f w two) u k,
      add_mono f c c (div f w two) w p p (div-fits f w two) q (le_reflexive f c p (finite_num c u)) (half_below f w q h)
          (add_num_l f c (div f w two) p (div-fits f w two) u k.0) (add_num_l f c w p q u h.0),
    )
