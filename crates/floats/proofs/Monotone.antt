-- Sums, differences and squares keep the order, over all signs, both zeros and the infinities. Assumes nothing.
use mathlib.Core.Path.{◌≡◌, refl, sym, ap, ◌∙◌, subst}
use mathlib.Core.Logic.{◌⊎◌, inl, inr}
use Prim.Native.Nat.{ℕ, suc, ◌+◌, ◌-◌, ◌*◌, ◌^◌, ◌≤◌}
use native.Mathlib.Nat.{lt_of_le_of_lt, le_trans, le_refl, le_of_eq, lt_of_lt_of_le, lt_irrefl, mul-le-mul, mul-pos, mul-mul-mul_comm}
use native.Mathlib.Omega.{arith}
use mathlib.Core.Bool.{Bool, true, false}
use lib.IntN.{ℤ}
use lib.Dec.{T}
use lib.Pow.{pow_pos}
use lib.Ieee.{Float, nan, inf, fin, Format, emax, low, up, down, unlike, round, neg, add, sub, mul, le, fits}
use lib.Ieee.Fits.{down_pos, add-fits, mul-fits, neg-fits}
use lib.Ieee.Scale.{overflow, finite}
use Rattle.floats.specs.Values.{plus_zero}
use Rattle.floats.proofs.Order.{mag, P, N, num?, mag_lt, le→key, key→le, le_nums, le_transitive, scale_le, left, right, zero_mag, zero_fits}
use Rattle.floats.proofs.Rounding.{Signed, signed_P, signed_N, Rounded, rm, rm_mono, round_signed, G, G_mono, G_zero, add_key, neg_P, neg_N, neg_finite}

-- ---- the least and the greatest value
pub bottom_le : (f : Format) (y : Float) → T (fits f y) → T (num? y) → T (le (inf true) y)
unfolding le
bottom_le f nan q v = absurd v
bottom_le f (inf true) q v = tt
bottom_le f (inf false) q v = tt
bottom_le f (fin t n d) q v = tt

pub le_top : (f : Format) (x : Float) → T (fits f x) → T (num? x) → T (le x (inf false))
unfolding le
le_top f nan q v = absurd v
le_top f (inf true) q v = tt
le_top f (inf false) q v = tt
le_top f (fin t n d) q v = tt

-- p - n against p' - n', rounded
pub rounded_le : (f : Format) (p n p' n' : ℕ) (x y : Float) → T (fits f x) → T (fits f y) → Rounded f p n x → Rounded f p' n' y → p + n' ≤ p' + n → T (le x y)
rounded_le f p n p' n' x y u v r s h =
    let a : P f x ≤ P f y = le_trans (le_of_eq r.0) (le_trans (G_mono f (p - n) (p' - n') (omega arith)) (le_of_eq (sym s.0))) in
    let b : N f y ≤ N f x = le_trans (le_of_eq s.1) (le_trans (G_mono f (n' - p') (n - p) (omega arith)) (le_of_eq (sym r.1))) in
    key→le f x y u v r.2 s.2 (sides (P f x) (N f x) (P f y) (N f y) a b)
  where
    sides : (a a' b b' : ℕ) → a ≤ b → b' ≤ a' → a + b' ≤ b + a'
    sides a a' b b' h k = omega arith

both_less : (a a' b b' c c' d d' : ℕ) → a + b' ≤ b + a' → c + d' ≤ d + c' → (a + c) + (b' + d') ≤ (b + d) + (a' + c')
both_less a a' b b' c c' d d' h k = omega arith

finite_add_mono : (f : Format) (x x' z z' : Float) → T (fits f x) → T (fits f x') → T (fits f z) → T (fits f z') → T (finite x) → T (finite x') → T (finite z) → T (finite z')
    → T (le x x') → T (le z z') → T (le (add f x z) (add f x' z'))
finite_add_mono f x x' z z' p p' q q' u u' v v' h k =
    rounded_le f (P f x + P f z) (N f x + N f z) (P f x' + P f z') (N f x' + N f z') (add f x z) (add f x' z') (add-fits f x z) (add-fits f x' z')
    (add_key f x z p q u v) (add_key f x' z' p' q' u' v')
    (both_less (P f x) (N f x) (P f x') (N f x') (P f z) (N f z) (P f z') (N f z') (le→key f x x' p p' h) (le→key f z z' q q' k))

-- a sum grows with each of the two, wherever neither sum is a `nan`
pub add_mono : (f : Format) (x x' z z' : Float) → T (fits f x) → T (fits f x') → T (fits f z) → T (fits f z')
    → T (le x x') → T (le z z') → T (num? (add f x z)) → T (num? (add f x' z')) → T (le (add f x z) (add f x' z'))
unfolding add le
add_mono f nan x' z z' p p' q q' h k u v = absurd h
add_mono f (inf true) x' nan z' p p' q q' h k u v = absurd u
add_mono f (inf true) x' (inf true) z' p p' q q' h k u v = bottom_le f (add f x' z') (add-fits f x' z') v
add_mono f (inf true) x' (inf false) z' p p' q q' h k u v = absurd u
add_mono f (inf true) x' (fin t n d) z' p p' q q' h k u v = bottom_le f (add f x' z') (add-fits f x' z') v
add_mono f (inf false) nan z z' p p' q q' h k u v = absurd h
add_mono f (inf false) (inf true) z z' p p' q q' h k u v = absurd h
add_mono f (inf false) (fin s m e) z z' p p' q q' h k u v = absurd h
add_mono f (inf false) (inf false) z nan p p' q q' h k u v = absurd v
add_mono f (inf false) (inf false) z (inf true) p p' q q' h k u v = absurd v
add_mono f (inf false) (inf false) z (inf false) p p' q q' h k u v = le_top f (add f (inf false) z) (add-fits f (inf false) z) u
add_mono f (inf false) (inf false) z (fin t n d) p p' q q' h k u v = le_top f (add f (inf false) z) (add-fits f (inf false) z) u
add_mono f (fin s m e) nan z z' p p' q q' h k u v = absurd h
add_mono f (fin s m e) (inf true) z z' p p' q q' h k u v = absurd h
add_mono f (fin s m e) (inf false) z nan p p' q q' h k u v = absurd v
add_mono f (fin s m e) (inf false) z (inf true) p p' q q' h k u v = absurd v
add_mono f (fin s m e) (inf false) z (inf false) p p' q q' h k u v = le_top f (add f (fin s m e) z) (add-fits f (fin s m e) z) u
add_mono f (fin s m e) (inf false) z (fin t n d) p p' q q' h k u v = le_top f (add f (fin s m e) z) (add-fits f (fin s m e) z) u
add_mono f (fin s m e) (fin s' m' e') nan z' p p' q q' h k u v = absurd u
add_mono f (fin s m e) (fin s' m' e') (inf true) z' p p' q q' h k u v = bottom_le f (add f (fin s' m' e') z') (add-fits f (fin s' m' e') z') v
add_mono f (fin s m e) (fin s' m' e') (inf false) nan p p' q q' h k u v = absurd v
add_mono f (fin s m e) (fin s' m' e') (inf false) (inf true) p p' q q' h k u v = absurd k
add_mono f (fin s m e) (fin s' m' e') (inf false) (inf false) p p' q q' h k u v = tt
add_mono f (fin s m e) (fin s' m' e') (inf false) (fin t' n' d') p p' q q' h k u v = absurd k
add_mono f (fin s m e) (fin s' m' e') (fin t n d) nan p p' q q' h k u v = absurd v
add_mono f (fin s m e) (fin s' m' e') (fin t n d) (inf true) p p' q q' h k u v = absurd k
add_mono f (fin s m e) (fin s' m' e') (fin t n d) (inf false) p p' q q' h k u v = le_top f (add f (fin s m e) (fin t n d)) (add-fits f (fin s m e) (fin t n d)) u
add_mono f (fin s m e) (fin s' m' e') (fin t n d) (fin t' n' d') p p' q q' h k u v =
    finite_add_mono f (fin s m e) (fin s' m' e') (fin t n d) (fin t' n' d') p p' q q' tt tt tt tt h k

-- where a sum is no `nan`
pub finite_num : (x : Float) → T (finite x) → T (num? x)
finite_num nan u = absurd u
finite_num (inf s) u = absurd u
finite_num (fin s m e) u = tt

pub add_num_l : (f : Format) (x y : Float) → T (fits f x) → T (fits f y) → T (finite x) → T (num? y) → T (num? (add f x y))
unfolding add
add_num_l f nan y p q u v = absurd u
add_num_l f (inf s) y p q u v = absurd u
add_num_l f (fin s m e) nan p q u v = absurd v
add_num_l f (fin s m e) (inf t) p q u v = tt
add_num_l f (fin s m e) (fin t n d) p q u v = (add_key f (fin s m e) (fin t n d) p q tt tt).2

pub add_num_r : (f : Format) (x y : Float) → T (fits f x) → T (fits f y) → T (num? x) → T (finite y) → T (num? (add f x y))
unfolding add
add_num_r f nan y p q u v = absurd u
add_num_r f (inf s) nan p q u v = absurd v
add_num_r f (inf s) (inf t) p q u v = absurd v
add_num_r f (inf s) (fin t n d) p q u v = tt
add_num_r f (fin s m e) y p q u v = add_num_l f (fin s m e) y p q tt (finite_num y v)

-- ---- the difference
pub neg_num : (x : Float) → T (num? x) → T (num? (neg x))
unfolding neg
neg_num nan u = absurd u
neg_num (inf s) u = tt
neg_num (fin s m e) u = tt

turn : (a a' b b' c c' d d' : ℕ) → c ≡ a' → c' ≡ a → d ≡ b' → d' ≡ b → a + b' ≤ b + a' → d + c' ≤ c + d'
turn a a' b b' c c' d d' p q r s h = omega arith

pub neg_anti : (f : Format) (x y : Float) → T (fits f x) → T (fits f y) → T (le x y) → T (le (neg y) (neg x))
neg_anti f x y p q h =
    key→le f (neg y) (neg x) (neg-fits f y q) (neg-fits f x p) (neg_num y (le_nums x y h).1) (neg_num x (le_nums x y h).0)
    (turn (P f x) (N f x) (P f y) (N f y) (P f (neg x)) (N f (neg x)) (P f (neg y)) (N f (neg y)) (neg_P f x) (neg_N f x) (neg_P f y) (neg_N f y) (le→key f x y p q h))

pub sub_mono : (f : Format) (x x' z z' : Float) → T (fits f x) → T (fits f x') → T (fits f z) → T (fits f z')
    → T (le x x') → T (le z' z) → T (num? (sub f x z)) → T (num? (sub f x' z')) → T (le (sub f x z) (sub f x' z'))
unfolding sub
sub_mono f x x' z z' p p' q q' h k u v = add_mono f x x' (neg z) (neg z') p p' (neg-fits f z q) (neg-fits f z' q') h (neg_anti f z' z q' q k) u v

pub sub_num_r : (f : Format) (x y : Float) → T (fits f x) → T (fits f y) → T (num? x) → T (finite y) → T (num? (sub f x y))
unfolding sub
sub_num_r f x y p q u v = add_num_r f x (neg y) p (neg-fits f y q) u (neg_finite y v)

pub sub_num_l : (f : Format) (x y : Float) → T (fits f x) → T (fits f y) → T (finite x) → T (num? y) → T (num? (sub f x y))
unfolding sub
sub_num_l f x y p q u v = add_num_l f x (neg y) p (neg-fits f y q) u (neg_num y v)

-- ---- not below zero, an infinity included
abbrev pub Nonneg : Format → Float → Type 0
Nonneg f x = T (num? x) × (N f x ≡ 0)

only : (p n z : ℕ) → z ≡ 0 → n ≡ 0 → z + n ≤ p + 0
only p n z e h = omega arith

pub nonneg→le : (f : Format) (x : Float) → T (fits f x) → Nonneg f x → T (le plus_zero x)
nonneg→le f x p h = key→le f plus_zero x (zero_fits f) p tt h.0 (only (P f x) (N f x) (mag f plus_zero) (zero_mag f) h.1)

pub one_sided : (x : Float) → (f : Format) → P f x ≤ 0 ⊎ N f x ≡ 0
one_sided nan f = inr refl
one_sided (inf true) f = inl (le_refl 0)
one_sided (inf false) f = inr refl
one_sided (fin true m e) f = inl (le_refl 0)
one_sided (fin false m e) f = inr refl

no_below : (p n z : ℕ) → z ≡ 0 → z + n ≤ p + 0 → p ≤ 0 → n ≡ 0
no_below p n z e h k = omega arith

pub le→nonneg : (f : Format) (x : Float) → T (fits f x) → T (le plus_zero x) → Nonneg f x
le→nonneg f x p h = (
  (le_nums plus_zero x h).1,
  elim (one_sided x f) [ inl k ↦ no_below (P f x) (N f x) (mag f plus_zero) (zero_mag f) (le→key f plus_zero x (zero_fits f) p h) k | inr k ↦ k ],
)

pub nonneg_not_bottom : (f : Format) → Nonneg f (inf true) → ⊥
nonneg_not_bottom f h = lt_irrefl 0 (lt_of_lt_of_le (pow_pos (low f + suc (emax f))) (le_of_eq h.1))

pub nonneg_add_num : (f : Format) (a b : Float) → T (fits f a) → T (fits f b) → Nonneg f a → Nonneg f b → T (num? (add f a b))
unfolding add
nonneg_add_num f nan b p q h k = absurd h.0
nonneg_add_num f (inf true) b p q h k = absurd (nonneg_not_bottom f h)
nonneg_add_num f (inf false) nan p q h k = absurd k.0
nonneg_add_num f (inf false) (inf true) p q h k = absurd (nonneg_not_bottom f k)
nonneg_add_num f (inf false) (inf false) p q h k = tt
nonneg_add_num f (inf false) (fin t n d) p q h k = tt
nonneg_add_num f (fin s m e) b p q h k = add_num_l f (fin s m e) b p q tt k.0

pub nonneg_up : (f : Format) (x y : Float) → T (fits f x) → T (fits f y) → Nonneg f x → T (le x y) → Nonneg f y
nonneg_up f x y p q h k = le→nonneg f y q (le_transitive f plus_zero x y (zero_fits f) p q (nonneg→le f x p h) k)

pub nonneg_add_mono : (f : Format) (a a' b b' : Float) → T (fits f a) → T (fits f a') → T (fits f b) → T (fits f b')
    → Nonneg f a → Nonneg f b → T (le a a') → T (le b b') → T (le (add f a b) (add f a' b'))
nonneg_add_mono f a a' b b' p p' q q' u v h k =
    add_mono f a a' b b' p p' q q' h k (nonneg_add_num f a b p q u v) (nonneg_add_num f a' b' p' q' (nonneg_up f a a' p p' u h) (nonneg_up f b b' q q' v k))

pub nonneg_add : (f : Format) (a b : Float) → T (fits f a) → T (fits f b) → Nonneg f a → Nonneg f b → Nonneg f (add f a b)
unfolding add
nonneg_add f nan b p q h k = absurd h.0
nonneg_add f (inf true) b p q h k = absurd (nonneg_not_bottom f h)
nonneg_add f (inf false) nan p q h k = absurd k.0
nonneg_add f (inf false) (inf true) p q h k = absurd (nonneg_not_bottom f k)
nonneg_add f (inf false) (inf false) p q h k = (tt, refl)
nonneg_add f (inf false) (fin t n d) p q h k = (tt, refl)
nonneg_add f (fin s m e) nan p q h k = absurd k.0
nonneg_add f (fin s m e) (inf true) p q h k = absurd (nonneg_not_bottom f k)
nonneg_add f (fin s m e) (inf false) p q h k = (tt, refl)
nonneg_add f (fin s m e) (fin t n d) p q h k =
    let x = fin s m e in
    let y = fin t n d in
    let r = add_key f x y p q tt tt in
    (r.2, r.1 ∙ ap (G f) (none (N f x) (N f y) (P f x + P f y) h.1 k.1) ∙ G_zero f)
  where
    none : (a b c : ℕ) → a ≡ 0 → b ≡ 0 → a + b - c ≡ 0
    none a b c h k = omega arith

-- ---- the square
like : (s : Bool) → unlike s s ≡ false
like true = refl
like false = refl

-- the size of the square of m * 2 ^ e
square_signed : (f : Format) (s : Bool) (m : ℕ) (e : ℤ) → Signed f false (rm f (m * up e * (m * up e)) (down e * down e)) (mul f (fin s m e) (fin s m e))
unfolding mul
square_signed f s m e = subst (λ (t : Bool). Signed f false (rm f (m * up e * (m * up e)) (down e * down e)) (round f t (m * up e * (m * up e)) (down e * down e))) (sym (like s)) (round_signed f false (m * up e * (m * up e)) (down e * down e))

pub square_nonneg : (f : Format) (x : Float) → T (num? x) → Nonneg f (mul f x x)
square_nonneg f nan u = absurd u
square_nonneg f (inf true) u = unfold mul in (tt, refl)
square_nonneg f (inf false) u = unfold mul in (tt, refl)
square_nonneg f (fin s m e) u = ((square_signed f s m e).2, signed_N f false _ (mul f (fin s m e) (fin s m e)) (square_signed f s m e))

signed_le : (f : Format) (v w : ℕ) (x y : Float) → T (fits f x) → T (fits f y) → Signed f false v x → Signed f false w y → v ≤ w → T (le x y)
signed_le f v w x y p q h k l =
    key→le f x y p q h.2 k.2 (up_two (P f x) (N f x) (P f y) (N f y) v w (signed_P f false v x h) (signed_P f false w y k) (signed_N f false w y k) l)
  where
    up_two : (a a' b b' v w : ℕ) → a ≡ v → b ≡ w → b' ≡ 0 → v ≤ w → a + b' ≤ b + a'
    up_two a a' b b' v w p q r h = omega arith

cross : (f : Format) (s : Bool) (m : ℕ) (e : ℤ) (t : Bool) (n : ℕ) (d : ℤ) → T (fits f (fin s m e)) → T (fits f (fin t n d)) → mag f (fin s m e) ≤ mag f (fin t n d) → m * up e * down d ≤ n * up d * down e
cross f s m e t n d p q h = scale_le (mag f (fin s m e)) (mag f (fin t n d)) (m * up e * down d) (n * up d * down e) (down e * down d) (2 ^ low f) (pow_pos (low f)) (sym (left f s m e t n d p q)) (sym (right f s m e t n d p q)) h

-- a square grows with the size
pub square_mono : (f : Format) (x y : Float) → T (fits f x) → T (fits f y) → T (num? x) → T (num? y) → mag f x ≤ mag f y → T (le (mul f x x) (mul f y y))
square_mono f nan y p q u v h = absurd u
square_mono f (inf s) nan p q u v h = absurd v
square_mono f (inf true) (inf true) p q u v h = unfold mul le in tt
square_mono f (inf true) (inf false) p q u v h = unfold mul le in tt
square_mono f (inf false) (inf true) p q u v h = unfold mul le in tt
square_mono f (inf false) (inf false) p q u v h = unfold mul le in tt
square_mono f (inf s) (fin t n d) p q u v h = absurd (lt_irrefl (overflow f) (lt_of_le_of_lt h (mag_lt f t n d q)))
square_mono f (fin s m e) nan p q u v h = absurd v
square_mono f (fin s m e) (inf true) p q u v h = unfold mul in le_top f (mul f (fin s m e) (fin s m e)) (mul-fits f (fin s m e) (fin s m e)) (square_signed f s m e).2
square_mono f (fin s m e) (inf false) p q u v h = unfold mul in le_top f (mul f (fin s m e) (fin s m e)) (mul-fits f (fin s m e) (fin s m e)) (square_signed f s m e).2
square_mono f (fin s m e) (fin t n d) p q u v h =
    let c = cross f s m e t n d p q h in
    signed_le f (rm f (m * up e * (m * up e)) (down e * down e)) (rm f (n * up d * (n * up d)) (down d * down d)) (mul f (fin s m e) (fin s m e)) (mul f (fin t n d) (fin t n d))
    (mul-fits f (fin s m e) (fin s m e)) (mul-fits f (fin t n d) (fin t n d)) (square_signed f s m e) (square_signed f t n d)
    (rm_mono f (m * up e * (m * up e)) (down e * down e) (n * up d * (n * up d)) (down d * down d) (mul-pos (down_pos e) (down_pos e)) (mul-pos (down_pos d) (down_pos d))
    (le_trans (le_of_eq (mul-mul-mul_comm (m * up e) (m * up e) (down d) (down d))) (le_trans (mul-le-mul c c) (le_of_eq (mul-mul-mul_comm (n * up d) (down e) (n * up d) (down e))))))

-- 0 ≤ a ≤ b
pub nonneg_mag : (f : Format) (x : Float) → Nonneg f x → mag f x ≡ P f x
nonneg_mag f nan h = refl
nonneg_mag f (inf true) h = h.1
nonneg_mag f (inf false) h = refl
nonneg_mag f (fin true m e) h = h.1
nonneg_mag f (fin false m e) h = refl
