-- The order of the values of a format, by whole numbers. A value that fits is a whole number of the format's smallest values: `P` counts them above zero, `N` below.
-- An infinity counts as 2 ^ (low + emax + 1), which no finite value reaches. Two values that are no NaN compare as P - N does. Assumes nothing.
use mathlib.Core.Path.{◌≡◌, refl, sym, ap, ◌∙◌}
use mathlib.Core.Logic.{◌⊎◌, inl, inr}
use Prim.Native.Nat.{ℕ, zero, suc, ◌+◌, ◌-◌, ◌*◌, ◌/◌, ◌%◌, ◌^◌, ◌≤◌, ◌<◌}
use native.Mathlib.Nat.{eq-or-lt_of_le, not-le_of_lt, le_of_suc-le-suc, lt_of_not-le, lt_irrefl, lt_of_lt_of_le, lt_of_le_of_lt, sub-add_cancel, one-mul, zero-mul, le_trans, le_of_eq, le_of_lt, mul_comm, mul_assoc, mul_right_comm, mul-le-mul_right, mul-lt-mul_of_pos_right, le_of_mul-le-mul_right, lt_of_mul-lt-mul_right, eq_of_mul-eq-mul_right, mul-pos, mul-one, mul-div_cancel, div-one}
use native.Mathlib.Omega.{arith}
use mathlib.Core.Bool.{Bool, true, false, not, ◌&&◌, ◌||◌, beq, cond}
use lib.IntN.{ℤ, pos, negsuc}
use lib.Dec.{T, leb, ltb, eqb, leb→le, nleb→lt, eqb→eq, ltb→lt, lt→ltb, lit≤}
use lib.Pow.{pow-add, pow_pos, pow-lt}
use lib.Ieee.{Float, nan, inf, fin, Format, prec, emax, low, up, down, below, level, lt, eq, le, fits, is_nan}
use lib.Ieee.Fits.{and_i, eq→eqb, and_l, and_r, down_pos}
use lib.Ieee.Scale.{overflow}
use Rattle.floats.specs.Values.{plus_zero}

-- the size, in units of the format's smallest value
abbrev pub mag : Format → Float → ℕ
mag f nan = 0
mag f (inf s) = overflow f
mag f (fin s m e) = m * up e * 2 ^ low f / down e

abbrev pub sgn : Float → Bool
sgn nan = false
sgn (inf s) = s
sgn (fin s m e) = s

abbrev pub P : Format → Float → ℕ
P f x = cond (sgn x) 0 (mag f x)

abbrev pub N : Format → Float → ℕ
N f x = cond (sgn x) (mag f x) 0

-- a number, the infinities included
abbrev pub num? : Float → Bool
num? nan = false
num? (inf s) = true
num? (fin s m e) = true

-- +0 is no units
pub zero_mag : (f : Format) → mag f plus_zero ≡ 0
zero_mag f = div-one (0 * 1 * 2 ^ low f) ∙ zero-mul (2 ^ low f)

pub zero_fits : (f : Format) → T (fits f plus_zero)
unfolding fits
zero_fits f = tt

-- the order of keys
abbrev pub Le : Format → Float → Float → Type 0
Le f x y = P f x + N f y ≤ P f y + N f x

abbrev pub Lt : Format → Float → Float → Type 0
Lt f x y = P f x + N f y < P f y + N f x

-- ---- the size is exact
pub pow_le_back : (a l : ℕ) → 2 ^ a ≤ 2 ^ l → a ≤ l
pow_le_back a l h = le_of_suc-le-suc (lt_of_not-le (λ (g : suc l ≤ a). lt_irrefl (2 ^ l) (lt_of_lt_of_le (pow-lt g) h)))

whole : (n : ℕ) → n / 1 * 1 ≡ n
whole n = mul-one (n / 1) ∙ div-one n

down_divides : (l m : ℕ) (e : ℤ) → down e ≤ 2 ^ l → m * up e * 2 ^ l / down e * down e ≡ m * up e * 2 ^ l
down_divides l m (pos k) h = whole (m * 2 ^ k * 2 ^ l)
down_divides l m (negsuc k) h =
    let g : suc k ≤ l = pow_le_back (suc k) l h in
    let e : m * 1 * 2 ^ l ≡ m * 1 * 2 ^ (l - suc k) * 2 ^ suc k =
    ap (λ (x : ℕ). m * 1 * 2 ^ x) (sym (sub-add_cancel g)) ∙ ap (λ (x : ℕ). m * 1 * x) (pow-add 2 (l - suc k) (suc k)) ∙ sym (mul_assoc (m * 1) (2 ^ (l - suc k)) (2 ^ suc k)) in
    ap (λ (x : ℕ). x / 2 ^ suc k * 2 ^ suc k) e ∙ ap (λ (x : ℕ). x * 2 ^ suc k) (mul-div_cancel (m * 1 * 2 ^ (l - suc k)) (pow_pos (suc k))) ∙ sym e

flat : (e : ℤ) → up e * down e ≡ 1 → down e ≤ 1
flat (pos k) h = lit≤ tt
flat (negsuc k) h = le_trans (le_of_eq (sym (one-mul (2 ^ suc k)))) (le_of_eq h)

pub fits_down : (f : Format) (s : Bool) (m : ℕ) (e : ℤ) → T (fits f (fin s m e)) → down e ≤ 2 ^ low f
unfolding fits
fits_down f s zero e t = le_trans (flat e (eqb→eq (up e * down e) 1 t)) (pow_pos (low f))
fits_down f s (suc m) e t =
    leb→le (down e) (2 ^ low f)
    (and_r (eqb (suc m % 2) 1 && ltb (suc m) (2 ^ prec f)) (leb (down e) (2 ^ low f))
    (and_l (eqb (suc m % 2) 1 && ltb (suc m) (2 ^ prec f) && leb (down e) (2 ^ low f)) (ltb (suc m * up e) (2 ^ suc (emax f) * down e)) t))

pub fits_max : (f : Format) (s : Bool) (m : ℕ) (e : ℤ) → T (fits f (fin s m e)) → m * up e < 2 ^ suc (emax f) * down e
unfolding fits
fits_max f s zero e t = lt_of_le_of_lt (le_of_eq (zero-mul (up e))) (mul-pos (pow_pos (suc (emax f))) (down_pos e))
fits_max f s (suc m) e t =
    ltb→lt (suc m * up e) (2 ^ suc (emax f) * down e)
    (and_r (eqb (suc m % 2) 1 && ltb (suc m) (2 ^ prec f) && leb (down e) (2 ^ low f)) (ltb (suc m * up e) (2 ^ suc (emax f) * down e)) t)

pub mag_eq : (f : Format) (s : Bool) (m : ℕ) (e : ℤ) → T (fits f (fin s m e)) → mag f (fin s m e) * down e ≡ m * up e * 2 ^ low f
mag_eq f s m e t = down_divides (low f) m e (fits_down f s m e t)

pub mag_lt : (f : Format) (s : Bool) (m : ℕ) (e : ℤ) → T (fits f (fin s m e)) → mag f (fin s m e) < overflow f
mag_lt f s m e t =
    lt_of_mul-lt-mul_right (down e)
    (lt_of_le_of_lt (le_of_eq (mag_eq f s m e t))
    (lt_of_lt_of_le (mul-lt-mul_of_pos_right (fits_max f s m e t) (pow_pos (low f)))
    (le_of_eq (mul_right_comm (2 ^ suc (emax f)) (down e) (2 ^ low f) ∙ ap (λ (x : ℕ). x * down e) (mul_comm (2 ^ suc (emax f)) (2 ^ low f) ∙ sym (pow-add 2 (low f) (suc (emax f))))))))

-- ---- `below` and `level` as an order of signed numbers
below→lt : (s : Bool) (a : ℕ) (t : Bool) (b : ℕ) → T (below s a t b) → cond s 0 a + cond t b 0 < cond t 0 b + cond s a 0
below→lt false a false b h = omega (arith, ltb→lt)
below→lt false a true b h = absurd h
below→lt true a false b h = omega (arith, ltb→lt)
below→lt true a true b h = omega (arith, ltb→lt)

lt→below : (s : Bool) (a : ℕ) (t : Bool) (b : ℕ) → cond s 0 a + cond t b 0 < cond t 0 b + cond s a 0 → T (below s a t b)
lt→below false a false b h = lt→ltb a b (omega arith)
lt→below false a true b h = omega arith
lt→below true a false b h = lt→ltb 0 (a + b) (omega arith)
lt→below true a true b h = lt→ltb b a (omega arith)

pub or_split : (a b : Bool) → T (a || b) → T a ⊎ T b
or_split true b t = inl tt
or_split false b t = inr t

or_l : (a b : Bool) → T a → T (a || b)
or_l true b t = tt
or_l false b t = absurd t

or_r : (a b : Bool) → T b → T (a || b)
or_r true b t = tt
or_r false b t = t

level→eq : (s : Bool) (a : ℕ) (t : Bool) (b : ℕ) → T (level s a t b) → cond s 0 a + cond t b 0 ≡ cond t 0 b + cond s a 0
level→eq s a t b h = go s t (eqb→eq a b (and_l (eqb a b) (beq s t || eqb a 0) h)) (and_r (eqb a b) (beq s t || eqb a 0) h)
  where
    go : (s t : Bool) → a ≡ b → T (beq s t || eqb a 0) → cond s 0 a + cond t b 0 ≡ cond t 0 b + cond s a 0
    go false false e k = omega arith
    go false true e k = let z : a ≡ 0 = eqb→eq a 0 k in omega arith
    go true false e k = let z : a ≡ 0 = eqb→eq a 0 k in omega arith
    go true true e k = omega arith

eq→level : (s : Bool) (a : ℕ) (t : Bool) (b : ℕ) → cond s 0 a + cond t b 0 ≡ cond t 0 b + cond s a 0 → T (level s a t b)
eq→level false a false b h = and_i (eqb a b) true (eq→eqb {a = a} {b = b} (omega arith)) tt
eq→level false a true b h = and_i (eqb a b) (eqb a 0) (eq→eqb {a = a} {b = b} (omega arith)) (eq→eqb {a = a} {b = 0} (omega arith))
eq→level true a false b h = and_i (eqb a b) (eqb a 0) (eq→eqb {a = a} {b = b} (omega arith)) (eq→eqb {a = a} {b = 0} (omega arith))
eq→level true a true b h = and_i (eqb a b) true (eq→eqb {a = a} {b = b} (omega arith)) tt

-- ---- from one scale to another
pub scale_le : (a b A B L K : ℕ) → 0 < K → a * L ≡ A * K → b * L ≡ B * K → a ≤ b → A ≤ B
scale_le a b A B L K k p q h = le_of_mul-le-mul_right (le_trans (le_of_eq (sym p)) (le_trans (mul-le-mul_right L h) (le_of_eq q))) k

pub scale_lt : (a b A B L K : ℕ) → 0 < L → a * L ≡ A * K → b * L ≡ B * K → a < b → A < B
scale_lt a b A B L K l p q h = lt_of_mul-lt-mul_right K (lt_of_le_of_lt (le_of_eq (sym p)) (lt_of_lt_of_le (mul-lt-mul_of_pos_right h l) (le_of_eq q)))

cond_scale : (s : Bool) (a A L K : ℕ) → a * L ≡ A * K → cond s 0 a * L ≡ cond s 0 A * K
cond_scale true a A L K p = zero-mul L ∙ sym (zero-mul K)
cond_scale false a A L K p = p

cond_scale' : (s : Bool) (a A L K : ℕ) → a * L ≡ A * K → cond s a 0 * L ≡ cond s A 0 * K
cond_scale' true a A L K p = p
cond_scale' false a A L K p = zero-mul L ∙ sym (zero-mul K)

pub sum_scale : (a b A B L K : ℕ) → a * L ≡ A * K → b * L ≡ B * K → (a + b) * L ≡ (A + B) * K
sum_scale a b A B L K p q = omega arith

-- what `lt` and `eq` compare, in units
module _ (f : Format) (s : Bool) (m : ℕ) (e : ℤ) (t : Bool) (n : ℕ) (d : ℤ) (hx : T (fits f (fin s m e))) (hy : T (fits f (fin t n d))) where
  pub left : m * up e * down d * 2 ^ low f ≡ mag f (fin s m e) * (down e * down d)
  left = mul_right_comm (m * up e) (down d) (2 ^ low f) ∙ ap (λ (z : ℕ). z * down d) (sym (mag_eq f s m e hx)) ∙ mul_assoc (mag f (fin s m e)) (down e) (down d)

  pub right : n * up d * down e * 2 ^ low f ≡ mag f (fin t n d) * (down e * down d)
  right = mul_right_comm (n * up d) (down e) (2 ^ low f) ∙ ap (λ (z : ℕ). z * down e) (sym (mag_eq f t n d hy)) ∙ mul_assoc (mag f (fin t n d)) (down d) (down e) ∙ ap (λ (z : ℕ). mag f (fin t n d) * z) (mul_comm (down d) (down e))

  lo : (cond s 0 (m * up e * down d) + cond t (n * up d * down e) 0) * 2 ^ low f ≡ (P f (fin s m e) + N f (fin t n d)) * (down e * down d)
  lo = sum_scale (cond s 0 (m * up e * down d)) (cond t (n * up d * down e) 0) (P f (fin s m e)) (N f (fin t n d)) (2 ^ low f) (down e * down d)
      (cond_scale s (m * up e * down d) (mag f (fin s m e)) (2 ^ low f) (down e * down d) left)
      (cond_scale' t (n * up d * down e) (mag f (fin t n d)) (2 ^ low f) (down e * down d) right)

  hi : (cond t 0 (n * up d * down e) + cond s (m * up e * down d) 0) * 2 ^ low f ≡ (P f (fin t n d) + N f (fin s m e)) * (down e * down d)
  hi = sum_scale (cond t 0 (n * up d * down e)) (cond s (m * up e * down d) 0) (P f (fin t n d)) (N f (fin s m e)) (2 ^ low f) (down e * down d)
      (cond_scale t (n * up d * down e) (mag f (fin t n d)) (2 ^ low f) (down e * down d) right)
      (cond_scale' s (m * up e * down d) (mag f (fin s m e)) (2 ^ low f) (down e * down d) left)

  dens : 0 < down e * down d
  dens = mul-pos (down_pos e) (down_pos d)

  fin_lt : T (lt (fin s m e) (fin t n d)) → Lt f (fin s m e) (fin t n d)
  unfolding lt
  fin_lt h = scale_lt _ _ _ _ (2 ^ low f) (down e * down d) (pow_pos (low f)) lo hi (below→lt s (m * up e * down d) t (n * up d * down e) h)

  lt_fin : Lt f (fin s m e) (fin t n d) → T (lt (fin s m e) (fin t n d))
  unfolding lt
  lt_fin h = lt→below s (m * up e * down d) t (n * up d * down e) (scale_lt _ _ _ _ (down e * down d) (2 ^ low f) dens (sym lo) (sym hi) h)

  fin_eq : T (eq (fin s m e) (fin t n d)) → P f (fin s m e) + N f (fin t n d) ≡ P f (fin t n d) + N f (fin s m e)
  unfolding eq
  fin_eq h = eq_of_mul-eq-mul_right (down e * down d) dens _ _ (sym lo ∙ ap (λ (z : ℕ). z * 2 ^ low f) (level→eq s (m * up e * down d) t (n * up d * down e) h) ∙ hi)

  eq_fin : P f (fin s m e) + N f (fin t n d) ≡ P f (fin t n d) + N f (fin s m e) → T (eq (fin s m e) (fin t n d))
  unfolding eq
  eq_fin h = eq→level s (m * up e * down d) t (n * up d * down e) (eq_of_mul-eq-mul_right (2 ^ low f) (pow_pos (low f)) _ _ (lo ∙ ap (λ (z : ℕ). z * (down e * down d)) h ∙ sym hi))

-- ---- the order, for all values that are no `nan`
-- a signed finite value against an infinity
pub small_P : (s : Bool) (a o : ℕ) → a < o → cond s 0 a < o
small_P true a o h = omega arith
small_P false a o h = h

pub small_N : (s : Bool) (a o : ℕ) → a < o → cond s a 0 < o
small_N true a o h = h
small_N false a o h = omega arith

pub lt→key : (f : Format) (x y : Float) → T (fits f x) → T (fits f y) → T (lt x y) → Lt f x y
unfolding lt
lt→key f nan y p q h = absurd h
lt→key f (inf s) nan p q h = absurd h
lt→key f (inf true) (inf true) p q h = absurd h
lt→key f (inf true) (inf false) p q h = let o : 0 < overflow f = pow_pos (low f + suc (emax f)) in omega arith
lt→key f (inf false) (inf t) p q h = absurd h
lt→key f (inf true) (fin t n d) p q h = let b : N f (fin t n d) < overflow f = small_N t _ _ (mag_lt f t n d q) in omega arith
lt→key f (inf false) (fin t n d) p q h = absurd h
lt→key f (fin s m e) nan p q h = absurd h
lt→key f (fin s m e) (inf true) p q h = absurd h
lt→key f (fin s m e) (inf false) p q h = let b : P f (fin s m e) < overflow f = small_P s _ _ (mag_lt f s m e p) in omega arith
lt→key f (fin s m e) (fin t n d) p q h = fin_lt f s m e t n d p q h

pub key→lt : (f : Format) (x y : Float) → T (fits f x) → T (fits f y) → T (num? x) → T (num? y) → Lt f x y → T (lt x y)
unfolding lt
key→lt f nan y p q u v h = absurd u
key→lt f (inf s) nan p q u v h = absurd v
key→lt f (inf true) (inf true) p q u v h = omega arith
key→lt f (inf true) (inf false) p q u v h = tt
key→lt f (inf false) (inf true) p q u v h = omega arith
key→lt f (inf false) (inf false) p q u v h = omega arith
key→lt f (inf true) (fin t n d) p q u v h = tt
key→lt f (inf false) (fin t n d) p q u v h = let b : P f (fin t n d) < overflow f = small_P t _ _ (mag_lt f t n d q) in omega arith
key→lt f (fin s m e) nan p q u v h = absurd v
key→lt f (fin s m e) (inf true) p q u v h = let b : N f (fin s m e) < overflow f = small_N s _ _ (mag_lt f s m e p) in omega arith
key→lt f (fin s m e) (inf false) p q u v h = tt
key→lt f (fin s m e) (fin t n d) p q u v h = lt_fin f s m e t n d p q h

pub eq→key : (f : Format) (x y : Float) → T (fits f x) → T (fits f y) → T (eq x y) → P f x + N f y ≡ P f y + N f x
unfolding eq
eq→key f nan y p q h = absurd h
eq→key f (inf s) nan p q h = absurd h
eq→key f (inf true) (inf true) p q h = refl
eq→key f (inf true) (inf false) p q h = absurd h
eq→key f (inf false) (inf true) p q h = absurd h
eq→key f (inf false) (inf false) p q h = refl
eq→key f (inf s) (fin t n d) p q h = absurd h
eq→key f (fin s m e) nan p q h = absurd h
eq→key f (fin s m e) (inf t) p q h = absurd h
eq→key f (fin s m e) (fin t n d) p q h = fin_eq f s m e t n d p q h

pub key→eq : (f : Format) (x y : Float) → T (fits f x) → T (fits f y) → T (num? x) → T (num? y) → P f x + N f y ≡ P f y + N f x → T (eq x y)
unfolding eq
key→eq f nan y p q u v h = absurd u
key→eq f (inf s) nan p q u v h = absurd v
key→eq f (inf true) (inf true) p q u v h = tt
key→eq f (inf true) (inf false) p q u v h = let o : 0 < overflow f = pow_pos (low f + suc (emax f)) in omega arith
key→eq f (inf false) (inf true) p q u v h = let o : 0 < overflow f = pow_pos (low f + suc (emax f)) in omega arith
key→eq f (inf false) (inf false) p q u v h = tt
key→eq f (inf true) (fin t n d) p q u v h = let b : N f (fin t n d) < overflow f = small_N t _ _ (mag_lt f t n d q) in omega arith
key→eq f (inf false) (fin t n d) p q u v h = let b : P f (fin t n d) < overflow f = small_P t _ _ (mag_lt f t n d q) in omega arith
key→eq f (fin s m e) nan p q u v h = absurd v
key→eq f (fin s m e) (inf true) p q u v h = let b : N f (fin s m e) < overflow f = small_N s _ _ (mag_lt f s m e p) in omega arith
key→eq f (fin s m e) (inf false) p q u v h = let b : P f (fin s m e) < overflow f = small_P s _ _ (mag_lt f s m e p) in omega arith
key→eq f (fin s m e) (fin t n d) p q u v h = eq_fin f s m e t n d p q h

pub le→key : (f : Format) (x y : Float) → T (fits f x) → T (fits f y) → T (le x y) → Le f x y
unfolding le
le→key f x y p q h = elim (or_split (lt x y) (eq x y) h) [ inl l ↦ le_of_lt (lt→key f x y p q l) | inr l ↦ le_of_eq (eq→key f x y p q l) ]

pub key→le : (f : Format) (x y : Float) → T (fits f x) → T (fits f y) → T (num? x) → T (num? y) → Le f x y → T (le x y)
unfolding le
key→le f x y p q u v h = elim (eq-or-lt_of_le h) [ inl e ↦ or_r (lt x y) (eq x y) (key→eq f x y p q u v e) | inr l ↦ or_l (lt x y) (eq x y) (key→lt f x y p q u v l) ]

-- ---- the laws of the order
pub le_nums : (x y : Float) → T (le x y) → T (num? x) × T (num? y)
unfolding le
le_nums nan y h = absurd h
le_nums (inf true) nan h = absurd h
le_nums (inf false) nan h = absurd h
le_nums (inf s) (inf t) h = (tt, tt)
le_nums (inf s) (fin t n d) h = (tt, tt)
le_nums (fin s m e) nan h = absurd h
le_nums (fin s m e) (inf t) h = (tt, tt)
le_nums (fin s m e) (fin t n d) h = (tt, tt)

pub nan_le : (y : Float) → le nan y ≡ false
unfolding le
nan_le y = refl

pub le_nan : (x : Float) → le x nan ≡ false
unfolding le
le_nan nan = refl
le_nan (inf s) = refl
le_nan (fin s m e) = refl

pub le_reflexive : (f : Format) (x : Float) → T (fits f x) → T (num? x) → T (le x x)
le_reflexive f x p u = key→le f x x p p u u (omega arith)

through : (a a' b b' c c' : ℕ) → a + b' ≤ b + a' → b + c' ≤ c + b' → a + c' ≤ c + a'
through a a' b b' c c' h k = omega arith

pub le_transitive : (f : Format) (x y z : Float) → T (fits f x) → T (fits f y) → T (fits f z) → T (le x y) → T (le y z) → T (le x z)
le_transitive f x y z p q r h k =
    key→le f x z p r (le_nums x y h).0 (le_nums y z k).1
    (through (P f x) (N f x) (P f y) (N f y) (P f z) (N f z) (le→key f x y p q h) (le→key f y z q r k))

pub nat_total : (a b : ℕ) → (a ≤ b) ⊎ (b < a)
nat_total a b = go (leb a b) (leb→le a b) (nleb→lt a b)
  where
    go : (t : Bool) → (T t → a ≤ b) → (T (not t) → b < a) → (a ≤ b) ⊎ (b < a)
    go true h k = inl (h tt)
    go false h k = inr (k tt)

pub le_total : (f : Format) (x y : Float) → T (fits f x) → T (fits f y) → T (num? x) → T (num? y) → T (le x y) ⊎ T (le y x)
le_total f x y p q u v = elim (nat_total (P f x + N f y) (P f y + N f x)) [ inl h ↦ inl (key→le f x y p q u v h) | inr h ↦ inr (key→le f y x q p v u (le_of_lt h)) ]

pub lt→nle : (f : Format) (x y : Float) → T (fits f x) → T (fits f y) → T (lt x y) → T (le y x) → ⊥
lt→nle f x y p q h k = not-le_of_lt (lt→key f x y p q h) (le→key f y x q p k)

pub nle→lt : (f : Format) (x y : Float) → T (fits f x) → T (fits f y) → T (num? x) → T (num? y) → (T (le y x) → ⊥) → T (lt x y)
nle→lt f x y p q u v h = key→lt f x y p q u v (lt_of_not-le (λ g. h (key→le f y x q p v u g)))

-- as Booleans: `lt x y` is the negation of `le y x` where neither is a `nan`
pub same_test : (a b : Bool) → (T a → T b → ⊥) → ((T b → ⊥) → T a) → a ≡ not b
same_test true true p q = absurd (p tt tt)
same_test true false p q = refl
same_test false true p q = refl
same_test false false p q = absurd (q (λ t. t))

pub lt_is : (f : Format) (x y : Float) → T (fits f x) → T (fits f y) → T (num? x) → T (num? y) → lt x y ≡ not (le y x)
lt_is f x y p q u v = same_test (lt x y) (le y x) (lt→nle f x y p q) (nle→lt f x y p q u v)

-- `num?` and `is_nan`
pub num_of : (x : Float) → T (not (is_nan x)) → T (num? x)
unfolding is_nan
num_of nan h = h
num_of (inf s) h = tt
num_of (fin s m e) h = tt

-- `lt` and `le` together
pub lt_nums : (x y : Float) → T (lt x y) → T (num? x) × T (num? y)
unfolding lt
lt_nums nan y h = absurd h
lt_nums (inf s) nan h = absurd h
lt_nums (inf s) (inf t) h = (tt, tt)
lt_nums (inf s) (fin t n d) h = (tt, tt)
lt_nums (fin s m e) nan h = absurd h
lt_nums (fin s m e) (inf t) h = (tt, tt)
lt_nums (fin s m e) (fin t n d) h = (tt, tt)

pub lt→le : (x y : Float) → T (lt x y) → T (le x y)
unfolding le
lt→le x y h = or_l (lt x y) (eq x y) h

lt_le : (a a' b b' c c' : ℕ) → a + b' < b + a' → b + c' ≤ c + b' → a + c' < c + a'
lt_le a a' b b' c c' h k = omega arith

pub lt_le_trans : (f : Format) (x y z : Float) → T (fits f x) → T (fits f y) → T (fits f z) → T (lt x y) → T (le y z) → T (lt x z)
lt_le_trans f x y z p q r h k = key→lt f x z p r (lt_nums x y h).0 (le_nums y z k).1 (lt_le (P f x) (N f x) (P f y) (N f y) (P f z) (N f z) (lt→key f x y p q h) (le→key f y z q r k))

-- ---- equality: −0 equals +0, and a NaN equals nothing
pub eq_nums : (x y : Float) → T (eq x y) → T (num? x) × T (num? y)
unfolding eq
eq_nums nan y h = absurd h
eq_nums (inf s) nan h = absurd h
eq_nums (inf s) (inf t) h = (tt, tt)
eq_nums (inf s) (fin t n d) h = absurd h
eq_nums (fin s m e) nan h = absurd h
eq_nums (fin s m e) (inf t) h = absurd h
eq_nums (fin s m e) (fin t n d) h = (tt, tt)

same_key : (a a' b b' c c' : ℕ) → a + b' ≡ b + a' → b + c' ≡ c + b' → a + c' ≡ c + a'
same_key a a' b b' c c' h k = omega arith

pub eq_reflexive : (f : Format) (x : Float) → T (fits f x) → T (num? x) → T (eq x x)
eq_reflexive f x p u = key→eq f x x p p u u refl

pub eq_symmetric : (f : Format) (x y : Float) → T (fits f x) → T (fits f y) → T (eq x y) → T (eq y x)
eq_symmetric f x y p q h = key→eq f y x q p (eq_nums x y h).1 (eq_nums x y h).0 (sym (eq→key f x y p q h))

pub eq_transitive : (f : Format) (x y z : Float) → T (fits f x) → T (fits f y) → T (fits f z) → T (eq x y) → T (eq y z) → T (eq x z)
eq_transitive f x y z p q r h k =
    key→eq f x z p r (eq_nums x y h).0 (eq_nums y z k).1
    (same_key (P f x) (N f x) (P f y) (N f y) (P f z) (N f z) (eq→key f x y p q h) (eq→key f y z q r k))

pub eq→le : (x y : Float) → T (eq x y) → T (le x y)
unfolding le
eq→le x y h = or_r (lt x y) (eq x y) h

pub same_answer : (a b : Bool) → (T a → T b) → (T b → T a) → a ≡ b
same_answer true true h k = refl
same_answer true false h k = absurd (h tt)
same_answer false true h k = absurd (k tt)
same_answer false false h k = refl

pub not_not : (b : Bool) → T (not (not b)) → T b
not_not true h = tt
not_not false h = h

-- equal values stand on the same side of every third one
pub le_eq : (f : Format) (z x y : Float) → T (fits f z) → T (fits f x) → T (fits f y) → T (eq x y) → le z x ≡ le z y
le_eq f z x y r p q h =
    same_answer (le z x) (le z y) (λ l. le_transitive f z x y r p q l (eq→le x y h)) (λ l. le_transitive f z y x r q p l (eq→le y x (eq_symmetric f x y p q h)))
