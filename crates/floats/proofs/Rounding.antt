-- Rounding, in units. The counts of a sum or a difference are the exact ones, rounded by `G`; G keeps the order and leaves the count of every value as it is. Assumes nothing.
use mathlib.Core.Path.{◌≡◌, refl, sym, ap, ◌∙◌, subst}
use Prim.Native.Nat.{ℕ, zero, suc, ◌+◌, ◌-◌, ◌*◌, ◌/◌, ◌%◌, ◌^◌, ◌≤◌, ◌<◌}
use native.Mathlib.Nat.{le_trans, le_of_eq, mul_comm, mul_assoc, mul-le-mul_right, mul-pos, mul-one, mul-sub, mul-div_cancel, div-one, sub-add_cancel}
use native.Mathlib.Omega.{arith}
use mathlib.Core.Bool.{Bool, true, false, not, ◌&&◌, cond}
use lib.IntN.{ℤ, pos, negsuc}
use lib.Dec.{T, leb, ltb, eqb, ltb→lt, nltb→le}
use lib.Pow.{pow-add, pow_pos}
use lib.Ieee.{Float, nan, inf, fin, Format, prec, emax, low, up, down, odd, units, round, neg, sum, add, sub, fits}
use lib.Ieee.Fits.{neg-fits, and_l, and_r, down_pos, round-fits}
use lib.Ieee.Exact.{HasValue, round_exact}
use lib.Ieee.Order.{round_mono}
use lib.Ieee.Scale.{overflow, finite, round_same}
use Rattle.floats.proofs.Order.{mag, sgn, P, N, num?, Le, mag_lt, le→key, fits_down, pow_le_back, scale_le, scale_lt, sum_scale, left, right}

-- ---- x has the sign s and the size v
abbrev pub Signed : Format → Bool → ℕ → Float → Type 0
Signed f s v x = (sgn x ≡ s) × (mag f x ≡ v) × T (num? x)

pub signed_P : (f : Format) (s : Bool) (v : ℕ) (x : Float) → Signed f s v x → P f x ≡ cond s 0 v
signed_P f s v x h = ap (λ (t : Bool). cond t 0 (mag f x)) h.0 ∙ ap (λ (w : ℕ). cond s 0 w) h.1

pub signed_N : (f : Format) (s : Bool) (v : ℕ) (x : Float) → Signed f s v x → N f x ≡ cond s v 0
signed_N f s v x h = ap (λ (t : Bool). cond t (mag f x) 0) h.0 ∙ ap (λ (w : ℕ). cond s w 0) h.1

odd_signed : (f : Format) (d : ℕ) (s : Bool) (q k l : ℕ) → Signed f s (mag f (odd d false q k l)) (odd d s q k l)
unfolding odd
odd_signed f d s zero k l = (refl, refl, tt)
odd_signed f d s (suc q) k l = (refl, refl, tt)

units_signed : (f : Format) (s : Bool) (q k : ℕ) → Signed f s (mag f (units f false q k)) (units f s q k)
unfolding units
units_signed f s q k = go (ltb (q * 2 ^ k) (2 ^ (low f + suc (emax f))))
  where
    go : (b : Bool) → Signed f s (mag f (cond b (odd (suc (prec f)) false q k (low f)) (inf false))) (cond b (odd (suc (prec f)) s q k (low f)) (inf s))
    go true = odd_signed f (suc (prec f)) s q k (low f)
    go false = (refl, refl, tt)

-- the size of a / c rounded
abbrev pub rm : Format → ℕ → ℕ → ℕ
rm f a c = mag f (round f false a c)

pub round_signed : (f : Format) (s : Bool) (a c : ℕ) → Signed f s (rm f a c) (round f s a c)
unfolding round
round_signed f s a c = units_signed f s _ _

bare : (p n q m : ℕ) → n ≡ 0 → m ≡ 0 → p + m ≤ q + n → p ≤ q
bare p n q m a b h = omega arith

pub rm_mono : (f : Format) (a b c d : ℕ) → 0 < b → 0 < d → a * d ≤ c * b → rm f a b ≤ rm f c d
rm_mono f a b c d B D h =
    let x = round f false a b in
    let y = round f false c d in
    let k : Le f x y = le→key f x y (round-fits f false a b) (round-fits f false c d) (round_mono f a b c d B D h) in
    le_trans (le_of_eq (sym (signed_P f false (rm f a b) x (round_signed f false a b))))
    (le_trans (bare (P f x) (N f x) (P f y) (N f y) (signed_N f false (rm f a b) x (round_signed f false a b)) (signed_N f false (rm f c d) y (round_signed f false c d)) k)
    (le_of_eq (signed_P f false (rm f c d) y (round_signed f false c d))))

-- ---- n units, rounded
unfoldable pub G : Format → ℕ → ℕ
G f n = rm f n (2 ^ low f)

pub G_mono : (f : Format) (a b : ℕ) → a ≤ b → G f a ≤ G f b
unfolding G
G_mono f a b h = rm_mono f a (2 ^ low f) b (2 ^ low f) (pow_pos (low f)) (pow_pos (low f)) (mul-le-mul_right (2 ^ low f) h)

-- a fraction of A units
pub rm_is : (f : Format) (s : Bool) (a c A : ℕ) → 0 < c → a * 2 ^ low f ≡ A * c → Signed f s (G f A) (round f s a c)
unfolding G
rm_is f s a c A C e = subst (λ (z : Float). Signed f s (rm f A (2 ^ low f)) z) (sym (round_same f s a c A (2 ^ low f) C (pow_pos (low f)) e)) (round_signed f s A (2 ^ low f))

value_mag : (f : Format) (x : Float) (s : Bool) (a : ℕ) → HasValue x s a (2 ^ low f) → mag f x ≡ a
value_mag f nan s a h = absurd h
value_mag f (inf t) s a h = absurd h
value_mag f (fin t m e) s a h = ap (λ (z : ℕ). z / down e) h.1 ∙ mul-div_cancel a (down_pos e)

pub exact : (f : Format) (q j : ℕ) → q < 2 ^ prec f → q * 2 ^ j < overflow f → G f (q * 2 ^ j) ≡ q * 2 ^ j
unfolding G
exact f q j a b = value_mag f (round f false (q * 2 ^ j) (2 ^ low f)) false (q * 2 ^ j) (round_exact f false (q * 2 ^ j) (2 ^ low f) q j (pow_pos (low f)) a b refl)

-- the size of a finite value is its m, times a power of two
shape : (l m : ℕ) (e : ℤ) → down e ≤ 2 ^ l → (j : ℕ) × (m * up e * 2 ^ l / down e ≡ m * 2 ^ j)
shape l m (pos k) h = (k + l, div-one (m * 2 ^ k * 2 ^ l) ∙ mul_assoc m (2 ^ k) (2 ^ l) ∙ ap (λ (x : ℕ). m * x) (sym (pow-add 2 k l)))
shape l m (negsuc k) h =
    let g : suc k ≤ l = pow_le_back (suc k) l h in (
      l - suc k,
      ap (λ (x : ℕ). x / 2 ^ suc k)
          (ap (λ (x : ℕ). x * 2 ^ l) (mul-one m) ∙ ap (λ (x : ℕ). m * 2 ^ x) (sym (sub-add_cancel g)) ∙ ap (λ (x : ℕ). m * x) (pow-add 2 (l - suc k) (suc k)) ∙ sym (mul_assoc m (2 ^ (l - suc k)) (2 ^ suc k)))
          ∙ mul-div_cancel (m * 2 ^ (l - suc k)) (pow_pos (suc k)),
    )

fits_small : (f : Format) (s : Bool) (m : ℕ) (e : ℤ) → T (fits f (fin s m e)) → m < 2 ^ prec f
unfolding fits
fits_small f s zero e t = pow_pos (prec f)
fits_small f s (suc m) e t =
    ltb→lt (suc m) (2 ^ prec f)
    (and_r (eqb (suc m % 2) 1) (ltb (suc m) (2 ^ prec f))
    (and_l (eqb (suc m % 2) 1 && ltb (suc m) (2 ^ prec f)) (leb (down e) (2 ^ low f))
    (and_l (eqb (suc m % 2) 1 && ltb (suc m) (2 ^ prec f) && leb (down e) (2 ^ low f)) (ltb (suc m * up e) (2 ^ suc (emax f) * down e)) t)))

pub G_fixed : (f : Format) (x : Float) → T (fits f x) → T (finite x) → G f (mag f x) ≡ mag f x
G_fixed f nan p q = absurd q
G_fixed f (inf s) p q = absurd q
G_fixed f (fin s m e) p q =
    let r = shape (low f) m e (fits_down f s m e p) in
    ap (G f) r.1 ∙ exact f m r.0 (fits_small f s m e p) (subst (λ (z : ℕ). z < overflow f) r.1 (mag_lt f s m e p)) ∙ sym r.1

pub G_zero : (f : Format) → G f 0 ≡ 0
G_zero f = exact f 0 0 (pow_pos (prec f)) (pow_pos (low f + suc (emax f)))

-- ---- the sum of two signed fractions a / c and b / c, of A and of B units
-- p - n units, rounded
abbrev pub Rounded : Format → ℕ → ℕ → Float → Type 0
Rounded f p n x = (P f x ≡ G f (p - n)) × (N f x ≡ G f (n - p)) × T (num? x)

rounded : (f : Format) (s : Bool) (v p n : ℕ) (x : Float) → Signed f s (G f v) x → cond s 0 v ≡ p - n → cond s v 0 ≡ n - p → Rounded f p n x
rounded f true v p n x h a b = (signed_P f true (G f v) x h ∙ sym (G_zero f) ∙ ap (G f) a, signed_N f true (G f v) x h ∙ ap (G f) b, h.2)
rounded f false v p n x h a b = (signed_P f false (G f v) x h ∙ ap (G f) a, signed_N f false (G f v) x h ∙ sym (G_zero f) ∙ ap (G f) b, h.2)

diff_scale : (a b A B L K : ℕ) → a * L ≡ A * K → b * L ≡ B * K → (a - b) * L ≡ (A - B) * K
diff_scale a b A B L K p q =
    mul_comm (a - b) L ∙ mul-sub L a b ∙ ap (λ (z : ℕ). z - L * b) (mul_comm L a ∙ p ∙ mul_comm A K) ∙ ap (λ (z : ℕ). K * A - z) (mul_comm L b ∙ q ∙ mul_comm B K) ∙ sym (mul-sub K A B) ∙ mul_comm K (A - B)

module _ (f : Format) (a b c A B : ℕ) (C : 0 < c) (p : a * 2 ^ low f ≡ A * c) (q : b * 2 ^ low f ≡ B * c) where
  sum_key : (s t : Bool) → Rounded f (cond s 0 A + cond t 0 B) (cond s A 0 + cond t B 0) (sum f s a t b c)
  unfolding sum
  sum_key false false = rounded f false (A + B) (A + B) (0 + 0) (round f false (a + b) c) (rm_is f false (a + b) c (A + B) C (sum_scale a b A B (2 ^ low f) c p q)) (omega arith) (omega arith)
  sum_key true true = rounded f true (A + B) (0 + 0) (A + B) (round f true (a + b) c) (rm_is f true (a + b) c (A + B) C (sum_scale a b A B (2 ^ low f) c p q)) (omega arith) (omega arith)
  sum_key false true = go (ltb a b) (ltb→lt a b) (nltb→le a b)
    where
      go : (x : Bool) → (T x → a < b) → (T (not x) → b ≤ a) → Rounded f (A + 0) (0 + B) (cond x (round f true (b - a) c) (round f false (a - b) c))
      go true h k = let l : A < B = scale_lt a b A B (2 ^ low f) c (pow_pos (low f)) p q (h tt) in
          rounded f true (B - A) (A + 0) (0 + B) (round f true (b - a) c) (rm_is f true (b - a) c (B - A) C (diff_scale b a B A (2 ^ low f) c q p)) (omega arith) (omega arith)
      go false h k = let l : B ≤ A = scale_le b a B A (2 ^ low f) c C q p (k tt) in
          rounded f false (A - B) (A + 0) (0 + B) (round f false (a - b) c) (rm_is f false (a - b) c (A - B) C (diff_scale a b A B (2 ^ low f) c p q)) (omega arith) (omega arith)
  sum_key true false = go (ltb a b) (ltb b a) (ltb→lt a b) (nltb→le a b) (ltb→lt b a) (nltb→le b a)
    where
      go : (x y : Bool) → (T x → a < b) → (T (not x) → b ≤ a) → (T y → b < a) → (T (not y) → a ≤ b) → Rounded f (0 + B) (A + 0) (cond x (round f false (b - a) c) (round f (true && y) (a - b) c))
      go true y h k h' k' = let l : A < B = scale_lt a b A B (2 ^ low f) c (pow_pos (low f)) p q (h tt) in
          rounded f false (B - A) (0 + B) (A + 0) (round f false (b - a) c) (rm_is f false (b - a) c (B - A) C (diff_scale b a B A (2 ^ low f) c q p)) (omega arith) (omega arith)
      go false true h k h' k' = let l : B < A = scale_lt b a B A (2 ^ low f) c (pow_pos (low f)) q p (h' tt) in
          rounded f true (A - B) (0 + B) (A + 0) (round f true (a - b) c) (rm_is f true (a - b) c (A - B) C (diff_scale a b A B (2 ^ low f) c p q)) (omega arith) (omega arith)
      go false false h k h' k' =
          let l : B ≤ A = scale_le b a B A (2 ^ low f) c C q p (k tt) in
          let l' : A ≤ B = scale_le a b A B (2 ^ low f) c C p q (k' tt) in
          rounded f false (A - B) (0 + B) (A + 0) (round f false (a - b) c) (rm_is f false (a - b) c (A - B) C (diff_scale a b A B (2 ^ low f) c p q)) (omega arith) (omega arith)

pub add_key : (f : Format) (x y : Float) → T (fits f x) → T (fits f y) → T (finite x) → T (finite y) → Rounded f (P f x + P f y) (N f x + N f y) (add f x y)
unfolding add
add_key f nan y p q u v = absurd u
add_key f (inf s) y p q u v = absurd u
add_key f (fin s m e) nan p q u v = absurd v
add_key f (fin s m e) (inf t) p q u v = absurd v
add_key f (fin s m e) (fin t n d) p q u v =
    sum_key f (m * up e * down d) (n * up d * down e) (down e * down d) (mag f (fin s m e)) (mag f (fin t n d)) (mul-pos (down_pos e) (down_pos d))
    (left f s m e t n d p q) (right f s m e t n d p q) s t

-- ---- the negation and the difference
pub neg_P : (f : Format) (x : Float) → P f (neg x) ≡ N f x
unfolding neg
neg_P f nan = refl
neg_P f (inf true) = refl
neg_P f (inf false) = refl
neg_P f (fin true m e) = refl
neg_P f (fin false m e) = refl

pub neg_N : (f : Format) (x : Float) → N f (neg x) ≡ P f x
unfolding neg
neg_N f nan = refl
neg_N f (inf true) = refl
neg_N f (inf false) = refl
neg_N f (fin true m e) = refl
neg_N f (fin false m e) = refl

pub neg_finite : (x : Float) → T (finite x) → T (finite (neg x))
unfolding neg
neg_finite nan u = absurd u
neg_finite (inf s) u = absurd u
neg_finite (fin s m e) u = tt

pub sub_key : (f : Format) (x y : Float) → T (fits f x) → T (fits f y) → T (finite x) → T (finite y) → Rounded f (P f x + N f y) (N f x + P f y) (sub f x y)
unfolding sub
sub_key f x y p q u v =
    subst (λ (z : ℕ). Rounded f (P f x + N f y) (N f x + z) (add f x (neg y))) (neg_N f y)
    (subst (λ (z : ℕ). Rounded f (P f x + z) (N f x + N f (neg y)) (add f x (neg y))) (neg_P f y)
    (add_key f x (neg y) p (neg-fits f y q) u (neg_finite y v)))
