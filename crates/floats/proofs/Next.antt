-- The next value up is larger, and no value of the format stands between: for every value below +∞, of either sign. Assumes nothing.
use mathlib.Core.Path.{◌≡◌, refl, sym, ap, ◌∙◌, subst}
use mathlib.Core.Logic.{inl, inr}
use Prim.Native.Nat.{ℕ, zero, suc, ◌+◌, ◌-◌, ◌*◌, ◌/◌, ◌%◌, ◌^◌, ◌≤◌, ◌<◌, zero-le}
use native.Mathlib.Nat.{add_assoc, le_trans, le_refl, le_of_eq, le_of_lt, lt_of_lt_of_le, lt_of_le_of_lt, lt_irrefl, lt_of_not-le, not-le_of_lt, eq-or-lt_of_le, mul-le-mul_right, le-div_iff_mul-le, mod-eq_of_lt, add-mod_left, pow-succ', zero-add}
use native.Mathlib.Omega.{arith}
use mathlib.Core.Bool.{Bool, true, false, not, cond}
use lib.IntN.{ℤ}
use lib.Dec.{T}
use lib.Arith.{le→nltb}
use lib.Pow.{pow-add, pow_pos, shr_mono}
use lib.Ieee.{Float, nan, inf, fin, Format, prec, emax, low, size, fits, is_nan, lt, hid, ones, top, of_bits, nan_bits, to_bits}
use lib.Ieee.Fits.{reach, two, two-le_pos, kept-lt, inf-fits}
use lib.Ieee.Digits.{size-lt, size-le, size_reaches}
use lib.Ieee.Bits.{is_true, of_bits-fits, of_bits-to_bits, to_bits-of_bits, nan_bits_is, nan_bits_above}
use lib.Ieee.Scale.{overflow}
use Rattle.floats.specs.Values.{plus_zero}
use Rattle.floats.specs.Next.{next_up}
use Rattle.floats.proofs.Order.{mag, sgn, P, N, num?, Le, Lt, mag_lt, zero_mag, zero_fits, nat_total, lt→key, key→lt, lt_nums, num_of}

-- ---- the pattern of n units: how many digits it drops, and those that it keeps
abbrev pattern : ℕ → ℕ → ℕ → ℕ
pattern p h n = (size n - p) * h + n / 2 ^ (size n - p)

size_mono : (a b : ℕ) → a ≤ b → size a ≤ size b
size_mono a b h = size-le a (size b) (lt_of_le_of_lt h (size-lt b))

twice : (p : ℕ) → 0 < p → 2 ^ p ≡ 2 * 2 ^ (p - 1)
twice p h = ap (λ (x : ℕ). 2 ^ x) (sym (suc_pred p h)) ∙ pow-succ' 2 (p - 1)
  where
    suc_pred : (p : ℕ) → 0 < p → suc (p - 1) ≡ p
    suc_pred p h = omega arith

leading : (p n : ℕ) → 0 < p → 0 < size n - p → 2 ^ (p - 1) ≤ n / 2 ^ (size n - p)
leading p n h k =
    (le-div_iff_mul-le (pow_pos (size n - p))
    ).1 (le_trans (le_of_eq (sym (pow-add 2 (p - 1) (size n - p)))) (size_reaches n (p - 1 + (size n - p)) (all_in_use (size n) p h k)))
  where
    all_in_use : (z p : ℕ) → 0 < p → 0 < z - p → p - 1 + (z - p) < z
    all_in_use z p h k = omega arith

steps : (k k' h a b : ℕ) → suc k * h ≤ k' * h → a < 2 * h → h ≤ b → k * h + a ≤ k' * h + b
steps k k' h a b p q r = omega arith

pattern_mono : (p a b : ℕ) → 0 < p → a ≤ b → pattern p (2 ^ (p - 1)) a ≤ pattern p (2 ^ (p - 1)) b
pattern_mono p a b h l =
    elim (eq-or-lt_of_le (fewer (size a) (size b) p (size_mono a b l))) [
      | inl e ↦ subst (λ (k : ℕ). k * 2 ^ (p - 1) + a / 2 ^ k ≤ pattern p (2 ^ (p - 1)) b) (sym e) (same_k ((size b - p) * 2 ^ (p - 1)) (a / 2 ^ (size b - p)) (b / 2 ^ (size b - p)) (shr_mono (size b - p) l))
      | inr g ↦ steps (size a - p) (size b - p) (2 ^ (p - 1)) (a / 2 ^ (size a - p)) (b / 2 ^ (size b - p)) (mul-le-mul_right (2 ^ (p - 1)) g) (lt_of_lt_of_le (kept-lt p a) (le_of_eq (twice p h))) (leading p b h (lt_of_le_of_lt zero-le g))
    ]
  where
    fewer : (x y p : ℕ) → x ≤ y → x - p ≤ y - p
    fewer x y p h = omega arith

    same_k : (c a b : ℕ) → a ≤ b → c + a ≤ c + b
    same_k c a b h = omega arith

-- below `overflow` units the pattern is below that of an infinity
pattern_lt : (f : Format) (n : ℕ) → n < overflow f → pattern (prec f) (hid f) n < ones f * hid f
pattern_lt f n l =
    let p = prec f in
    last (size n - p) (hid f) (n / 2 ^ (size n - p)) (ones f * hid f)
    (mul-le-mul_right (hid f) (limit (size n) (emax f) p (two f) (reach f) (size-le n (low f + suc (emax f)) l)))
    (lt_of_lt_of_le (kept-lt p n) (le_of_eq (twice p (two-le_pos p (two f)))))
  where
    limit : (z e p : ℕ) → 2 ≤ p → p ≤ suc e → z ≤ e + p - 2 + suc e → suc (suc (z - p)) ≤ 2 * e + 1
    limit z e p h r k = omega arith

    last : (k h a o : ℕ) → suc (suc k) * h ≤ o → a < 2 * h → k * h + a < o
    last k h a o p q = omega arith

-- ---- a value's pattern without its sign
abbrev pub code : Format → Float → ℕ
code f nan = 0
code f (inf s) = ones f * hid f
code f (fin s m e) = pattern (prec f) (hid f) (mag f (fin s m e))

pub to_bits_code : (f : Format) (x : Float) → T (num? x) → to_bits f x ≡ cond (sgn x) (top f) 0 + code f x
unfolding to_bits
to_bits_code f nan u = absurd u
to_bits_code f (inf s) u = refl
to_bits_code f (fin s m e) u = add_assoc (cond s (top f) 0) ((size (mag f (fin s m e)) - prec f) * hid f) (mag f (fin s m e) / 2 ^ (size (mag f (fin s m e)) - prec f))

pub code_most : (f : Format) (x : Float) → T (fits f x) → code f x ≤ ones f * hid f
code_most f nan p = zero-le
code_most f (inf s) p = le_refl (ones f * hid f)
code_most f (fin s m e) p = le_of_lt (pattern_lt f (mag f (fin s m e)) (mag_lt f s m e p))

-- an infinity's pattern is below the sign's bit
pub ones_lt_top : (f : Format) → ones f * hid f < top f
ones_lt_top f = under (ones f) (hid f) (pow_pos (prec f - 1))
  where
    under : (o h : ℕ) → 0 < h → o * h < h * suc o
    under o h p = omega arith

-- ---- patterns without sign stand in the order of the sizes
pub code_mono : (f : Format) (x y : Float) → T (fits f x) → T (fits f y) → T (num? x) → T (num? y) → mag f x ≤ mag f y → code f x ≤ code f y
code_mono f nan y p q u v h = absurd u
code_mono f (inf s) nan p q u v h = absurd v
code_mono f (inf s) (inf t) p q u v h = le_refl (ones f * hid f)
code_mono f (inf s) (fin t n d) p q u v h = absurd (not-le_of_lt (mag_lt f t n d q) h)
code_mono f (fin s m e) nan p q u v h = absurd v
code_mono f (fin s m e) (inf t) p q u v h = code_most f (fin s m e) p
code_mono f (fin s m e) (fin t n d) p q u v h = pattern_mono (prec f) (mag f (fin s m e)) (mag f (fin t n d)) (two-le_pos (prec f) (two f)) h

fits_sign : (f : Format) (s t : Bool) (m : ℕ) (e : ℤ) → T (fits f (fin s m e)) → T (fits f (fin t m e))
unfolding fits
fits_sign f s t zero e p = p
fits_sign f s t (suc m) e p = p

-- the same pattern is the same value, so also the same size
code_same : (f : Format) (s : Bool) (m : ℕ) (e : ℤ) (t : Bool) (n : ℕ) (d : ℤ) → T (fits f (fin s m e)) → T (fits f (fin t n d))
    → code f (fin s m e) ≡ code f (fin t n d) → mag f (fin s m e) ≡ mag f (fin t n d)
code_same f s m e t n d p q h =
    let x = fin false m e in
    let y = fin false n d in
    ap (mag f)
    (sym (of_bits-to_bits f x (fits_sign f s false m e p)) ∙ ap (of_bits f) (to_bits_code f x tt ∙ ap (λ (k : ℕ). 0 + k) h ∙ sym (to_bits_code f y tt)) ∙ of_bits-to_bits f y (fits_sign f t false n d q))

pub code_strict : (f : Format) (x y : Float) → T (fits f x) → T (fits f y) → T (num? x) → T (num? y) → mag f x < mag f y → code f x < code f y
code_strict f nan y p q u v h = absurd u
code_strict f (inf s) nan p q u v h = absurd v
code_strict f (inf s) (inf t) p q u v h = absurd (lt_irrefl (overflow f) h)
code_strict f (inf s) (fin t n d) p q u v h = absurd (not-le_of_lt (mag_lt f t n d q) (le_of_lt h))
code_strict f (fin s m e) nan p q u v h = absurd v
code_strict f (fin s m e) (inf t) p q u v h = pattern_lt f (mag f (fin s m e)) (mag_lt f s m e p)
code_strict f (fin s m e) (fin t n d) p q u v h =
    elim (eq-or-lt_of_le (code_mono f (fin s m e) (fin t n d) p q tt tt (le_of_lt h))) [
      | inl g ↦ absurd (lt_irrefl (mag f (fin s m e)) (lt_of_lt_of_le h (le_of_eq (sym (code_same f s m e t n d p q g)))))
      | inr g ↦ g
    ]

-- and back
pub code_lt : (f : Format) (x y : Float) → T (fits f x) → T (fits f y) → T (num? x) → T (num? y) → code f x < code f y → mag f x < mag f y
code_lt f x y p q u v h = lt_of_not-le (λ g. not-le_of_lt h (code_mono f y x q p v u g))

pub code_le : (f : Format) (x y : Float) → T (fits f x) → T (fits f y) → T (num? x) → T (num? y) → code f x ≤ code f y → mag f x ≤ mag f y
code_le f x y p q u v h = elim (nat_total (mag f x) (mag f y)) [ inl g ↦ g | inr g ↦ absurd (not-le_of_lt (code_strict f y x q p v u g) h) ]

-- ---- what a pattern with the sign s and c below it stands for
pub record Read (f : Format) (s : Bool) (c : ℕ) (y : Float) : Type 0 where
  pub fits_y : T (fits f y)
  pub num_y : T (num? y)
  pub sign : sgn y ≡ s
  pub same : code f y ≡ c

pub signed_mod : (f : Format) (s : Bool) (c : ℕ) → c ≤ ones f * hid f → (cond s (top f) 0 + c) % top f ≡ c
signed_mod f true c h = add-mod_left (top f) c ∙ mod-eq_of_lt (lt_of_le_of_lt h (ones_lt_top f))
signed_mod f false c h = ap (λ (k : ℕ). k % top f) (zero-add c) ∙ mod-eq_of_lt (lt_of_le_of_lt h (ones_lt_top f))

pub signed_no_nan : (f : Format) (s : Bool) (c : ℕ) → c ≤ ones f * hid f → T (not (nan_bits f (cond s (top f) 0 + c)))
signed_no_nan f s c h =
    subst (λ (t : Bool). T (not t)) (sym (nan_bits_above f (cond s (top f) 0 + c)))
    (le→nltb (ones f * hid f) ((cond s (top f) 0 + c) % top f) (le_trans (le_of_eq (signed_mod f s c h)) h))

pub signed_lt : (f : Format) (s : Bool) (c : ℕ) → c ≤ ones f * hid f → cond s (top f) 0 + c < 2 * top f
signed_lt f s c h = go s (top f) (lt_of_le_of_lt h (ones_lt_top f))
  where
    go : (s : Bool) (t : ℕ) → c < t → cond s t 0 + c < 2 * t
    go true t k = omega arith
    go false t k = omega arith

-- a sign and what stands below it are read off their sum
parted : (f : Format) (s t : Bool) (a b : ℕ) → a < top f → b < top f → cond s (top f) 0 + a ≡ cond t (top f) 0 + b → (s ≡ t) × (a ≡ b)
parted f s t a b h k e = go s t (top f) h k e
  where
    go : (s t : Bool) (o : ℕ) → a < o → b < o → cond s o 0 + a ≡ cond t o 0 + b → (s ≡ t) × (a ≡ b)
    go true true o h k e = (refl, omega arith)
    go true false o h k e = absurd (omega arith)
    go false true o h k e = absurd (omega arith)
    go false false o h k e = (refl, omega arith)

pub read_signed : (f : Format) (s : Bool) (c : ℕ) → c ≤ ones f * hid f → Read f s c (of_bits f (cond s (top f) 0 + c))
read_signed f s c h =
    let b = cond s (top f) 0 + c in
    let y = of_bits f b in
    let k : T (not (is_nan y)) = subst (λ (t : Bool). T (not t)) (nan_bits_is f b) (signed_no_nan f s c h) in
    let u = num_of y k in
    let z = parted f (sgn y) s (code f y) c (lt_of_le_of_lt (code_most f y (of_bits-fits f b)) (ones_lt_top f)) (lt_of_le_of_lt h (ones_lt_top f)) (sym (to_bits_code f y u) ∙ to_bits-of_bits f b (signed_lt f s c h) k) in
    record { fits_y = of_bits-fits f b; num_y = u; sign = z.0; same = z.1 }

-- ---- the least value above x
pub record Next (f : Format) (x y : Float) : Type 0 where
  pub fits_y : T (fits f y)
  pub num_y : T (num? y)
  pub larger : Lt f x y
  pub least : (z : Float) → T (fits f z) → T (num? z) → Lt f x z → Le f y z

cond_key : (s t : Bool) (a : ℕ) → s ≡ t → (cond s 0 a ≡ cond t 0 a) × (cond s a 0 ≡ cond t a 0)
cond_key s t a e = (ap (λ (b : Bool). cond b 0 a) e, ap (λ (b : Bool). cond b a 0) e)

-- x is negative, and y is one pattern nearer to zero
down_one : (f : Format) (x y : Float) (c : ℕ) → T (fits f x) → T (num? x) → sgn x ≡ true → code f x ≡ suc c → Read f true c y → Next f x y
down_one f x y c p u s e r = record {
  fits_y = r.fits_y;
  num_y = r.num_y;
  larger = up (P f x) (N f x) (P f y) (N f y) (mag f x) (mag f y) kx.0 kx.1 ky.1 (code_lt f y x r.fits_y p r.num_y u (le_of_eq (ap suc r.same ∙ sym e)));
  least = λ z q v l. go (sgn z) z q v refl l;
}
  where
    kx : (P f x ≡ 0) × (N f x ≡ mag f x)
    kx = cond_key (sgn x) true (mag f x) s

    ky : (P f y ≡ 0) × (N f y ≡ mag f y)
    ky = cond_key (sgn y) true (mag f y) r.sign

    up : (a a' b b' m n : ℕ) → a ≡ 0 → a' ≡ m → b' ≡ n → n < m → a + b' < b + a'
    up a a' b b' m n h i j k = omega arith

    past : (b b' d d' : ℕ) → b ≡ 0 → d' ≡ 0 → b + d' ≤ d + b'
    past b b' d d' h i = omega arith

    under : (a a' d d' m k : ℕ) → a ≡ 0 → a' ≡ m → d ≡ 0 → d' ≡ k → a + d' < d + a' → k < m
    under a a' d d' m k h i j l g = omega arith

    over : (b b' d d' n k : ℕ) → b ≡ 0 → b' ≡ n → d ≡ 0 → d' ≡ k → k ≤ n → b + d' ≤ d + b'
    over b b' d d' n k h i j l g = omega arith

    fewer : (a b c : ℕ) → a < b → b ≡ suc c → a ≤ c
    fewer a b c h e = omega arith

    go : (t : Bool) (z : Float) → T (fits f z) → T (num? z) → sgn z ≡ t → Lt f x z → Le f y z
    go false z q v i l = past (P f y) (N f y) (P f z) (N f z) ky.0 (cond_key (sgn z) false (mag f z) i).1
    go true z q v i l =
        let kz = cond_key (sgn z) true (mag f z) i in
        let m : mag f z < mag f x = under (P f x) (N f x) (P f z) (N f z) (mag f x) (mag f z) kx.0 kx.1 kz.0 kz.1 l in
        over (P f y) (N f y) (P f z) (N f z) (mag f y) (mag f z) ky.0 ky.1 kz.0 kz.1
        (code_le f z y q r.fits_y v r.num_y (le_trans (fewer (code f z) (code f x) c (code_strict f z x q p v u m) e) (le_of_eq (sym r.same))))

-- x is not negative, and y is one pattern further from zero
up_one : (f : Format) (x y : Float) → T (fits f x) → T (num? x) → N f x ≡ 0 → P f x ≡ mag f x → Read f false (code f x + 1) y → Next f x y
up_one f x y p u n s r = record {
  fits_y = r.fits_y;
  num_y = r.num_y;
  larger = up (P f x) (N f x) (P f y) (N f y) (mag f x) (mag f y) s ky.0 ky.1 (code_lt f x y p r.fits_y u r.num_y (more (code f x) (code f y) r.same));
  least = λ z q v l. go (sgn z) z q v refl l;
}
  where
    ky : (P f y ≡ mag f y) × (N f y ≡ 0)
    ky = cond_key (sgn y) false (mag f y) r.sign

    more : (a b : ℕ) → b ≡ a + 1 → a < b
    more a b h = omega arith

    up : (a a' b b' m n : ℕ) → a ≡ m → b ≡ n → b' ≡ 0 → m < n → a + b' < b + a'
    up a a' b b' m n h i j k = omega arith

    nothing : (a a' d d' : ℕ) → a' ≡ 0 → d ≡ 0 → a + d' < d + a' → ⊥
    nothing a a' d d' h i g = omega arith

    under : (a a' d d' m k : ℕ) → a ≡ m → a' ≡ 0 → d ≡ k → d' ≡ 0 → a + d' < d + a' → m < k
    under a a' d d' m k h i j l g = omega arith

    over : (b b' d d' n k : ℕ) → b ≡ n → d ≡ k → d' ≡ 0 → n ≤ k → b + d' ≤ d + b'
    over b b' d d' n k h i j g = omega arith

    step : (a b c : ℕ) → a < b → c ≡ a + 1 → c ≤ b
    step a b c h e = omega arith

    go : (t : Bool) (z : Float) → T (fits f z) → T (num? z) → sgn z ≡ t → Lt f x z → Le f y z
    go true z q v i l = absurd (nothing (P f x) (N f x) (P f z) (N f z) n (cond_key (sgn z) true (mag f z) i).0 l)
    go false z q v i l =
        let kz = cond_key (sgn z) false (mag f z) i in
        let m : mag f x < mag f z = under (P f x) (N f x) (P f z) (N f z) (mag f x) (mag f z) s n kz.0 kz.1 l in
        over (P f y) (N f y) (P f z) (N f z) (mag f y) (mag f z) ky.0 kz.0 kz.1
        (code_le f y z r.fits_y q r.num_y v (step (code f x) (code f z) (code f y) (code_strict f x z p q u v m) r.same))

-- ---- `next_up` by its three cases
pub next_below : (f : Format) (x : Float) → lt x plus_zero ≡ true → next_up f x ≡ of_bits f (to_bits f x - 1)
unfolding next_up
next_below f x h = rw h

pub next_above : (f : Format) (x : Float) → lt x plus_zero ≡ false → lt x (inf false) ≡ true → next_up f x ≡ of_bits f (to_bits f x % top f + 1)
unfolding next_up
next_above f x h k = rw (h, k)

pub next_last : (f : Format) (x : Float) → lt x plus_zero ≡ false → lt x (inf false) ≡ false → next_up f x ≡ x
unfolding next_up
next_last f x h k = rw (h, k)

is : (b : Bool) → b ≡ true → T b
is b h = subst T (sym h) tt

-- below zero: the sign's bit, and at least one pattern below it
pub record Below (f : Format) (x : Float) : Type 0 where
  pub num_x : T (num? x)
  pub sign : sgn x ≡ true
  pub some : 0 < code f x

pub below_zero : (f : Format) (x : Float) → T (fits f x) → lt x plus_zero ≡ true → Below f x
below_zero f x p h =
    let u = (lt_nums x plus_zero (is (lt x plus_zero) h)).0 in
    let k = lt→key f x plus_zero p (zero_fits f) (is (lt x plus_zero) h) in
    go (sgn x) u refl k
  where
    unsigned : (a a' z : ℕ) → z ≡ 0 → a' ≡ 0 → a + 0 < z + a' → ⊥
    unsigned a a' z e n h = omega arith

    size_pos : (a a' z m : ℕ) → z ≡ 0 → a' ≡ m → a + 0 < z + a' → z < m
    size_pos a a' z m e n h = omega arith

    go : (t : Bool) → T (num? x) → sgn x ≡ t → Lt f x plus_zero → Below f x
    go false u i l = absurd (unsigned (P f x) (N f x) (mag f plus_zero) (zero_mag f) (cond_key (sgn x) false (mag f x) i).1 l)
    go true u i l = record {
      num_x = u;
      sign = i;
      some = lt_of_le_of_lt zero-le (code_strict f plus_zero x (zero_fits f) p tt u (size_pos (P f x) (N f x) (mag f plus_zero) (mag f x) (zero_mag f) (cond_key (sgn x) true (mag f x) i).1 l));
    }

-- neither below zero nor +∞ nor a NaN: a pattern with room above it, of a value that counts from zero upward
pub record Under (f : Format) (x : Float) : Type 0 where
  pub num_x : T (num? x)
  pub none_below : N f x ≡ 0
  pub counted : P f x ≡ mag f x
  pub room : code f x + 1 ≤ ones f * hid f

pub under_top : (f : Format) (x : Float) → T (fits f x) → lt x plus_zero ≡ false → lt x (inf false) ≡ true → Under f x
unfolding lt
under_top f nan p h k = absurd (is false k)
under_top f (inf true) p h k = absurd (is false (sym h))
under_top f (inf false) p h k = absurd (is false k)
under_top f (fin s m e) p h k = record { num_x = tt; none_below = z.0; counted = z.1; room = one_more (code f (fin s m e)) (ones f * hid f) (code_strict f (fin s m e) (inf false) p (inf-fits f false) tt tt (mag_lt f s m e p)) }
  where
    one_more : (a b : ℕ) → a < b → a + 1 ≤ b
    one_more a b h = omega arith

    go : (t : Bool) → (lt (fin t m e) plus_zero ≡ false) → T (fits f (fin t m e)) → (N f (fin t m e) ≡ 0) × (P f (fin t m e) ≡ mag f (fin t m e))
    go false l q = (refl, refl)
    go true l q =
        elim (nat_total (mag f (fin true m e)) 0) [
          | inl g ↦ (nil g, sym (nil g))
          | inr g ↦ absurd (is false (sym l ∙ is_true (lt (fin true m e) plus_zero) (key→lt f (fin true m e) plus_zero q (zero_fits f) tt tt (small (mag f (fin true m e)) (mag f plus_zero) (zero_mag f) g))))
        ]
      where
        nil : {n : ℕ} → n ≤ 0 → n ≡ 0
        nil h = omega arith

        small : (n z : ℕ) → z ≡ 0 → 0 < n → 0 + 0 < z + n
        small n z e h = omega arith

    z : (N f (fin s m e) ≡ 0) × (P f (fin s m e) ≡ mag f (fin s m e))
    z = go s h p

-- what the pattern is, and the pattern that is stepped to
pub below_bits : (f : Format) (x : Float) (b : Below f x) → to_bits f x - 1 ≡ top f + (code f x - 1)
below_bits f x b = ap (λ (k : ℕ). k - 1) (to_bits_code f x b.num_x ∙ ap (λ (t : Bool). cond t (top f) 0 + code f x) b.sign) ∙ less (top f) (code f x) b.some
  where
    less : (t c : ℕ) → 0 < c → t + c - 1 ≡ t + (c - 1)
    less t c h = omega arith

pub under_bits : (f : Format) (x : Float) → T (fits f x) → (b : Under f x) → to_bits f x % top f + 1 ≡ 0 + (code f x + 1)
under_bits f x p b =
    ap (λ (k : ℕ). k + 1) (ap (λ (k : ℕ). k % top f) (to_bits_code f x b.num_x) ∙ signed_mod f (sgn x) (code f x) (code_most f x p)) ∙ sym (zero-add (code f x + 1))

-- `next_up` is the least value above x
pub next_up_lem : (f : Format) (x : Float) → T (fits f x) → T (lt x (inf false)) → Next f x (next_up f x)
next_up_lem f x p h = go (lt x plus_zero) refl
  where
    fewer : (c m : ℕ) → c ≤ m → c - 1 ≤ m
    fewer c m h = omega arith

    back : (c : ℕ) → 0 < c → c ≡ suc (c - 1)
    back c h = omega arith

    go : (t : Bool) → lt x plus_zero ≡ t → Next f x (next_up f x)
    go true e =
        let b = below_zero f x p e in
        subst (λ (y : Float). Next f x y) (sym (next_below f x e ∙ ap (of_bits f) (below_bits f x b)))
        (down_one f x (of_bits f (top f + (code f x - 1))) (code f x - 1) p b.num_x b.sign (back (code f x) b.some) (read_signed f true (code f x - 1) (fewer (code f x) (ones f * hid f) (code_most f x p))))
    go false e =
        let b = under_top f x p e (is_true (lt x (inf false)) h) in
        subst (λ (y : Float). Next f x y) (sym (next_above f x e (is_true (lt x (inf false)) h) ∙ ap (of_bits f) (under_bits f x p b)))
        (up_one f x (of_bits f (0 + (code f x + 1))) p b.num_x b.none_below b.counted (read_signed f false (code f x + 1) b.room))
