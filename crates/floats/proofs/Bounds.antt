-- Values within 2 ^ j of zero: they are finite, a sum or a difference of two is within 2 ^ (j + 1), and an edge that `span` reaches is within 2 ^ (j + 3). Assumes nothing.
use mathlib.Core.Path.{◌≡◌, sym, ap, ◌∙◌, subst}
use mathlib.Core.Logic.{inl, inr}
use Prim.Native.Nat.{ℕ, suc, ◌+◌, ◌-◌, ◌*◌, ◌^◌, ◌≤◌, ◌<◌, zero-le, suc-le-suc}
use native.Mathlib.Nat.{le_trans, le_of_eq, lt_of_lt_of_le, lt_of_le_of_lt, lt_irrefl, mul-one, one-mul, div-one, suc-add, two-pow-succ}
use native.Mathlib.Omega.{arith}
use mathlib.Core.Bool.{Bool, true, false, ◌&&◌}
use lib.IntN.{pos}
use lib.Dec.{T, leb, ltb, le→leb, lt→ltb, lit≤}
use lib.Pow.{pow-add, pow_pos, pow_mono, pow-lt}
use lib.Ieee.{Float, nan, inf, fin, Format, prec, emax, low, add, sub, lt, le, fits}
use lib.Ieee.Fits.{and_i, add-fits, sub-fits, two}
use lib.Ieee.Scale.{overflow, finite}
use Rattle.floats.specs.Values.{plus_zero}
use Rattle.floats.specs.Next.{next_up}
use Rattle.floats.specs.Span.{span}
use Rattle.floats.proofs.Order.{mag, P, N, num?, le→key, key→le, le_nums}
use Rattle.floats.proofs.Rounding.{G, G_mono, exact, Rounded, add_key, sub_key}
use Rattle.floats.proofs.Monotone.{one_sided, Nonneg}
use Rattle.floats.proofs.Next.{next_up_lem}
use Rattle.floats.proofs.Span.{finite_lt, next_positive, positive_P, Edges, len_nonneg, span_kind, span_reaches}

abbrev pub Within : ℕ → Float → Type 0
Within j x = T (le (fin true 1 (pos j)) x) × T (le x (fin false 1 (pos j)))

-- ---- a power of two, in units
pub pow_fits : (f : Format) (s : Bool) (j : ℕ) → j ≤ emax f → T (fits f (fin s 1 (pos j)))
unfolding fits
pow_fits f s j h =
    and_i (ltb 1 (2 ^ prec f) && leb 1 (2 ^ low f)) (ltb (1 * 2 ^ j) (2 ^ suc (emax f) * 1))
    (and_i (ltb 1 (2 ^ prec f)) (leb 1 (2 ^ low f)) (lt→ltb 1 (2 ^ prec f) (lt_of_lt_of_le (lit≤ tt) (pow_mono (two f)))) (le→leb 1 (2 ^ low f) (pow_pos (low f))))
    (lt→ltb (1 * 2 ^ j) (2 ^ suc (emax f) * 1) (lt_of_le_of_lt (le_of_eq (one-mul (2 ^ j))) (lt_of_lt_of_le (pow-lt (suc-le-suc h)) (le_of_eq (sym (mul-one (2 ^ suc (emax f))))))))

pow_mag : (f : Format) (s : Bool) (j : ℕ) → mag f (fin s 1 (pos j)) ≡ 2 ^ (j + low f)
pow_mag f s j = div-one (1 * 2 ^ j * 2 ^ low f) ∙ ap (λ (z : ℕ). z * 2 ^ low f) (one-mul (2 ^ j)) ∙ sym (pow-add 2 j (low f))

in_range : (f : Format) (j : ℕ) → j ≤ emax f → 2 ^ (j + low f) < overflow f
in_range f j h = pow-lt {i = j + low f} {j = low f + suc (emax f)} (less j (low f) (emax f) h)
  where
    less : (j l e : ℕ) → j ≤ e → j + l < l + suc e
    less j l e h = omega arith

-- ---- within 2 ^ j is at most that many units, above and below
within_P : (f : Format) (j : ℕ) (x : Float) → T (fits f x) → j ≤ emax f → Within j x → P f x ≤ 2 ^ (j + low f)
within_P f j x p h w =
    let k = le→key f x (fin false 1 (pos j)) p (pow_fits f false j h) w.1 in
    elim (one_sided x f) [ inl z ↦ le_trans z zero-le | inr z ↦ bound (P f x) (N f x) (mag f (fin false 1 (pos j))) (2 ^ (j + low f)) (pow_mag f false j) z k ]
  where
    bound : (a b c d : ℕ) → c ≡ d → b ≡ 0 → a + 0 ≤ c + b → a ≤ d
    bound a b c d e z h = omega arith

within_N : (f : Format) (j : ℕ) (x : Float) → T (fits f x) → j ≤ emax f → Within j x → N f x ≤ 2 ^ (j + low f)
within_N f j x p h w =
    let k = le→key f (fin true 1 (pos j)) x (pow_fits f true j h) p w.0 in
    elim (one_sided x f) [ inl z ↦ bound (P f x) (N f x) (mag f (fin true 1 (pos j))) (2 ^ (j + low f)) (pow_mag f true j) z k | inr z ↦ le_trans (le_of_eq z) zero-le ]
  where
    bound : (a b c d : ℕ) → c ≡ d → a ≤ 0 → 0 + b ≤ a + c → b ≤ d
    bound a b c d e z h = omega arith

units_within : (f : Format) (j : ℕ) (x : Float) → T (fits f x) → j ≤ emax f → T (num? x) → P f x ≤ 2 ^ (j + low f) → N f x ≤ 2 ^ (j + low f) → Within j x
units_within f j x p h u a b = (
  key→le f (fin true 1 (pos j)) x (pow_fits f true j h) p tt u (lower (P f x) (N f x) (mag f (fin true 1 (pos j))) (2 ^ (j + low f)) (pow_mag f true j) b),
  key→le f x (fin false 1 (pos j)) p (pow_fits f false j h) u tt (upper (P f x) (N f x) (mag f (fin false 1 (pos j))) (2 ^ (j + low f)) (pow_mag f false j) a),
)
  where
    lower : (a b c d : ℕ) → c ≡ d → b ≤ d → 0 + b ≤ a + c
    lower a b c d e h = omega arith

    upper : (a b c d : ℕ) → c ≡ d → a ≤ d → a + 0 ≤ c + b
    upper a b c d e h = omega arith

finite_of : (f : Format) (x : Float) → T (num? x) → P f x < overflow f → N f x < overflow f → T (finite x)
finite_of f nan u a b = absurd u
finite_of f (inf true) u a b = absurd (lt_irrefl (overflow f) b)
finite_of f (inf false) u a b = absurd (lt_irrefl (overflow f) a)
finite_of f (fin s m e) u a b = tt

pub within_finite : (f : Format) (j : ℕ) (x : Float) → T (fits f x) → j ≤ emax f → Within j x → T (finite x)
within_finite f j x p h w =
    finite_of f x (le_nums x (fin false 1 (pos j)) w.1).0 (lt_of_le_of_lt (within_P f j x p h w) (in_range f j h)) (lt_of_le_of_lt (within_N f j x p h w) (in_range f j h))

pub within_up : (f : Format) (j k : ℕ) (x : Float) → T (fits f x) → j ≤ k → k ≤ emax f → Within j x → Within k x
within_up f j k x p h l w =
    let g : j ≤ emax f = le_trans h l in
    let m : 2 ^ (j + low f) ≤ 2 ^ (k + low f) = pow_mono (more (low f)) in
    units_within f k x p l (le_nums x (fin false 1 (pos j)) w.1).0 (le_trans (within_P f j x p g w) m) (le_trans (within_N f j x p g w) m)
  where
    more : (l : ℕ) → j + l ≤ k + l
    more l = omega arith

-- ---- sums and differences
round_within : (f : Format) (k n : ℕ) → k ≤ emax f → n ≤ 2 ^ (k + low f) → G f n ≤ 2 ^ (k + low f)
round_within f k n h l =
    le_trans (G_mono f n (1 * 2 ^ (k + low f)) (le_trans l (le_of_eq (sym (one-mul (2 ^ (k + low f)))))))
    (le_of_eq (exact f 1 (k + low f) (lt_of_lt_of_le (lit≤ tt) (pow_mono (two f))) (lt_of_le_of_lt (le_of_eq (one-mul (2 ^ (k + low f)))) (in_range f k h)) ∙ one-mul (2 ^ (k + low f))))

-- p - n units, rounded, where p and n are each a sum of two numbers of at most 2 ^ j
rounded_within : (f : Format) (j p n : ℕ) (z : Float) → suc j ≤ emax f → T (fits f z) → Rounded f p n z → p ≤ 2 ^ (j + low f) + 2 ^ (j + low f) → n ≤ 2 ^ (j + low f) + 2 ^ (j + low f) → Within (suc j) z
rounded_within f j p n z h t r a b =
    let d : 2 ^ (j + low f) + 2 ^ (j + low f) ≡ 2 ^ (suc j + low f) = sym (ap (λ (z : ℕ). 2 ^ z) (suc-add j (low f)) ∙ two-pow-succ (j + low f)) in
    units_within f (suc j) z t h r.2
    (le_trans (le_of_eq r.0) (round_within f (suc j) (p - n) h (le_trans (less p n (2 ^ (j + low f) + 2 ^ (j + low f)) a) (le_of_eq d))))
    (le_trans (le_of_eq r.1) (round_within f (suc j) (n - p) h (le_trans (less n p (2 ^ (j + low f) + 2 ^ (j + low f)) b) (le_of_eq d))))
  where
    less : (a b c : ℕ) → a ≤ c → a - b ≤ c
    less a b c h = omega arith

both : (a b B : ℕ) → a ≤ B → b ≤ B → a + b ≤ B + B
both a b B h k = omega arith

module _ (f : Format) (j : ℕ) (x y : Float) (p : T (fits f x)) (q : T (fits f y)) (h : suc j ≤ emax f) (v : Within j x) (w : Within j y) where
  g : j ≤ emax f
  g = omega arith

  pub add_within : Within (suc j) (add f x y)
  add_within =
      rounded_within f j (P f x + P f y) (N f x + N f y) (add f x y) h (add-fits f x y) (add_key f x y p q (within_finite f j x p g v) (within_finite f j y q g w))
      (both (P f x) (P f y) (2 ^ (j + low f)) (within_P f j x p g v) (within_P f j y q g w)) (both (N f x) (N f y) (2 ^ (j + low f)) (within_N f j x p g v) (within_N f j y q g w))

  pub sub_within : Within (suc j) (sub f x y)
  sub_within =
      rounded_within f j (P f x + N f y) (N f x + P f y) (sub f x y) h (sub-fits f x y) (sub_key f x y p q (within_finite f j x p g v) (within_finite f j y q g w))
      (both (P f x) (N f y) (2 ^ (j + low f)) (within_P f j x p g v) (within_N f j y q g w)) (both (N f x) (P f y) (2 ^ (j + low f)) (within_N f j x p g v) (within_P f j y q g w))

-- ---- the next value up from a positive one stays within twice its bound
next_within : (f : Format) (j : ℕ) (x : Float) → T (fits f x) → suc j ≤ emax f → Within j x → T (lt plus_zero x) → Within (suc j) (next_up f x)
next_within f j x p h w l =
    let u = within_finite f j x p g w in
    let z = fin false 1 (pos (suc j)) in
    let n = next_up_lem f x p (finite_lt x u) in
    let s = next_positive f x p u (positive_P f x p l) in
    let m = n.least z (pow_fits f false (suc j) h) tt (less (P f x) (N f x) (mag f z) (2 ^ (j + low f)) (2 ^ (suc j + low f)) (pow_mag f false (suc j)) (within_P f j x p g w) up) in
    units_within f (suc j) (next_up f x) n.fits_y h n.num_y (most (P f (next_up f x)) (N f (next_up f x)) (mag f z) (2 ^ (suc j + low f)) (pow_mag f false (suc j)) s.0.1 m) (le_trans (le_of_eq s.0.1) zero-le)
  where
    g : j ≤ emax f
    g = omega arith

    one_more : (j l : ℕ) → j + l < suc j + l
    one_more j l = omega arith

    up : 2 ^ (j + low f) < 2 ^ (suc j + low f)
    up = pow-lt (one_more j (low f))

    less : (a a' z b c : ℕ) → z ≡ c → a ≤ b → b < c → a + 0 < z + a'
    less a a' z b c e h k = omega arith

    most : (a a' z c : ℕ) → z ≡ c → a' ≡ 0 → a + 0 ≤ z + a' → a ≤ c
    most a a' z c e h k = omega arith

-- ---- what `span` gives between two edges within 2 ^ j
pub record Reach (f : Format) (j : ℕ) (lo hi len : Float) : Type 0 where
  pub fits_len : T (fits f len)
  pub nonneg : Nonneg f len
  pub covers : T (le hi (add f lo len))
  pub within : Within (3 + j) (add f lo len)

module _ (f : Format) (j : ℕ) (lo hi : Float) (p : T (fits f lo)) (q : T (fits f hi)) (r : 3 + j ≤ emax f) (a : Within j lo) (b : Within j hi) (h : T (le lo hi)) where
  j1 : suc j ≤ emax f
  j1 = omega arith

  j2 : suc (suc j) ≤ emax f
  j2 = omega arith

  j3 : suc (suc (suc j)) ≤ emax f
  j3 = omega arith

  len : Float
  len = sub f hi lo

  len_within : Within (suc j) len
  unfolding len
  len_within = sub_within f j hi lo q p j1 b a

  pub edges : Edges f lo hi
  unfolding len
  edges = record {
    fits_lo = p;
    fits_hi = q;
    finite_lo = within_finite f j lo p (omega arith) a;
    finite_hi = within_finite f j hi q (omega arith) b;
    in_order = h;
    finite_length = within_finite f (suc j) len (sub-fits f hi lo) j1 len_within;
  }

  -- any length that reaches and is not too large
  done : (x : Float) → span f lo hi ≡ x → T (fits f x) → Nonneg f x → Within (suc (suc j)) x → Reach f j lo hi (span f lo hi)
  done x e l n m = record {
    fits_len = subst (λ (z : Float). T (fits f z)) (sym e) l;
    nonneg = subst (λ (z : Float). Nonneg f z) (sym e) n;
    covers = span_reaches f lo hi edges;
    within = subst (λ (z : Float). Within (3 + j) (add f lo z)) (sym e)
        (subst (λ (k : ℕ). Within k (add f lo x)) (three j) (add_within f (suc (suc j)) lo x p l j3 (within_up f j (suc (suc j)) lo p (omega arith) j2 a) m));
  }
    where
      three : (k : ℕ) → suc (suc (suc k)) ≡ 3 + k
      three k = omega arith

  pub span_reach : Reach f j lo hi (span f lo hi)
  unfolding len
  span_reach = elim (span_kind f lo hi edges) [
    | inl k ↦ done len k.0 (sub-fits f hi lo) (len_nonneg f lo hi edges) (within_up f (suc j) (suc (suc j)) len (sub-fits f hi lo) (omega arith) j2 len_within)
    | inr k ↦
        let u = edges.finite_length in
        done (next_up f len) k.0 (next_up_lem f len (sub-fits f hi lo) (finite_lt len u)).fits_y (next_positive f len (sub-fits f hi lo) u (positive_P f len (sub-fits f hi lo) k.2)).0
        (next_within f (suc j) len (sub-fits f hi lo) j2 len_within k.2)
  ]
