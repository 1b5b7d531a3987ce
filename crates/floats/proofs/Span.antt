-- The extent that `span` gives between two edges reaches the far one, and one step is enough. Assumes nothing.
use mathlib.Core.Path.{◌≡◌, refl, ap, sym, ◌∙◌, subst}
use mathlib.Core.Logic.{◌⊎◌, inl, inr}
use Prim.Native.Nat.{ℕ, zero, suc, ◌+◌, ◌-◌, ◌*◌, ◌^◌, ◌≤◌, ◌<◌, zero-le}
use native.Mathlib.Nat.{le_trans, le_of_eq, le_of_lt, lt_of_lt_of_le, lt_of_le_of_lt, lt_irrefl}
use native.Mathlib.Omega.{arith}
use mathlib.Core.Bool.{Bool, true, false, not, ◌&&◌}
use lib.IntN.{ℤ}
use lib.Dec.{T, T_not, lit≤}
use lib.Pow.{pow_mono, pow-lt}
use lib.Ieee.{Float, nan, inf, fin, Format, emax, low, add, sub, lt, le, fits}
use lib.Ieee.Fits.{and_l, and_r, add-fits, sub-fits, two}
use lib.Ieee.Scale.{overflow, finite}
use Rattle.floats.specs.Values.{plus_zero}
use Rattle.floats.specs.Next.{next_up}
use Rattle.floats.specs.Span.{short, lengthened, span}
use Rattle.floats.proofs.Order.{mag, P, N, zero_mag, zero_fits, lt→key, key→lt, lt→nle, lt_is, nat_total, not_not}
use Rattle.floats.proofs.Rounding.{G, G_mono, G_zero, G_fixed, exact, add_key, sub_key}
use Rattle.floats.proofs.Monotone.{one_sided, Nonneg, nonneg_not_bottom, rounded_le, le_top, finite_num, add_num_l}
use Rattle.floats.proofs.Half.{self_rounded}
use Rattle.floats.proofs.Distance.{sub_nonneg}
use Rattle.floats.proofs.Next.{next_up_lem}

-- ---- the next value up from one that is finite and above zero
pub finite_lt : (x : Float) → T (finite x) → T (lt x (inf false))
unfolding lt
finite_lt nan u = absurd u
finite_lt (inf s) u = absurd u
finite_lt (fin s m e) u = tt

pub next_positive : (f : Format) (x : Float) → T (fits f x) → T (finite x) → 0 < P f x → Nonneg f (next_up f x) × (P f x < P f (next_up f x))
next_positive f x p u h =
    let n = next_up_lem f x p (finite_lt x u) in
    elim (one_sided x f) [
      | inl k ↦ absurd (lt_irrefl 0 (lt_of_lt_of_le h k))
      | inr k ↦ elim (one_sided (next_up f x) f) [
        | inl l ↦ absurd (none (P f x) (N f x) (P f (next_up f x)) (N f (next_up f x)) k l n.larger)
        | inr l ↦ ((n.num_y, l), more (P f x) (N f x) (P f (next_up f x)) (N f (next_up f x)) k l n.larger)
      ]
    ]
  where
    none : (a a' b b' : ℕ) → a' ≡ 0 → b ≤ 0 → a + b' < b + a' → ⊥
    none a a' b b' h k l = omega arith

    more : (a a' b b' : ℕ) → a' ≡ 0 → b' ≡ 0 → a + b' < b + a' → a < b
    more a a' b b' h k l = omega arith

-- ---- a length that reaches exactly reaches rounded
more : (a b c d e n : ℕ) → a + d ≤ (b + c) + e → n ≡ 0 → a + (d + n) ≤ (b + e) + c
more a b c d e n h z = omega arith

enough : (f : Format) (lo hi len : Float) → T (fits f lo) → T (fits f hi) → T (fits f len) → T (finite lo) → T (finite hi) → Nonneg f len
    → P f hi + N f lo ≤ (P f lo + N f hi) + P f len → T (le hi (add f lo len))
unfolding add
enough f nan hi len p q r u v w h = absurd u
enough f (inf s) hi len p q r u v w h = absurd u
enough f (fin s m e) hi nan p q r u v w h = absurd w.0
enough f (fin s m e) hi (inf true) p q r u v w h = absurd (nonneg_not_bottom f w)
enough f (fin s m e) hi (inf false) p q r u v w h = le_top f hi q (finite_num hi v)
enough f (fin s m e) hi (fin t n d) p q r u v w h =
    let lo = fin s m e in
    let len = fin t n d in
    rounded_le f (P f hi) (N f hi) (P f lo + P f len) (N f lo + N f len) hi (add f lo len) q (add-fits f lo len) (self_rounded f hi q v) (add_key f lo len p r tt tt)
    (more (P f hi) (P f lo) (N f hi) (N f lo) (P f len) (N f len) h w.1)

-- ---- hi - lo in units, before it is rounded
gap : Format → Float → Float → ℕ
gap f lo hi = (P f hi + N f lo) - (N f hi + P f lo)

one_unit : (f : Format) (d : ℕ) → 0 < d → 0 < G f d
one_unit f d h = lt_of_lt_of_le (lit≤ tt) (le_trans (le_of_eq (sym (exact f 1 0 (lt_of_lt_of_le (lit≤ tt) (pow_mono (two f))) (big f)))) (G_mono f 1 d h))
  where
    some : (a b : ℕ) → 0 < a + suc b
    some a b = omega arith

    big : (f : Format) → 1 * 2 ^ 0 < overflow f
    big f = pow-lt {i = 0} {j = low f + suc (emax f)} (some (low f) (emax f))

value_of : (f : Format) (s : Bool) (m : ℕ) (e : ℤ) → T (fits f (fin s m e)) → N f (fin s m e) ≡ 0 → G f (P f (fin s m e)) ≡ P f (fin s m e)
value_of f true m e p h = G_zero f
value_of f false m e p h = G_fixed f (fin false m e) p tt

add_top : (f : Format) (x : Float) → T (finite x) → add f x (inf false) ≡ inf false
unfolding add
add_top f nan u = absurd u
add_top f (inf s) u = absurd u
add_top f (fin s m e) u = refl

-- ---- `lengthened` by its cases
pub lengthened_more : (f : Format) (n : ℕ) (lo hi len : Float) → short f lo hi len ≡ true → lengthened f (suc n) lo hi len ≡ lengthened f n lo hi (next_up f len)
unfolding lengthened
lengthened_more f n lo hi len e = rw (e, lengthened)

pub lengthened_stop : (f : Format) (n : ℕ) (lo hi len : Float) → short f lo hi len ≡ false → lengthened f n lo hi len ≡ len
unfolding lengthened
lengthened_stop f zero lo hi len e = refl
lengthened_stop f (suc n) lo hi len e = rw (e, lengthened)

pub lengthened_none : (f : Format) (lo hi len : Float) → lengthened f 0 lo hi len ≡ len
unfolding lengthened
lengthened_none f lo hi len = refl

-- a length that reaches is not short, whatever it is
pub reaches_enough : (f : Format) (lo hi len : Float) → lt (add f lo len) hi ≡ false → short f lo hi len ≡ false
unfolding short
reaches_enough f lo hi len e = ap (λ (b : Bool). lt plus_zero len && (finite len && b)) e ∙ never (lt plus_zero len) (finite len)
  where
    never : (a b : Bool) → (a && (b && false)) ≡ false
    never true true = refl
    never true false = refl
    never false b = refl

pub span_is : (f : Format) (lo hi : Float) → span f lo hi ≡ lengthened f 4 lo hi (sub f hi lo)
unfolding span
span_is f lo hi = refl

-- ---- what `short` says
pub record Short (f : Format) (lo hi len : Float) : Type 0 where
  pub positive : T (lt plus_zero len)
  pub is_finite : T (finite len)
  pub below : T (lt (add f lo len) hi)

pub short_says : (f : Format) (lo hi len : Float) → T (short f lo hi len) → Short f lo hi len
unfolding short
short_says f lo hi len h =
    let k = and_r (lt plus_zero len) (finite len && lt (add f lo len) hi) h in
    record { positive = and_l (lt plus_zero len) (finite len && lt (add f lo len) hi) h; is_finite = and_l (finite len) (lt (add f lo len) hi) k; below = and_r (finite len) (lt (add f lo len) hi) k }

short_not : (f : Format) (lo hi len : Float) → T (finite len) → T (not (short f lo hi len)) → T (not (lt plus_zero len)) ⊎ T (not (lt (add f lo len) hi))
unfolding short
short_not f lo hi len u h = three (lt plus_zero len) (finite len) (lt (add f lo len) hi) u h
  where
    three : (a b c : Bool) → T b → T (not (a && (b && c))) → T (not a) ⊎ T (not c)
    three true true c t h = inr h
    three true false c t h = absurd t
    three false b c t h = inl tt

pub positive_P : (f : Format) (x : Float) → T (fits f x) → T (lt plus_zero x) → 0 < P f x
positive_P f x p h = go (mag f plus_zero) (P f x) (N f x) (zero_mag f) (lt→key f plus_zero x (zero_fits f) p h)
  where
    go : (z a b : ℕ) → z ≡ 0 → z + b < a + 0 → 0 < a
    go z a b e k = omega arith

reaches_false : (f : Format) (lo hi len : Float) → T (fits f hi) → T (le hi (add f lo len)) → short f lo hi len ≡ false
reaches_false f lo hi len q h = go (short f lo hi len) (short_says f lo hi len)
  where
    go : (b : Bool) → (T b → Short f lo hi len) → b ≡ false
    go true s = absurd (lt→nle f (add f lo len) hi (add-fits f lo len) q (s tt).below h)
    go false s = refl

-- ---- two finite edges in order, with a finite difference
pub record Edges (f : Format) (lo hi : Float) : Type 0 where
  pub fits_lo : T (fits f lo)
  pub fits_hi : T (fits f hi)
  pub finite_lo : T (finite lo)
  pub finite_hi : T (finite hi)
  pub in_order : T (le lo hi)
  pub finite_length : T (finite (sub f hi lo))

module _ (f : Format) (lo hi : Float) (d : Edges f lo hi) where
  len_P : P f (sub f hi lo) ≡ G f (gap f lo hi)
  unfolding gap
  len_P = (sub_key f hi lo d.fits_hi d.fits_lo d.finite_hi d.finite_lo).0

  pub len_nonneg : Nonneg f (sub f hi lo)
  len_nonneg = sub_nonneg f hi lo d.fits_hi d.fits_lo (finite_num (sub f hi lo) d.finite_length) d.in_order

  exact_enough : (y : Float) → T (fits f y) → Nonneg f y → gap f lo hi ≤ P f y → T (le hi (add f lo y))
  unfolding gap
  exact_enough y r w l = enough f lo hi y d.fits_lo d.fits_hi r d.finite_lo d.finite_hi w (arrange (P f hi) (N f lo) (N f hi) (P f lo) (P f y) l)
    where
      arrange : (a b c d e : ℕ) → a + b - (c + d) ≤ e → a + b ≤ (d + c) + e
      arrange a b c d e h = omega arith

  -- a value above the rounded difference is above the difference, or it would be rounded to itself and below
  over_enough : (y : Float) → T (fits f y) → Nonneg f y → G f (gap f lo hi) < P f y → T (le hi (add f lo y))
  over_enough nan r w l = absurd w.0
  over_enough (inf true) r w l = absurd (nonneg_not_bottom f w)
  over_enough (inf false) r w l = subst (λ (z : Float). T (le hi z)) (sym (add_top f lo d.finite_lo)) (le_top f hi d.fits_hi (finite_num hi d.finite_hi))
  over_enough (fin s m e) r w l =
      let y = fin s m e in
      elim (nat_total (gap f lo hi) (P f y)) [
        | inl g ↦ exact_enough y r w g
        | inr g ↦ absurd (lt_irrefl (P f y) (lt_of_le_of_lt (le_trans (le_of_eq (sym (value_of f s m e r w.1))) (G_mono f (P f y) (gap f lo hi) (le_of_lt g))) l))
      ]

  -- where the rounded difference is too short, the next value up reaches
  stepped : T (short f lo hi (sub f hi lo)) → T (le hi (add f lo (next_up f (sub f hi lo))))
  stepped s =
      let len = sub f hi lo in
      let h = short_says f lo hi len s in
      let n = next_positive f len (sub-fits f hi lo) h.is_finite (positive_P f len (sub-fits f hi lo) h.positive) in
      over_enough (next_up f len) (next_up_lem f len (sub-fits f hi lo) (finite_lt len h.is_finite)).fits_y n.0 (lt_of_le_of_lt (le_of_eq (sym len_P)) n.1)

  no_gap : T (not (lt plus_zero (sub f hi lo))) → T (le hi (add f lo (sub f hi lo)))
  no_gap z =
      let len = sub f hi lo in
      elim (nat_total (gap f lo hi) 0) [
        | inl g ↦ exact_enough len (sub-fits f hi lo) len_nonneg (le_trans g zero-le)
        | inr g ↦ absurd (T_not (lt plus_zero len) z (key→lt f plus_zero len (zero_fits f) (sub-fits f hi lo) tt len_nonneg.0
            (arrange (mag f plus_zero) (N f len) (P f len) (zero_mag f) len_nonneg.1 (lt_of_lt_of_le (one_unit f (gap f lo hi) g) (le_of_eq (sym len_P))))))
      ]
    where
      arrange : (a b c : ℕ) → a ≡ 0 → b ≡ 0 → 0 < c → a + b < c + 0
      arrange a b c x y z = omega arith

  -- where it is not, it reaches itself
  stays : T (not (short f lo hi (sub f hi lo))) → T (le hi (add f lo (sub f hi lo)))
  stays s =
      let len = sub f hi lo in
      elim (short_not f lo hi len d.finite_length s) [
        | inl z ↦ no_gap z
        | inr z ↦ not_not (le hi (add f lo len)) (subst (λ (b : Bool). T (not b)) (lt_is f (add f lo len) hi (add-fits f lo len) d.fits_hi (add_num_l f lo len d.fits_lo (sub-fits f hi lo) d.finite_lo len_nonneg.0) (finite_num hi d.finite_hi)) z)
      ]

  -- `span` is the difference, or where that is positive and too short the next value up
  pub span_kind : ((span f lo hi ≡ sub f hi lo) × T (le hi (add f lo (sub f hi lo))))
      ⊎ ((span f lo hi ≡ next_up f (sub f hi lo)) × T (le hi (add f lo (next_up f (sub f hi lo)))) × T (lt plus_zero (sub f hi lo)))
  span_kind = go (short f lo hi (sub f hi lo)) refl
    where
      go : (b : Bool) → short f lo hi (sub f hi lo) ≡ b
          → ((span f lo hi ≡ sub f hi lo) × T (le hi (add f lo (sub f hi lo))))
          ⊎ ((span f lo hi ≡ next_up f (sub f hi lo)) × T (le hi (add f lo (next_up f (sub f hi lo)))) × T (lt plus_zero (sub f hi lo)))
      go false e = inl (span_is f lo hi ∙ lengthened_stop f 4 lo hi (sub f hi lo) e, stays (subst (λ (b : Bool). T (not b)) (sym e) tt))
      go true e =
          let s : T (short f lo hi (sub f hi lo)) = subst T (sym e) tt in
          inr (
            span_is f lo hi
                ∙ lengthened_more f 3 lo hi (sub f hi lo) e
                ∙ lengthened_stop f 3 lo hi (next_up f (sub f hi lo)) (reaches_false f lo hi (next_up f (sub f hi lo)) d.fits_hi (stepped s)),
            stepped s,
            (short_says f lo hi (sub f hi lo) s).positive,
          )

  pub span_reaches : T (le hi (add f lo (span f lo hi)))
  span_reaches = elim span_kind [
    | inl k ↦ subst (λ (z : Float). T (le hi (add f lo z))) (sym k.0) k.1
    | inr k ↦ subst (λ (z : Float). T (le hi (add f lo z))) (sym k.0) k.1
  ]

  -- "For finite lo < hi with finite length one step is enough": at most one gives what at most four give, and it reaches
  pub one_step_is_enough : (span f lo hi ≡ lengthened f 1 lo hi (sub f hi lo)) × T (le hi (add f lo (span f lo hi)))
  one_step_is_enough = (go (short f lo hi (sub f hi lo)) refl, span_reaches)
    where
      go : (b : Bool) → short f lo hi (sub f hi lo) ≡ b → span f lo hi ≡ lengthened f 1 lo hi (sub f hi lo)
      go false e = span_is f lo hi ∙ lengthened_stop f 4 lo hi (sub f hi lo) e ∙ sym (lengthened_stop f 1 lo hi (sub f hi lo) e)
      go true e =
          span_is f lo hi
          ∙ lengthened_more f 3 lo hi (sub f hi lo) e
          ∙ lengthened_stop f 3 lo hi (next_up f (sub f hi lo)) (reaches_false f lo hi (next_up f (sub f hi lo)) d.fits_hi (stepped (subst T (sym e) tt)))
          ∙ sym (lengthened_more f 0 lo hi (sub f hi lo) e ∙ lengthened_none f lo hi (next_up f (sub f hi lo)))
