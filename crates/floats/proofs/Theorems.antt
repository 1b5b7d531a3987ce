-- What is true of binary64: the laws of the other files, said at the format that the code uses. Assumes nothing.
use mathlib.Core.Path.{◌≡◌, refl}
use mathlib.Core.Logic.{◌⊎◌}
use mathlib.Core.Bool.{false, not}
use lib.Dec.{T}
use lib.Ieee.{Float, nan, inf, binary64, add, sub, mul, lt, le, eq, fits, is_nan, of_bits, to_bits}
use lib.Ieee.Scale.{finite}
use Rattle.floats.specs.Values.{plus_zero}
use Rattle.floats.specs.Next.{next_up}
use Rattle.floats.specs.Span.{lengthened, span}
use Rattle.floats.proofs.Order.{eq_reflexive, eq_symmetric, eq_transitive, le_eq, num_of, le_transitive, le_total, lt_is, nan_le, le_nan, lt→key, key→lt, key→le, lt_nums, lt→le}
use Rattle.floats.proofs.Monotone.{le→nonneg, nonneg_add_mono}
use Rattle.floats.proofs.Next.{next_up_lem}
use Rattle.floats.proofs.Distance.{Between}
use Rattle.floats.proofs.Distance as distance
use Rattle.floats.proofs.Span as spans

-- a value that an f64 can have, and one that is no NaN
abbrev pub F64 : Float → Type 0
F64 x = T (fits binary64 x)

abbrev pub NoNan : Float → Type 0
NoNan x = T (not (is_nan x))

-- ---- the order is total and transitive away from NaN, and at a NaN it says no
module _ (x y : Float) (p : F64 x) (q : F64 y) where
  pub order_total : NoNan x → NoNan y → T (le x y) ⊎ T (le y x)
  order_total u v = le_total binary64 x y p q (num_of x u) (num_of y v)

  pub order_strict : NoNan x → NoNan y → lt x y ≡ not (le y x)
  order_strict u v = lt_is binary64 x y p q (num_of x u) (num_of y v)

  pub order_transitive : (z : Float) → F64 z → T (le x y) → T (le y z) → T (le x z)
  order_transitive z r h k = le_transitive binary64 x y z p q r h k

pub order_nan : (x : Float) → (le nan x ≡ false) × (le x nan ≡ false)
order_nan x = (nan_le x, le_nan x)

-- ---- equality is an equivalence away from NaN, and equal values stand on the same side of every third one
pub equal_reflexive : (x : Float) → F64 x → NoNan x → T (eq x x)
equal_reflexive x p u = eq_reflexive binary64 x p (num_of x u)

module _ (x y : Float) (p : F64 x) (q : F64 y) (h : T (eq x y)) where
  pub equal_symmetric : T (eq y x)
  equal_symmetric = eq_symmetric binary64 x y p q h

  pub equal_transitive : (z : Float) → F64 z → T (eq y z) → T (eq x z)
  equal_transitive z r k = eq_transitive binary64 x y z p q r h k

  pub equal_sides : (z : Float) → F64 z → le z x ≡ le z y
  equal_sides z r = le_eq binary64 z x y r p q h

-- ---- the next value up is the least that is larger
pub next_least : (x : Float) → F64 x → T (lt x (inf false)) → F64 (next_up binary64 x) × T (lt x (next_up binary64 x)) × ((y : Float) → F64 y → T (lt x y) → T (le (next_up binary64 x) y))
next_least x p h =
    let n = next_up_lem binary64 x p h in (
      n.fits_y,
      key→lt binary64 x (next_up binary64 x) p n.fits_y (lt_nums x (inf false) h).0 n.num_y n.larger,
      λ y q l. key→le binary64 (next_up binary64 x) y n.fits_y q n.num_y (lt_nums x y l).1 (n.least y q (lt_nums x y l).1 (lt→key binary64 x y p q l)),
    )

-- ---- "For finite lo < hi with finite length one step is enough"
pub one_step_is_enough : (lo hi : Float) → F64 lo → F64 hi → T (finite lo) → T (finite hi) → T (lt lo hi) → T (finite (sub binary64 hi lo))
    → (span binary64 lo hi ≡ lengthened binary64 1 lo hi (sub binary64 hi lo)) × T (le hi (add binary64 lo (span binary64 lo hi)))
one_step_is_enough lo hi p q u v h w =
    spans.one_step_is_enough binary64 lo hi (record { fits_lo = p; fits_hi = q; finite_lo = u; finite_hi = v; in_order = lt→le lo hi h; finite_length = w })

-- ---- "rounded distances keep order": what lies between v and b is no further from v than b is, over all signs and infinities, where neither difference is a NaN
pub order_kept : (v a b : Float) → F64 v → F64 a → F64 b → NoNan (sub binary64 a v) → NoNan (sub binary64 b v) → Between v a b
    → T (le (mul binary64 (sub binary64 a v) (sub binary64 a v)) (mul binary64 (sub binary64 b v) (sub binary64 b v)))
order_kept v a b p q r u w h = distance.order_kept binary64 v a b p q r (num_of (sub binary64 a v) u) (num_of (sub binary64 b v) w) h

pub sums_kept : (a a' b b' : Float) → F64 a → F64 a' → F64 b → F64 b' → T (le plus_zero a) → T (le plus_zero b) → T (le a a') → T (le b b')
    → T (le (add binary64 a b) (add binary64 a' b'))
sums_kept a a' b b' p p' q q' u v h k = nonneg_add_mono binary64 a a' b b' p p' q q' (le→nonneg binary64 a p u) (le→nonneg binary64 b q v) h k

-- ---- "`span`(−3·2^−55, 1) is 1 + 2^−52; `span`(0, 0) is 0; `span`(1, 0) is −1.", by the bits of each
pub span_stepped : span binary64 (of_bits binary64 0xbc98_0000_0000_0000) (of_bits binary64 0x3ff0_0000_0000_0000) ≡ of_bits binary64 0x3ff0_0000_0000_0001
unfolding span sub lt of_bits to_bits
span_stepped = refl

pub span_none : span binary64 (of_bits binary64 0) (of_bits binary64 0) ≡ of_bits binary64 0
unfolding span sub lt of_bits to_bits
span_none = refl

pub span_backward : span binary64 (of_bits binary64 0x3ff0_0000_0000_0000) (of_bits binary64 0) ≡ of_bits binary64 0xbff0_0000_0000_0000
unfolding span sub lt of_bits to_bits
span_backward = refl
