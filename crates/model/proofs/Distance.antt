-- The node distance of a box is at most the distance of any place inside it, for a centre without NaN. For every box whatever, over any number of axes. Assumes nothing.
use Prim.Native.Nat.{◌≤◌, zero-le}
use native.Mathlib.Nat.{le_trans, le_of_eq}
use mathlib.Core.Logic.{inl, inr}
use mathlib.Core.Bool.{Bool, true, false, cond}
use mathlib.Core.List.{List, [], ◌∷◌, zip_with}
use lib.Dec.{T}
use lib.Ieee.{Float, nan, inf, fin, binary64, add, sub, le, lt}
use lib.Ieee.Fits.{and_l, and_r, add-fits, sub-fits, mul-fits}
use lib.Ieee.Scale.{finite}
use Rattle.floats.specs.Values.{plus_zero}
use Rattle.floats.proofs.Order.{num?, mag, zero_mag, zero_fits, lt→le, le_reflexive}
use Rattle.floats.proofs.Monotone.{Nonneg, sub_num_l, sub_num_r, square_mono, square_nonneg, nonneg_add, nonneg_add_mono}
use Rattle.floats.proofs.Distance.{sub_swap, size_kept}
use Rattle.model.specs.Boxes.{Side, far, holds, inside, added_to, added, square, difference_sq, squared, axis_sq, node_distance}
use Rattle.model.specs.Soundness.{All}
use Rattle.model.proofs.Inside.{F64, F64Side, far_held}

-- ---- an edge between a number and a finite one is finite
finite_low : (v y x : Float) → T (lt v y) → T (le y x) → T (finite x) → T (finite y)
unfolding lt le
finite_low nan y x h k u = absurd h
finite_low (inf s) nan x h k u = absurd h
finite_low (inf true) (inf true) x h k u = absurd h
finite_low (inf false) (inf true) x h k u = absurd h
finite_low (fin s m e) nan x h k u = absurd h
finite_low (fin s m e) (inf true) x h k u = absurd h
finite_low (inf s) (inf false) nan h k u = absurd u
finite_low (inf s) (inf false) (inf t) h k u = absurd u
finite_low (inf s) (inf false) (fin t n d) h k u = absurd k
finite_low (fin s m e) (inf false) nan h k u = absurd u
finite_low (fin s m e) (inf false) (inf t) h k u = absurd u
finite_low (fin s m e) (inf false) (fin t n d) h k u = absurd k
finite_low (inf s) (fin t n d) x h k u = tt
finite_low (fin s m e) (fin t n d) x h k u = tt

finite_high : (x y v : Float) → T (le x y) → T (lt y v) → T (finite x) → T (finite y)
unfolding lt le
finite_high nan y v h k u = absurd u
finite_high (inf s) y v h k u = absurd u
finite_high (fin s m e) nan v h k u = absurd h
finite_high (fin s m e) (inf true) v h k u = absurd h
finite_high (fin s m e) (inf false) nan h k u = absurd k
finite_high (fin s m e) (inf false) (inf t) h k u = absurd k
finite_high (fin s m e) (inf false) (fin t n d) h k u = absurd k
finite_high (fin s m e) (fin t n d) v h k u = tt

-- ---- one axis: the place x lies on the side s, and v is the centre's coordinate
pub record Axis (s : Side) (x v : Float) : Type 0 where
  pub held_side : F64Side s
  pub held_x : F64 x
  pub held_v : F64 v
  pub finite_x : T (finite x)
  pub num_v : T (num? v)
  pub above : T (le s.corner x)
  pub under : T (le x (far s))

-- 0 ≤ a ≤ b, both values of an f64
abbrev pub Under : Float → Float → Type 0
Under a b = F64 a × F64 b × Nonneg binary64 a × T (le a b)

module _ (s : Side) (x v : Float) (a : Axis s x v) where
  num_gap : T (num? (sub binary64 x v))
  num_gap = sub_num_l binary64 x v a.held_x a.held_v a.finite_x a.num_v

  -- a number that is no larger than x − v in size
  smaller : (d : Float) → F64 d → T (num? d) → mag binary64 d ≤ mag binary64 (sub binary64 x v) → Under (square d) (square (sub binary64 x v))
  smaller d p u h = (
    mul-fits binary64 d d,
    mul-fits binary64 (sub binary64 x v) (sub binary64 x v),
    square_nonneg binary64 d u,
    square_mono binary64 d (sub binary64 x v) p (sub-fits binary64 x v) u num_gap h,
  )

  below_corner : T (lt v s.corner) → Under (square (sub binary64 s.corner v)) (square (sub binary64 x v))
  below_corner h =
      let u = sub_num_l binary64 s.corner v a.held_side.0 a.held_v (finite_low v s.corner x h a.above a.finite_x) a.num_v in
      smaller (sub binary64 s.corner v) (sub-fits binary64 s.corner v) u
      (size_kept binary64 v s.corner x a.held_v a.held_side.0 a.held_x u num_gap (inl (lt→le v s.corner h, a.above)))

  above_far : T (lt (far s) v) → Under (square (sub binary64 v (far s))) (square (sub binary64 x v))
  above_far h =
      let u = sub_num_r binary64 v (far s) a.held_v (far_held s) a.num_v (finite_high x (far s) v a.under h a.finite_x) in
      let w = sub_swap binary64 v (far s) a.held_v (far_held s) u in
      smaller (sub binary64 v (far s)) (sub-fits binary64 v (far s)) u
      (le_trans (le_of_eq w.1) (size_kept binary64 v (far s) x a.held_v (far_held s) a.held_x w.0 num_gap (inr (a.under, lt→le (far s) v h))))

  pub axis_under : Under (axis_sq s v) (difference_sq x v)
  unfolding axis_sq difference_sq
  axis_under = go (lt v s.corner) (lt (far s) v) below_corner above_far
    where
      go : (t u : Bool) → (T t → Under (square (sub binary64 s.corner v)) (square (sub binary64 x v))) → (T u → Under (square (sub binary64 v (far s))) (square (sub binary64 x v)))
          → Under (square (cond t (sub binary64 s.corner v) (cond u (sub binary64 v (far s)) plus_zero))) (square (sub binary64 x v))
      go true u h k = h tt
      go false true h k = k tt
      go false false h k = smaller plus_zero (zero_fits binary64) tt (le_trans (le_of_eq (zero_mag binary64)) zero-le)

-- ---- sums from the left keep the order
abbrev Unders : List Float → List Float → Type 0
Unders [] [] = Unit {0}
Unders [] (y ∷ ys) = ⊥
Unders (x ∷ xs) [] = ⊥
Unders (x ∷ xs) (y ∷ ys) = Under x y × Unders xs ys

added_on : (a b : Float) (xs ys : List Float) → Under a b → Unders xs ys → Under (added_to a xs) (added_to b ys)
unfolding added_to
added_on a b [] [] u h = u
added_on a b [] (y ∷ ys) u h = absurd h
added_on a b (x ∷ xs) [] u h = absurd h
added_on a b (x ∷ xs) (y ∷ ys) u h =
    let k = h.0 in
    added_on (add binary64 a x) (add binary64 b y) xs ys (
      add-fits binary64 a x,
      add-fits binary64 b y,
      nonneg_add binary64 a x u.0 k.0 u.2 k.2,
      nonneg_add_mono binary64 a b x y u.0 u.1 k.0 k.1 u.2 k.2 u.3 k.3,
    ) h.1

added_under : (xs ys : List Float) → Unders xs ys → Under (added xs) (added ys)
unfolding added
added_under [] [] h = (zero_fits binary64, zero_fits binary64, (tt, zero_mag binary64), le_reflexive binary64 plus_zero (zero_fits binary64) tt)
added_under [] (y ∷ ys) h = absurd h
added_under (x ∷ xs) [] h = absurd h
added_under (x ∷ xs) (y ∷ ys) h = added_on x y xs ys h.0 h.1

-- ---- all axes
abbrev pub Finite : Float → Type 0
Finite x = F64 x × T (finite x)

abbrev pub Number : Float → Type 0
Number v = F64 v × T (num? v)

all_under : (b : List Side) (p c : List Float) → All F64Side b → All Finite p → All Number c → T (inside b p) → Unders (zip_with axis_sq b c) (zip_with difference_sq p c)
unfolding zip_with inside holds
all_under [] [] c g q r h = tt
all_under [] (x ∷ p) c g q r h = absurd h
all_under (s ∷ b) [] c g q r h = absurd h
all_under (s ∷ b) (x ∷ p) [] g q r h = tt
all_under (s ∷ b) (x ∷ p) (v ∷ c) g q r h =
    let k = and_l (holds s x) (inside b p) h in
    let a : Axis s x v = record {
      held_side = g.0;
      held_x = q.0.0;
      held_v = r.0.0;
      finite_x = q.0.1;
      num_v = r.0.1;
      above = and_l (le s.corner x) (le x (far s)) k;
      under = and_r (le s.corner x) (le x (far s)) k;
    } in
    (axis_under s x v a, all_under b p c g.1 q.1 r.1 (and_r (holds s x) (inside b p) h))

-- 0 ≤ the node distance ≤ the distance of the place
pub node_under : (b : List Side) (p c : List Float) → All F64Side b → All Finite p → All Number c → T (inside b p) → Under (node_distance b c) (squared p c)
unfolding node_distance squared
node_under b p c g q r h = added_under (zip_with axis_sq b c) (zip_with difference_sq p c) (all_under b p c g q r h)
