-- A place inside a box is inside the child box that it routes to, at every level below an acceptable boundary. Over any number of axes. Assumes nothing.
use Prim.Native.Nat.{ℕ, zero, suc, ◌+◌, ◌*◌, ◌/◌, ◌%◌, ◌≤◌}
use native.Mathlib.Omega.{arith}
use mathlib.Core.Path.{◌≡◌, refl, ap, sym, subst}
use mathlib.Core.Logic.{inl, inr}
use mathlib.Core.Bool.{Bool, true, false, ◌&&◌, cond}
use mathlib.Core.List.{List, [], ◌∷◌}
use lib.IntN.{pos}
use lib.Dec.{T, eqb, lit≤}
use lib.Ieee.{Float, fin, binary64, add, div, le}
use lib.Ieee.Fits.{and_i, and_l, and_r, add-fits}
use Rattle.floats.specs.Values.{plus_zero, two}
use Rattle.floats.specs.Span.{span}
use Rattle.floats.proofs.Order.{le_nums, le_transitive, le_total}
use Rattle.floats.proofs.Monotone.{Nonneg, le→nonneg}
use Rattle.floats.proofs.Half.{midplane}
use Rattle.floats.proofs.Bounds.{Within, within_finite, within_up, pow_fits, add_within, Reach, span_reach}
pub use Rattle.floats.proofs.Theorems.{F64}
use Rattle.model.specs.Boxes.{Side, far, holds, inside, mid, turn, route, half, part, bounded, acceptable}
use Rattle.model.specs.Soundness.{All}

abbrev pub F64Side : Side → Type 0
F64Side s = F64 s.corner × F64 s.extent

pub far_held : (s : Side) → F64 (far s)
unfolding far
far_held s = add-fits binary64 s.corner s.extent

pub mid_held : (s : Side) → F64 (mid s)
unfolding mid
mid_held s = add-fits binary64 s.corner (div binary64 s.extent two)

-- ---- one side. A far edge can creep past its parent's by rounding, so the bound on the ends grows on the way descend
pub record Bounded (j : ℕ) (s : Side) : Type 0 where
  pub fits_corner : F64 s.corner
  pub fits_extent : F64 s.extent
  pub nonneg : Nonneg binary64 s.extent
  pub near : Within j s.corner
  pub end : Within j (far s)

module _ (j : ℕ) (s : Side) (r : 3 + j ≤ 1023) (g : Bounded j s) where
  h : j ≤ 1023
  h = omega arith

  mids : T (le s.corner (mid s)) × T (le (mid s) (far s))
  unfolding mid far
  mids = midplane binary64 s.corner s.extent g.fits_corner g.fits_extent (within_finite binary64 j s.corner g.fits_corner h g.near) g.nonneg

  mid_within : Within j (mid s)
  mid_within = (
    le_transitive binary64 (fin true 1 (pos j)) s.corner (mid s) (pow_fits binary64 true j h) g.fits_corner (mid_held s) g.near.0 mids.0,
    le_transitive binary64 (mid s) (far s) (fin false 1 (pos j)) (mid_held s) (far_held s) (pow_fits binary64 false j h) mids.1 g.end.1,
  )

  low_reach : Reach binary64 j s.corner (mid s) (span binary64 s.corner (mid s))
  low_reach = span_reach binary64 j s.corner (mid s) g.fits_corner (mid_held s) r g.near mid_within mids.0

  high_reach : Reach binary64 j (mid s) (far s) (span binary64 (mid s) (far s))
  high_reach = span_reach binary64 j (mid s) (far s) (mid_held s) (far_held s) r mid_within g.end mids.1

  wider : (x : Float) → F64 x → Within j x → Within (3 + j) x
  wider x p w = within_up binary64 j (3 + j) x p (omega arith) r w

  half_bounded : (t : Bool) → Bounded (3 + j) (half t s)
  unfolding half far
  half_bounded false = record { fits_corner = g.fits_corner; fits_extent = low_reach.fits_len; nonneg = low_reach.nonneg; near = wider s.corner g.fits_corner g.near; end = low_reach.within }
  half_bounded true = record { fits_corner = mid_held s; fits_extent = high_reach.fits_len; nonneg = high_reach.nonneg; near = wider (mid s) (mid_held s) mid_within; end = high_reach.within }

  half_between : (v : Float) (t : Bool) → F64 v → le (mid s) v ≡ t → T (le s.corner v) → T (le v (far s)) → T (le (half t s).corner v) × T (le v (far (half t s)))
  unfolding half far
  half_between v false q e a b = (a, le_transitive binary64 v (mid s) (add binary64 s.corner (span binary64 s.corner (mid s))) q (mid_held s) (add-fits binary64 s.corner (span binary64 s.corner (mid s))) below low_reach.covers)
    where
      below : T (le v (mid s))
      below = elim (le_total binary64 (mid s) v (mid_held s) q (le_nums s.corner (mid s) mids.0).1 (le_nums s.corner v a).1) [ inl k ↦ absurd (subst T e k) | inr k ↦ k ]
  half_between v true q e a b = (subst T (sym e) tt, le_transitive binary64 v (far s) (add binary64 (mid s) (span binary64 (mid s) (far s))) q (far_held s) (add-fits binary64 (mid s) (span binary64 (mid s) (far s))) b high_reach.covers)

  half_holds : (v : Float) → F64 v → T (holds s v) → T (holds (half (le (mid s) v) s) v)
  unfolding holds
  half_holds v q h =
      let t = le (mid s) v in
      let z = half_between v t q refl (and_l (le s.corner v) (le v (far s)) h) (and_r (le s.corner v) (le v (far s)) h) in
      and_i (le (half t s).corner v) (le v (far (half t s))) z.0 z.1

-- ---- the bits of a child's number
low_bit : (t : Bool) (r : ℕ) → eqb ((cond t 1 0 + 2 * r) % 2) 1 ≡ t
low_bit true r = ap (λ (n : ℕ). eqb n 1) (one r)
  where
    one : (r : ℕ) → (1 + 2 * r) % 2 ≡ 1
    one r = omega arith
low_bit false r = ap (λ (n : ℕ). eqb n 1) (none r)
  where
    none : (r : ℕ) → (0 + 2 * r) % 2 ≡ 0
    none r = omega arith

other_bits : (t : Bool) (r : ℕ) → (cond t 1 0 + 2 * r) / 2 ≡ r
other_bits true r = omega arith
other_bits false r = omega arith

-- ---- one level
pub part_bounded : (j : ℕ) (b : List Side) (i : ℕ) → 3 + j ≤ 1023 → All (Bounded j) b → All (Bounded (3 + j)) (part b i)
unfolding part
part_bounded j [] i r g = tt
part_bounded j (s ∷ b) i r g = (half_bounded j s r g.0 (eqb (i % 2) 1), part_bounded j b (i / 2) r g.1)

pub part_inside : (j : ℕ) (b : List Side) (vs : List Float) → 3 + j ≤ 1023 → All (Bounded j) b → All F64 vs → T (inside b vs) → T (inside (part b (route b vs)) vs)
unfolding part route inside turn
part_inside j [] [] r g q h = tt
part_inside j [] (v ∷ vs) r g q h = absurd h
part_inside j (s ∷ b) [] r g q h = absurd h
part_inside j (s ∷ b) (v ∷ vs) r g q h =
    let t = le (mid s) v in
    let m = route b vs in
    let w : T (holds (half t s) v && inside (part b m) vs) = and_i (holds (half t s) v) (inside (part b m) vs) (half_holds j s r g.0 v q.0 (and_l (holds s v) (inside b vs) h)) (part_inside j b vs r g.1 q.1 (and_r (holds s v) (inside b vs) h)) in
    subst (λ (u : Bool). T (holds (half u s) v && inside (part b ((cond t 1 0 + 2 * m) / 2)) vs)) (sym (low_bit t m))
    (subst (λ (n : ℕ). T (holds (half t s) v && inside (part b n) vs)) (sym (other_bits t m)) w)

-- ---- an acceptable boundary lies within 2 ^ 501
bounded_within : (x : Float) → T (bounded x) → Within 500 x
unfolding bounded
bounded_within x t = (and_l (le (fin true 1 (pos 500)) x) (le x (fin false 1 (pos 500))) t, and_r (le (fin true 1 (pos 500)) x) (le x (fin false 1 (pos 500))) t)

side_bounded : (s : Side) → F64Side s → T (bounded s.corner) → T (bounded s.extent) → T (le plus_zero s.extent) → Bounded 501 s
unfolding far
side_bounded s q c e n = record {
  fits_corner = q.0;
  fits_extent = q.1;
  nonneg = le→nonneg binary64 s.extent q.1 n;
  near = within_up binary64 500 501 s.corner q.0 (lit≤ tt) (lit≤ tt) (bounded_within s.corner c);
  end = add_within binary64 500 s.corner s.extent q.0 q.1 (lit≤ tt) (bounded_within s.corner c) (bounded_within s.extent e);
}

pub acceptable_bounded : (b : List Side) → All F64Side b → T (acceptable b) → All (Bounded 501) b
unfolding acceptable
acceptable_bounded [] q h = tt
acceptable_bounded (s ∷ b) q h =
    let h1 = and_r (bounded s.corner) (bounded s.extent && (le plus_zero s.extent && acceptable b)) h in
    let h2 = and_r (bounded s.extent) (le plus_zero s.extent && acceptable b) h1 in (
      side_bounded s q.0 (and_l (bounded s.corner) (bounded s.extent && (le plus_zero s.extent && acceptable b)) h) (and_l (bounded s.extent) (le plus_zero s.extent && acceptable b) h1) (and_l (le plus_zero s.extent) (acceptable b) h2),
      acceptable_bounded b q.1 (and_r (le plus_zero s.extent) (acceptable b) h2),
    )

-- ---- the path of a place: its box after d splits
unfoldable pub descend : ℕ → List Side → List Float → List Side
descend zero b vs = b
descend (suc d) b vs = descend d (part b (route b vs)) vs

pub descend_inside : (d j : ℕ) (b : List Side) (vs : List Float) → 3 * d + j ≤ 1023 → All (Bounded j) b → All F64 vs → T (inside b vs) → T (inside (descend d b vs) vs)
unfolding descend
descend_inside zero j b vs r g q h = h
descend_inside (suc d) j b vs r g q h =
    let m : 3 + j ≤ 1023 = omega arith in
    descend_inside d (3 + j) (part b (route b vs)) vs (omega arith) (part_bounded j b (route b vs) m g) q (part_inside j b vs m g q h)
