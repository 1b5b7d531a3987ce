-- Where a point must lie so that its way down a tree is the one to its node: bounds on each axis that narrow at every split, so that a soundness test asks each
-- point once. Over any number of axes. Assumes nothing.
use mathlib.Core.Path.{◌≡◌, refl, ap, ap₂, sym, ◌∙◌, subst}
use mathlib.Core.Logic.{◌≢◌, inl, inr}
use mathlib.Core.Bool.{Bool, true, false, not, ◌&&◌, ◌||◌, cond}
use mathlib.Core.List.{List, [], ◌∷◌}
use Prim.Native.Nat.{ℕ, suc, ◌+◌, ◌*◌, ◌/◌, ◌%◌, ◌^◌, ◌<◌}
use native.Mathlib.Omega.{arith}
use native.Mathlib.Nat.{pow-succ'}
use lib.Dec.{T, eqb, lit≤}
use borrow.Author.Tests.{not-false, eqb-true, eqb-false, eq-eqb, ne_eqb}
use lib.ListN.{length}
use lib.IntN.{pos}
use lib.Ieee.{Float, nan, fin, binary64, neg, le, lt, eq, ne, fits, of_bits}
use lib.Ieee.Bits.{is_true, of_bits-fits}
use lib.Ieee.Fits.{neg-fits}
use Rattle.floats.specs.Values.{plus_zero}
use lib.Ieee.Compare.{differs_from_itself}
use Rattle.floats.proofs.Order.{nan_le, le_transitive, le_total, le_nums, lt→le, lt_is, num_of, num?, le_eq, eq→le, eq_symmetric}
use Rattle.floats.proofs.Bounds.{pow_fits}
use Rattle.floats.proofs.Patterns.{same_no_nan, zero_bits}
use Rattle.model.specs.Boxes.{Side, far, on_each, holds, inside, mid, turn, route, bounded, acceptable}
use Rattle.model.specs.Soundness.{All}
use Rattle.model.proofs.Inside.{F64, F64Side, mid_held}
use Rattle.trees.proofs.Tests.{and_true, fails}

-- at least low, at most the boundary's edge, and not at or above top; a top that is no number bounds nothing
pub record Bound : Type 0 where
  pub low : Float
  pub top : Float
  pub edge : Float

abbrev pub F64Bound : Bound → Type 0
F64Bound a = F64 a.low × F64 a.top

unfoldable pub keeps : Bound → Float → Bool
keeps a v = (le a.low v && le v a.edge) && not (le a.top v)

unfoldable pub lies : List Bound → List Float → Bool
unfolding on_each keeps
lies a v = on_each keeps a v

-- the higher of two low bounds, and the lower of two top ones
unfoldable pub higher : Float → Float → Float
higher l m = cond (le l m || ne m m) m l

unfoldable pub lower : Float → Float → Float
lower t m = cond (lt m t || ne t t) m t

unfoldable pub halved : Bool → Float → Bound → Bound
unfolding higher lower
halved h m a = record { low = cond h (higher a.low m) a.low; top = cond h a.top (lower a.top m); edge = a.edge }

-- the bounds of the child with the number i
unfoldable pub narrowed : List Side → List Bound → ℕ → List Bound
unfolding halved
narrowed [] ns i = []
narrowed (s ∷ b) [] i = []
narrowed (s ∷ b) (a ∷ ns) i = halved (eqb (i % 2) 1) (mid s) a ∷ narrowed b ns (i / 2)

-- the whole of a box
unfoldable pub whole : List Side → List Bound
unfolding far
whole [] = []
whole (s ∷ b) = record { low = s.corner; top = nan; edge = far s } ∷ whole b

-- ---- tests
holds_of : {t : Bool} → t ≡ true → T t
holds_of e = subst T (sym e) tt

by_test : {C : Type 0} (t : Bool) → (t ≡ true → C) → (t ≡ false → C) → C
by_test true f g = f refl
by_test false f g = g refl

-- b adds nothing to a
and_more : (a b : Bool) → (a ≡ true → b ≡ true) → a ≡ a && b
and_more true b h = sym (h refl)
and_more false b h = refl

more_and : (a b : Bool) → (b ≡ true → a ≡ true) → b ≡ a && b
more_and true b h = refl
more_and false true h = absurd (subst T (sym (h refl)) tt)
more_and false false h = refl

nots : (a b : Bool) → (b ≡ true → a ≡ true) → not a ≡ not a && not b
nots true b h = refl
nots false true h = absurd (subst T (sym (h refl)) tt)
nots false false h = refl

stons : (a b : Bool) → (a ≡ true → b ≡ true) → not b ≡ not a && not b
stons true b h = ap not (h refl)
stons false b h = refl

or_left : (a b : Bool) → a || b ≡ false → (a ≡ false) × (b ≡ false)
or_left true b h = absurd (subst T h tt)
or_left false b h = (refl, h)

or_true : {C : Type 0} (a b : Bool) → a || b ≡ true → (a ≡ true → C) → (b ≡ true → C) → C
or_true true b h f g = f refl
or_true false b h f g = g h

self_nan : (x : Float) → ne x x ≡ true → (y : Float) → le x y ≡ false
self_nan x h y = ap (λ (z : Float). le z y) (differs_from_itself x (holds_of h)) ∙ nan_le y

-- ---- one axis
-- what is not below y is at most x
past : (x y v : Float) → F64 x → F64 y → F64 v → T (le x v) → T (num? y) → le x y ≡ false → T (le y v)
past x y v fx fy fv h n e = elim (le_total binary64 x y fx fy (le_nums x v h).0 n) [ inl a ↦ absurd (subst T e a) | inr a ↦ le_transitive binary64 y x v fy fx fv a h ]

module _ (l m v : Float) (fl : F64 l) (fm : F64 m) (fv : F64 v) where
  pub higher_is : le (higher l m) v ≡ le l v && le m v
  unfolding higher
  higher_is = by_test (le l m || ne m m)
      (λ e. ap (λ (t : Bool). le (cond t m l) v) e ∙ or_true (le l m) (ne m m) e
      (λ h. more_and (le l v) (le m v) (λ k. is_true _ (le_transitive binary64 l m v fl fm fv (holds_of h) (holds_of k))))
      (λ h. more_and (le l v) (le m v) (λ k. fails k (self_nan m h v))))
      (λ e. ap (λ (t : Bool). le (cond t m l) v) e ∙ and_more (le l v) (le m v) (λ k. let o = or_left (le l m) (ne m m) e in
      is_true _ (past l m v fl fm fv (holds_of k) (num_of m (same_no_nan m o.1)) o.0)))

  pub lower_is : not (le (lower l m) v) ≡ not (le l v) && not (le m v)
  unfolding lower
  lower_is = by_test (lt m l || ne l l)
      (λ e. ap (λ (t : Bool). not (le (cond t m l) v)) e ∙ or_true (lt m l) (ne l l) e
      (λ h. stons (le l v) (le m v) (λ k. is_true _ (le_transitive binary64 m l v fm fl fv (lt→le m l (holds_of h)) (holds_of k))))
      (λ h. stons (le l v) (le m v) (λ k. fails k (self_nan l h v))))
      (λ e. ap (λ (t : Bool). not (le (cond t m l) v)) e ∙ nots (le l v) (le m v) (λ k. let o = or_left (lt m l) (ne l l) e in
      is_true _ (le_transitive binary64 l m v fl fm fv (holds_of (not-false (le l m) (sym (lt_is binary64 m l fm fl (le_nums m v (holds_of k)).0 (num_of l (same_no_nan l o.1))) ∙ o.0))) (holds_of k))))

swap : (a b c d : Bool) → (a && b) && (c && d) ≡ (a && c) && (b && d)
swap true true c d = refl
swap true false true d = refl
swap true false false d = refl
swap false b c d = refl

to_high : (l m e n : Bool) → ((l && m) && e) && n ≡ ((l && e) && n) && eqb (cond m 1 0) 1
to_high true true true true = refl
to_high true true true false = refl
to_high true true false n = refl
to_high true false true true = refl
to_high true false true false = refl
to_high true false false n = refl
to_high false m e n = refl

to_low : (k n m : Bool) → k && (n && not m) ≡ (k && n) && eqb (cond m 1 0) 0
to_low true true true = refl
to_low true true false = refl
to_low true false m = refl
to_low false n m = refl

turn_bit : (s : Side) (v : Float) → turn s v < 2
unfolding turn
turn_bit s v = by_test (le (mid s) v) (λ e. subst (λ (t : Bool). cond t 1 0 < 2) (sym e) (omega arith)) (λ e. subst (λ (t : Bool). cond t 1 0 < 2) (sym e) (omega arith))

-- ---- all axes: the bounds of a child are those of its parent, and that the route leads there
halved_keeps : (h : Bool) (s : Side) (a : Bound) (v : Float) → F64Bound a → F64 v → keeps (halved h (mid s) a) v ≡ keeps a v && eqb (turn s v) (cond h 1 0)
unfolding keeps halved turn
halved_keeps true s a v f fv =
    ap (λ (t : Bool). (t && le v a.edge) && not (le a.top v)) (higher_is a.low (mid s) v f.0 (mid_held s) fv)
    ∙ to_high (le a.low v) (le (mid s) v) (le v a.edge) (not (le a.top v))
halved_keeps false s a v f fv =
    ap (λ (t : Bool). (le a.low v && le v a.edge) && t) (lower_is a.top (mid s) v f.1 (mid_held s) fv)
    ∙ to_low (le a.low v && le v a.edge) (not (le a.top v)) (le (mid s) v)

-- the lowest bit and the rest
bit_is : (i : ℕ) → cond (eqb (i % 2) 1) 1 0 ≡ i % 2
bit_is i = by_test (eqb (i % 2) 1)
    (λ e. ap (λ (t : Bool). cond t 1 0) e ∙ sym (eqb-true (i % 2) 1 e))
    (λ e. ap (λ (t : Bool). cond t 1 0) e ∙ omega (arith, by_half (i % 2) (omega arith) (eqb-false (i % 2) 1 e)))
  where
    by_half : (j : ℕ) → j < 2 → j ≢ 1 → j ≡ 0
    by_half j h n = omega arith

both_eqb : (m n a b c d : ℕ) → (m ≡ n → (a ≡ b) × (c ≡ d)) → (a ≡ b → c ≡ d → m ≡ n) → eqb m n ≡ eqb a b && eqb c d
both_eqb m n a b c d f g = by_test (eqb m n)
    (λ e. let h = f (eqb-true m n e) in e ∙ sym (ap₂ (λ (u v : Bool). u && v) (eq-eqb a b h.0) (eq-eqb c d h.1)))
    (λ e. e ∙ sym (by_test (eqb a b)
    (λ u. ap (λ (t : Bool). t && eqb c d) u ∙ ne_eqb c d (λ v. eqb-false m n e (g (eqb-true a b u) v)))
    (λ u. ap (λ (t : Bool). t && eqb c d) u)))

bits : (s : Side) (w : Float) (r i : ℕ) → eqb (turn s w) (cond (eqb (i % 2) 1) 1 0) && eqb r (i / 2) ≡ eqb (turn s w + 2 * r) i
bits s w r i = ap (λ (j : ℕ). eqb (turn s w) j && eqb r (i / 2)) (bit_is i) ∙ sym (both_eqb (turn s w + 2 * r) i (turn s w) (i % 2) r (i / 2) (λ e. (omega (arith, turn_bit s w, e), omega (arith, turn_bit s w, e))) (λ e h. omega (arith, e, h)))

pub narrowed_lies : (b : List Side) (a : List Bound) (v : List Float) (i : ℕ) → length a ≡ length b → length v ≡ length b → All F64Bound a → All F64 v → i < 2 ^ length b
    → lies (narrowed b a i) v ≡ lies a v && eqb (route b v) i
unfolding lies narrowed route on_each
narrowed_lies [] [] [] i ea ev fa fv h = sym (eq-eqb 0 i (omega arith))
narrowed_lies [] [] (w ∷ v) i ea ev fa fv h = absurd (omega arith)
narrowed_lies [] (x ∷ a) v i ea ev fa fv h = absurd (omega arith)
narrowed_lies (s ∷ b) [] v i ea ev fa fv h = absurd (omega arith)
narrowed_lies (s ∷ b) (x ∷ a) [] i ea ev fa fv h = absurd (omega arith)
narrowed_lies (s ∷ b) (x ∷ a) (w ∷ v) i ea ev fa fv h =
    ap₂ (λ (p q : Bool). p && q) (halved_keeps (eqb (i % 2) 1) s x w fa.0 fv.0) (narrowed_lies b a v (i / 2) (omega arith) (omega arith) fa.1 fv.1 (omega (arith, h, pow-succ' 2 (length b))))
    ∙ swap (keeps x w) (eqb (turn s w) (cond (eqb (i % 2) 1) 1 0)) (lies a v) (eqb (route b v) (i / 2))
    ∙ ap (λ (t : Bool). (keeps x w && lies a v) && t) (bits s w (route b v) i)

-- the bounds of a whole box keep what is inside it
pub whole_lies : (b : List Side) (v : List Float) → lies (whole b) v ≡ inside b v
unfolding lies whole inside on_each keeps holds
whole_lies [] [] = refl
whole_lies [] (w ∷ v) = refl
whole_lies (s ∷ b) [] = refl
whole_lies (s ∷ b) (w ∷ v) = ap₂ (λ (p q : Bool). p && q) (ap (λ (t : Bool). (le s.corner w && le w (far s)) && not t) (nan_le w) ∙ and_true (le s.corner w && le w (far s))) (whole_lies b v)

-- ---- their numbers are those of f64, and there are as many as axes
higher_held : (l m : Float) → F64 l → F64 m → F64 (higher l m)
unfolding higher
higher_held l m fl fm = by_test (le l m || ne m m) (λ e. subst (λ (t : Bool). F64 (cond t m l)) (sym e) fm) (λ e. subst (λ (t : Bool). F64 (cond t m l)) (sym e) fl)

lower_held : (l m : Float) → F64 l → F64 m → F64 (lower l m)
unfolding lower
lower_held l m fl fm = by_test (lt m l || ne l l) (λ e. subst (λ (t : Bool). F64 (cond t m l)) (sym e) fm) (λ e. subst (λ (t : Bool). F64 (cond t m l)) (sym e) fl)

halved_held : (h : Bool) (m : Float) (a : Bound) → F64 m → F64Bound a → F64Bound (halved h m a)
unfolding halved
halved_held true m a fm f = (higher_held a.low m f.0 fm, f.1)
halved_held false m a fm f = (f.0, lower_held a.top m f.1 fm)

pub narrowed_held : (b : List Side) (a : List Bound) (i : ℕ) → All F64Bound a → All F64Bound (narrowed b a i)
unfolding narrowed
narrowed_held [] a i f = tt
narrowed_held (s ∷ b) [] i f = tt
narrowed_held (s ∷ b) (x ∷ a) i f = (halved_held (eqb (i % 2) 1) (mid s) x (mid_held s) f.0, narrowed_held b a (i / 2) f.1)

pub narrowed_length : (b : List Side) (a : List Bound) (i : ℕ) → length a ≡ length b → length (narrowed b a i) ≡ length b
unfolding narrowed
narrowed_length [] a i e = refl
narrowed_length (s ∷ b) [] i e = absurd (omega arith)
narrowed_length (s ∷ b) (x ∷ a) i e = ap suc (narrowed_length b a (i / 2) (omega arith))

pub whole_held : (b : List Side) → All F64Side b → All F64Bound (whole b)
unfolding whole fits
whole_held [] f = tt
whole_held (s ∷ b) f = ((f.0.0, tt), whole_held b f.1)

pub whole_length : (b : List Side) → length (whole b) ≡ length b
unfolding whole
whole_length [] = refl
whole_length (s ∷ b) = ap suc (whole_length b)

-- ---- as the code has them
module _ (h : Bool) (l m : Float) where
  pub low_mid : not h ≡ false → le l m || ne m m ≡ true → m ≡ cond h (higher l m) l
  unfolding higher
  low_mid e t = sym (ap₂ (λ (u v : Bool). cond u (cond v m l) l) (not-false h e) t)

  pub low_low : not h ≡ false → le l m || ne m m ≡ false → l ≡ cond h (higher l m) l
  unfolding higher
  low_low e t = sym (ap₂ (λ (u v : Bool). cond u (cond v m l) l) (not-false h e) t)

  pub top_mid : h ≡ false → lt m l || ne l l ≡ true → m ≡ cond h l (lower l m)
  unfolding lower
  top_mid e t = sym (ap₂ (λ (u v : Bool). cond u l (cond v m l)) e t)

  pub top_top : h ≡ false → lt m l || ne l l ≡ false → l ≡ cond h l (lower l m)
  unfolding lower
  top_top e t = sym (ap₂ (λ (u v : Bool). cond u l (cond v m l)) e t)

-- ---- the sides of a boundary
abbrev most : Float
most = fin false 1 (pos 500)

abbrev limit : Float
limit = of_bits binary64 0x5f30_0000_0000_0000

limit_is : T (eq limit most)
unfolding of_bits eq
limit_is = tt

below_is : T (eq (neg limit) (fin true 1 (pos 500)))
unfolding of_bits neg eq
below_is = tt

most_held : F64 most
most_held = pow_fits binary64 false 500 (lit≤ tt)

limit_held : F64 limit
limit_held = of_bits-fits binary64 0x5f30_0000_0000_0000

-- equal values stand on the same side
eq_le : (x y v : Float) → F64 x → F64 y → F64 v → T (eq x y) → le x v ≡ le y v
eq_le x y v fx fy fv e = by_test (le x v)
    (λ h. h ∙ sym (is_true _ (le_transitive binary64 y x v fy fx fv (eq→le y x (eq_symmetric binary64 x y fx fy e)) (holds_of h))))
    (λ h. h ∙ by_test (le y v) (λ k. fails (is_true _ (le_transitive binary64 x y v fx fy fv (eq→le x y e) (holds_of k))) h) (λ k. sym k))

bounded_is : (v : Float) → F64 v → le (neg limit) v && le v limit ≡ bounded v
unfolding bounded
bounded_is v f = ap₂ (λ (a b : Bool). a && b) (eq_le (neg limit) (fin true 1 (pos 500)) v (neg-fits binary64 limit limit_held) (pow_fits binary64 true 500 (lit≤ tt)) f below_is) (le_eq binary64 v limit most f limit_held most_held limit_is)

pub side_is : (c e : Float) → F64 c → F64 e → (le (neg limit) c && le c limit) && ((le (neg limit) e && le e limit) && le (of_bits binary64 0) e) ≡ bounded c && (bounded e && le plus_zero e)
side_is c e fc fe = ap₂ (λ (a b : Bool). a && b) (bounded_is c fc) (ap₂ (λ (a b : Bool). a && b) (bounded_is e fe) (ap (λ (z : Float). le z e) zero_bits))

-- a boundary, one axis at a time
pub accept_more : (s : Side) (b : List Side) (x y : Bool) → x ≡ bounded s.corner && (bounded s.extent && le plus_zero s.extent) → y ≡ acceptable b → x && y ≡ acceptable (s ∷ b)
unfolding acceptable
accept_more s b x y ex ey = ap₂ (λ (u v : Bool). u && v) ex ey ∙ inner (bounded s.corner) (bounded s.extent) (le plus_zero s.extent) (acceptable b)
  where
    inner : (p q r t : Bool) → (p && (q && r)) && t ≡ p && (q && (r && t))
    inner true true r t = refl
    inner true false r t = refl
    inner false q r t = refl

pub accept_last : (s : Side) (x : Bool) → x ≡ bounded s.corner && (bounded s.extent && le plus_zero s.extent) → x ≡ acceptable (s ∷ [])
unfolding acceptable
accept_last s x ex = ex ∙ plain (bounded s.corner) (bounded s.extent) (le plus_zero s.extent)
  where
    plain : (p q r : Bool) → p && (q && r) ≡ p && (q && (r && true))
    plain true true true = refl
    plain true true false = refl
    plain true false r = refl
    plain false q r = refl
