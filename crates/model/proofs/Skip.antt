-- Skipping a branch alters no answer: radius and box. Over any number of axes. Assumes nothing.
use Prim.Native.Nat.{ℕ, zero, suc, ◌+◌, ◌*◌, ◌≤◌}
use native.Mathlib.Nat.{le_of_eq}
use native.Mathlib.Omega.{arith}
use mathlib.Core.Path.{◌≡◌, refl, ap, sym, ◌∙◌, subst}
use mathlib.Core.Logic.{◌⊎◌, inl, inr}
use mathlib.Core.Bool.{Bool, true, false, not, ◌&&◌}
use mathlib.Core.List.{List, [], ◌∷◌, ◌++◌, map, flatten, zip_with}
use lib.ListN.{length}
use lib.Dec.{T, eqb→eq, T_not}
use lib.Ieee.{Float, nan, inf, fin, binary64, add, sub, mul, le, lt, fits}
use lib.Ieee.Fits.{and_i, and_l, and_r, add-fits, mul-fits}
use lib.IntN.{pos}
use Rattle.floats.specs.Values.{plus_zero}
use Rattle.floats.proofs.Bounds.{Within, pow_fits, within_finite}
use Rattle.floats.proofs.Monotone.{Nonneg}
use Rattle.floats.proofs.Order.{le_transitive, lt→nle, nan_le, not_not, num?, zero_fits}
use Rattle.model.specs.Boxes.{Side, added, added_to, axis_distance, axis_sq, difference_sq, far, holds, inside, meets, node_distance, part, route, square, squared}
use Rattle.model.specs.Searches.{box, keep, near, radius, within}
use Rattle.model.specs.Soundness.{All, Each}
use Rattle.model.specs.Trees.{Point, Tree, branch, held, leaf}
use Rattle.model.proofs.Counts.{Good, GoodChild, part_length}
use Rattle.model.proofs.Distance.{Finite, Number, node_under}
use Rattle.model.proofs.Inside.{Bounded, F64, F64Side, far_held, part_bounded, part_inside}
use Rattle.model.proofs.Lists.{mapi, no_out, one_if, tally, tally_append}
use Rattle.model.proofs.Meet.{shared_meet}
use Rattle.model.proofs.Short.{goes}

-- ---- the searches with skipping
-- with a test of each node's box, children in index order
unfoldable pub walk : (List Side → Bool) → (Point → Bool) → (d : ℕ) → List Side → Tree d → List Point
unfolding flatten keep mapi part
walk go f zero b ps = elim (go b) [ true ↦ keep f ps | false ↦ [] ]
walk go f (suc d) b (leaf ps) = elim (go b) [ true ↦ keep f ps | false ↦ [] ]
walk go f (suc d) b (branch ts) = elim (go b) [ true ↦ flatten (mapi (λ i t. walk go f d (part b i) t) 0 ts) | false ↦ [] ]

-- "A branch is skipped if its node distance > r·r, or if the boxes don't meet."
unfoldable pub radius_walk : List Float → Float → (d : ℕ) → List Side → Tree d → List Point
unfolding walk near
radius_walk c r d b t = elim (lt r plus_zero) [ true ↦ [] | false ↦ walk (λ n. not (lt (mul binary64 r r) (node_distance n c))) (near c (mul binary64 r r)) d b t ]

unfoldable pub box_walk : List Side → (d : ℕ) → List Side → Tree d → List Point
unfolding walk within
box_walk q d b t = walk (λ n. meets n q) (within q) d b t

-- ---- what lies in a box
unfoldable pub all_f64 : List Float → Bool
all_f64 [] = true
all_f64 (v ∷ vs) = fits binary64 v && all_f64 vs

pub f64_all : (vs : List Float) → T (all_f64 vs) → All F64 vs
unfolding all_f64
f64_all [] h = tt
f64_all (v ∷ vs) h = (and_l (fits binary64 v) (all_f64 vs) h, f64_all vs (and_r (fits binary64 v) (all_f64 vs) h))

unfoldable pub lies : List Side → Point → Bool
lies b p = all_f64 p.at && inside b p.at

abbrev pub out : List Side → Point → Bool
out b p = not (lies b p)

pub lies_held : (b : List Side) (p : Point) → T (lies b p) → All F64 p.at
unfolding lies
lies_held b p h = f64_all p.at (and_l (all_f64 p.at) (inside b p.at) h)

pub lies_inside : (b : List Side) (p : Point) → T (lies b p) → T (inside b p.at)
unfolding lies
lies_inside b p h = and_r (all_f64 p.at) (inside b p.at) h

pub lies_of : (b : List Side) (p : Point) → T (all_f64 p.at) → T (inside b p.at) → T (lies b p)
unfolding lies
lies_of b p h k = and_i (all_f64 p.at) (inside b p.at) h k

pub lies_part : (j : ℕ) (b : List Side) (i : ℕ) (p : Point) → 3 + j ≤ 1023 → All (Bounded j) b → T (lies b p) → T (goes b i p) → T (lies (part b i) p)
unfolding lies
lies_part j b i p r g h k =
    and_i (all_f64 p.at) (inside (part b i) p.at) (and_l (all_f64 p.at) (inside b p.at) h)
    (subst (λ (n : ℕ). T (inside (part b n) p.at)) (eqb→eq (route b p.at) i k) (part_inside j b p.at r g (lies_held b p h) (lies_inside b p h)))

-- ---- counts of nothing
pub none_more : (t : Bool) (n : ℕ) → one_if (not t) + n ≡ 0 → T t × (n ≡ 0)
none_more true n h = (tt, omega arith)
none_more false n h = absurd (omega arith)

some : (t : Bool) (n : ℕ) → T t → n ≡ 0 → one_if (not t) + n ≡ 0
some t n h k = omega (arith, no_out t h)

pub none_all : {A : Type 0} (f : A → Bool) (xs : List A) → tally (λ x. not (f x)) xs ≡ 0 → All (λ x. T (f x)) xs
unfolding tally
none_all f [] h = tt
none_all f (x ∷ xs) h = let z = none_more (f x) (tally (λ x. not (f x)) xs) h in (z.0, none_all f xs z.1)

pub all_none : {A : Type 0} (f : A → Bool) (xs : List A) → All (λ x. T (f x)) xs → tally (λ x. not (f x)) xs ≡ 0
unfolding tally
all_none f [] h = refl
all_none f (x ∷ xs) h = some (f x) (tally (λ x. not (f x)) xs) h.0 (all_none f xs h.1)

pub none_both : {A : Type 0} (f g k : A → Bool) (xs : List A) → ((x : A) → T (f x) → T (g x) → T (k x)) → tally (λ x. not (f x)) xs ≡ 0 → tally (λ x. not (g x)) xs ≡ 0 → tally (λ x. not (k x)) xs ≡ 0
unfolding tally
none_both f g k [] m h l = refl
none_both f g k (x ∷ xs) m h l =
    let a = none_more (f x) (tally (λ x. not (f x)) xs) h in
    let b = none_more (g x) (tally (λ x. not (g x)) xs) l in
    some (k x) (tally (λ x. not (k x)) xs) (m x a.0 b.0) (none_both f g k xs m a.1 b.1)

-- ---- keep
keep_go : {A : Type 0} (x : A) (t : Bool) (xs ys : List A) → elim t as (λ u. List A) [ true ↦ x ∷ (xs ++ ys) | false ↦ xs ++ ys ] ≡ (elim t as (λ u. List A) [ true ↦ x ∷ xs | false ↦ xs ]) ++ ys
keep_go x true xs ys = refl
keep_go x false xs ys = refl

pub keep_append : {A : Type 0} (f : A → Bool) (xs ys : List A) → keep f (xs ++ ys) ≡ keep f xs ++ keep f ys
unfolding keep
keep_append f [] ys = refl
keep_append {A} f (x ∷ xs) ys = ap (λ (l : List A). elim (f x) as (λ u. List A) [ true ↦ x ∷ l | false ↦ l ]) (keep_append f xs ys) ∙ keep_go x (f x) (keep f xs) (keep f ys)

pub keep_none : {A : Type 0} (f : A → Bool) (xs : List A) → All (λ x. f x ≡ false) xs → keep f xs ≡ []
unfolding keep
keep_none f [] h = refl
keep_none {A} f (x ∷ xs) h = ap (λ (t : Bool). elim t as (λ u. List A) [ true ↦ x ∷ keep f xs | false ↦ keep f xs ]) h.0 ∙ keep_none f xs h.1

-- ---- a walk that tests boxes
-- a box that is not gone into has no point that passes
abbrev pub Misses : ℕ → (List Side → Bool) → (Point → Bool) → Type 0
Misses n go f = (j : ℕ) (b : List Side) (p : Point) → j ≤ 1023 → All (Bounded j) b → length b ≡ n → T (lies b p) → T (not (go b)) → f p ≡ false

module _ (n w cap : ℕ) (go : List Side → Bool) (f : Point → Bool) (m : Misses n go f) where
  missed : (j : ℕ) (b : List Side) (ps : List Point) → j ≤ 1023 → All (Bounded j) b → length b ≡ n → tally (out b) ps ≡ 0 → T (not (go b)) → keep f ps ≡ []
  missed j b ps r g z h o = keep_none f ps (all_of ps (none_all (lies b) ps h))
    where
      all_of : (ps : List Point) → All (λ p. T (lies b p)) ps → All (λ p. f p ≡ false) ps
      all_of [] a = tt
      all_of (p ∷ ps) a = (m j b p r g z a.0 o, all_of ps a.1)

  list : (j : ℕ) (b : List Side) (ps : List Point) → j ≤ 1023 → All (Bounded j) b → length b ≡ n → tally (out b) ps ≡ 0 → elim (go b) as (λ t. List Point) [ true ↦ keep f ps | false ↦ [] ] ≡ keep f ps
  list j b ps r g z h = by (go b) (missed j b ps r g z h)
    where
      by : (t : Bool) → (T (not t) → keep f ps ≡ []) → elim t as (λ t. List Point) [ true ↦ keep f ps | false ↦ [] ] ≡ keep f ps
      by true o = refl
      by false o = sym (o tt)

  -- the children from number i on
  layer : (d : ℕ) (b : List Side) (i : ℕ) (ts : List (Tree d))
      → ((i : ℕ) (t : Tree d) → GoodChild w cap d b i t → tally (out b) (held d t) ≡ 0 → walk go f d (part b i) t ≡ keep f (held d t))
      → Each (GoodChild w cap d b) i ts → tally (out b) (flatten (map (held d) ts)) ≡ 0
      → flatten (mapi (λ i t. walk go f d (part b i) t) i ts) ≡ keep f (flatten (map (held d) ts))
  unfolding flatten mapi
  layer d b i [] ih c h = unfold keep in refl
  layer d b i (t ∷ ts) ih c h =
      let e = tally_append (out b) (held d t) (flatten (map (held d) ts)) in
      ap (λ (l : List Point). l ++ flatten (mapi (λ i t. walk go f d (part b i) t) (suc i) ts)) (ih i t c.0 (omega arith))
      ∙ ap (λ (l : List Point). keep f (held d t) ++ l) (layer d b (suc i) ts ih c.1 (omega arith))
      ∙ sym (keep_append f (held d t) (flatten (map (held d) ts)))

  pub walk_keeps : (d j : ℕ) (b : List Side) (t : Tree d) → j + 3 * d ≤ 1023 → All (Bounded j) b → length b ≡ n → Good w cap d b t → tally (out b) (held d t) ≡ 0
      → walk go f d b t ≡ keep f (held d t)
  unfolding walk held
  walk_keeps zero j b ps r g z k h = list j b ps (omega arith) g z h
  walk_keeps (suc d) j b (leaf ps) r g z k h = list j b ps (omega arith) g z h
  walk_keeps (suc d) j b (branch ts) r g z k h =
      ap (λ (l : List Point). elim (go b) as (λ t. List Point) [ true ↦ l | false ↦ [] ])
      (layer d b 0 ts (λ i t c o. walk_keeps d (3 + j) (part b i) t (omega arith) (part_bounded j b i (omega arith) g) (part_length b i ∙ z) c.1
      (none_both (lies b) (goes b i) (lies (part b i)) (held d t) (λ p x y. lies_part j b i p (omega arith) g x y) o c.0)) k.2 h)
      ∙ list j b (flatten (map (held d) ts)) (omega arith) g z h

-- ---- what a bounded box says of its numbers and of what lies in it
pub bounded_f64 : (j : ℕ) (b : List Side) → All (Bounded j) b → All F64Side b
bounded_f64 j [] g = tt
bounded_f64 j (s ∷ b) g = ((g.0.fits_corner, g.0.fits_extent), bounded_f64 j b g.1)

pub inside_finite : (j : ℕ) (b : List Side) (p : List Float) → j ≤ 1023 → All (Bounded j) b → All F64 p → T (inside b p) → All Finite p
unfolding inside holds
inside_finite j [] [] r g q h = tt
inside_finite j [] (v ∷ p) r g q h = absurd h
inside_finite j (s ∷ b) [] r g q h = absurd h
inside_finite j (s ∷ b) (v ∷ p) r g q h =
    let k = and_l (holds s v) (inside b p) h in
    let w : Within j v = (
      le_transitive binary64 (fin true 1 (pos j)) s.corner v (pow_fits binary64 true j r) g.0.fits_corner q.0 g.0.near.0 (and_l (le s.corner v) (le v (far s)) k),
      le_transitive binary64 v (far s) (fin false 1 (pos j)) q.0 (far_held s) (pow_fits binary64 false j r) (and_r (le s.corner v) (le v (far s)) k) g.0.end.1,
    ) in
    ((q.0, within_finite binary64 j v q.0 r w), inside_finite j b p r g.1 q.1 (and_r (holds s v) (inside b p) h))

-- ---- boxes that do not meet
pub by_false : (t : Bool) → (T t → ⊥) → t ≡ false
by_false true h = absurd (h tt)
by_false false h = refl

box_misses : (m : ℕ) (q : List Side) → All F64Side q → Misses m (λ n. meets n q) (within q)
unfolding within
box_misses m q k j b p r g z h n = by_false (inside q p.at) (λ i. T_not (meets b q) n (shared_meet b q p.at (bounded_f64 j b g) k (lies_held b p h) (lies_inside b p h) i))

pub box_skips : (w cap d j : ℕ) (q b : List Side) (t : Tree d) → All F64Side q → j + 3 * d ≤ 1023 → All (Bounded j) b → Good w cap d b t → tally (out b) (held d t) ≡ 0
    → box_walk q d b t ≡ box q d t
unfolding box_walk box
box_skips w cap d j q b t k r g c h = walk_keeps (length b) w cap (λ n. meets n q) (within q) (box_misses (length b) q k) d j b t r g refl c h

-- ---- the distance to a box is no more than that to a point in it, or the latter is no number
add_nan : (x : Float) → add binary64 x nan ≡ nan
unfolding add
add_nan nan = refl
add_nan (inf s) = refl
add_nan (fin s m e) = refl

nan_add : (x : Float) → add binary64 nan x ≡ nan
unfolding add
nan_add x = refl

sub_nan : (x : Float) → square (sub binary64 x nan) ≡ nan
unfolding sub mul lib.Ieee.neg
sub_nan x = ap (λ (z : Float). mul binary64 z z) (add_nan x)

-- whether a centre has no NaN
unfoldable pub clear : List Float → Bool
clear [] = true
clear (v ∷ c) = num? v && clear c

clear_numbers : (c : List Float) → All F64 c → T (clear c) → All Number c
unfolding clear
clear_numbers [] q h = tt
clear_numbers (v ∷ c) q h = ((q.0, and_l (num? v) (clear c) h), clear_numbers c q.1 (and_r (num? v) (clear c) h))

-- ---- a NaN in the centre makes every distance NaN
nan_sum : (xs : List Float) → added_to nan xs ≡ nan
unfolding added_to
nan_sum [] = refl
nan_sum (x ∷ xs) = ap (λ (z : Float). added_to z xs) (nan_add x) ∙ nan_sum xs

not_both : (a b : Bool) → T (not (a && b)) → T (not a) ⊎ T (not b)
not_both true b h = inr h
not_both false b h = inl tt

is_nan : (x : Float) → T (not (num? x)) → x ≡ nan
is_nan nan h = refl
is_nan (inf s) h = absurd h
is_nan (fin s m e) h = absurd h

sum_nan : (a : Float) (p c : List Float) → length c ≤ length p → T (not (clear c)) → added_to a (zip_with difference_sq p c) ≡ nan
unfolding added_to zip_with difference_sq clear
sum_nan a [] [] l n = absurd n
sum_nan a [] (v ∷ c) l n = absurd (omega arith)
sum_nan a (x ∷ p) [] l n = absurd n
sum_nan a (x ∷ p) (v ∷ c) l n =
    elim (not_both (num? v) (clear c) n) [
      | inl k ↦ ap (λ (z : Float). added_to (add binary64 a (square (sub binary64 x z))) (zip_with difference_sq p c)) (is_nan v k) ∙ ap (λ (z : Float). added_to (add binary64 a z) (zip_with difference_sq p c)) (sub_nan x) ∙ ap (λ (z : Float). added_to z (zip_with difference_sq p c)) (add_nan a) ∙ nan_sum (zip_with difference_sq p c)
      | inr k ↦ sum_nan (add binary64 a (square (sub binary64 x v))) p c (omega arith) k
    ]

pub squared_nan : (p c : List Float) → length c ≤ length p → T (not (clear c)) → squared p c ≡ nan
unfolding squared added zip_with difference_sq clear
squared_nan [] [] l n = absurd n
squared_nan [] (v ∷ c) l n = absurd (omega arith)
squared_nan (x ∷ p) [] l n = absurd n
squared_nan (x ∷ p) (v ∷ c) l n =
    elim (not_both (num? v) (clear c) n) [
      | inl k ↦ ap (λ (z : Float). added_to (square (sub binary64 x z)) (zip_with difference_sq p c)) (is_nan v k) ∙ ap (λ (z : Float). added_to z (zip_with difference_sq p c)) (sub_nan x) ∙ nan_sum (zip_with difference_sq p c)
      | inr k ↦ sum_nan (square (sub binary64 x v)) p c (omega arith) k
    ]

pub inside_length : (b : List Side) (p : List Float) → T (inside b p) → length p ≡ length b
unfolding inside
inside_length [] [] h = refl
inside_length [] (v ∷ p) h = absurd h
inside_length (s ∷ b) [] h = absurd h
inside_length (s ∷ b) (v ∷ p) h = ap suc (inside_length b p (and_r (holds s v) (inside b p) h))

-- two distances: in order, or the second is a NaN, and why
abbrev pub Below : Type 0 → Float → Float → Type 0
Below W x y = (Nonneg binary64 x × T (le x y)) ⊎ (W × (y ≡ nan))

-- the distance to a box is no more than that to a point in it, or the centre has a NaN
pub distance_below : (j : ℕ) (b : List Side) (p : Point) (c : List Float) → j ≤ 1023 → All (Bounded j) b → All F64 c → length c ≡ length b → T (lies b p) → Below (T (not (clear c))) (node_distance b c) (squared p.at c)
distance_below j b p c r g q e h = go (clear c) refl
  where
    go : (t : Bool) → clear c ≡ t → Below (T (not (clear c))) (node_distance b c) (squared p.at c)
    go true i =
        let u = node_under b p.at c (bounded_f64 j b g) (inside_finite j b p.at r g (lies_held b p h) (lies_inside b p h)) (clear_numbers c q (subst T (sym i) tt)) (lies_inside b p h) in
        inl (u.2, u.3)
    go false i =
        let n : T (not (clear c)) = subst (λ (b : Bool). T (not b)) (sym i) tt in
        inr (n, squared_nan p.at c (le_of_eq (e ∙ sym (inside_length b p.at (lies_inside b p h)))) n)

-- ---- radius
added_held : (a : Float) (xs : List Float) → F64 a → F64 (added_to a xs)
unfolding added_to
added_held a [] p = p
added_held a (x ∷ xs) p = added_held (add binary64 a x) xs (add-fits binary64 a x)

pub node_held : (b : List Side) (c : List Float) → F64 (node_distance b c)
unfolding node_distance added zip_with
node_held [] c = zero_fits binary64
node_held (s ∷ b) [] = zero_fits binary64
node_held (s ∷ b) (v ∷ c) = added_held (axis_sq s v) (zip_with axis_sq b c) (unfold axis_sq in mul-fits binary64 (axis_distance s v) (axis_distance s v))

pub squared_held : (p c : List Float) → F64 (squared p c)
unfolding squared added zip_with
squared_held [] c = zero_fits binary64
squared_held (x ∷ xs) [] = zero_fits binary64
squared_held (x ∷ xs) (v ∷ c) = added_held (difference_sq x v) (zip_with difference_sq xs c) (unfold difference_sq in mul-fits binary64 (sub binary64 x v) (sub binary64 x v))

-- beyond a bound: so is every point of the box, or it has no distance
beyond : (W : Type 0) (x y r : Float) → F64 x → F64 y → F64 r → Below W x y → T (lt r x) → T (le y r) → ⊥
beyond W x y r p q s (inl u) h k = lt→nle binary64 r x s p h (le_transitive binary64 x y r p q s u.1 k)
beyond W x y r p q s (inr e) h k = subst (λ (t : Bool). T t) (nan_le r) (subst (λ (z : Float). T (le z r)) e.1 k)

radius_misses : (m : ℕ) (c : List Float) (rr : Float) → length c ≡ m → All F64 c → F64 rr → Misses m (λ n. not (lt rr (node_distance n c))) (near c rr)
unfolding near
radius_misses m c rr e k l j b p r g z h n =
    by_false (le (squared p.at c) rr) (beyond (T (not (clear c))) (node_distance b c) (squared p.at c) rr (node_held b c) (squared_held p.at c) l (distance_below j b p c r g k (e ∙ sym z) h) (not_not (lt rr (node_distance b c)) n))

pub radius_skips : (w cap d j : ℕ) (c : List Float) (r : Float) (b : List Side) (t : Tree d) → All F64 c → length c ≡ length b → j + 3 * d ≤ 1023 → All (Bounded j) b → Good w cap d b t → tally (out b) (held d t) ≡ 0
    → radius_walk c r d b t ≡ radius c r d t
unfolding radius_walk radius
radius_skips w cap d j c r b t k i e g m h =
    let rr = mul binary64 r r in
    ap (λ (l : List Point). elim (lt r plus_zero) as (λ t. List Point) [ true ↦ [] | false ↦ l ])
    (walk_keeps (length b) w cap (λ n. not (lt rr (node_distance n c))) (near c rr) (radius_misses (length b) c rr i k (mul-fits binary64 r r)) d j b t e g refl m h)
