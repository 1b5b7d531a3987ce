-- k nearest: the visit holds each point once, and skipping changes no answer. Over any number of axes. Assumes nothing.
use Prim.Native.Nat.{ℕ, zero, suc, ◌+◌, ◌*◌, ◌≤◌}
use native.Mathlib.Omega.{arith}
use mathlib.Core.Path.{◌≡◌, refl, ap, sym, ◌∙◌, subst}
use mathlib.Core.Logic.{inl, inr}
use mathlib.Core.Bool.{Bool, true, false, not, ◌&&◌, ◌||◌, cond}
use mathlib.Core.List.{List, [], ◌∷◌, ◌++◌, map, drop_last, flatten, zip_with}
use lib.ListN.{length}
use lib.Dec.{T, ltb, T_not}
use lib.Ieee.{Float, nan, inf, fin, binary64, add, sub, le, lt, is_nan}
use lib.Ieee.Fits.{and_l, and_r, add-fits, mul-fits}
use Rattle.floats.specs.Values.{plus_zero}
use Rattle.floats.proofs.Bounds.{within_finite}
use Rattle.floats.proofs.Half.{le_add}
use Rattle.floats.proofs.Monotone.{Nonneg, nonneg_add, square_nonneg}
use Rattle.floats.proofs.Order.{le_nums, le_reflexive, le_total, le_transitive, lt_le_trans, lt→le, nle→lt, num?}
use Rattle.model.specs.Boxes.{Side, added, added_to, axis_distance, axis_sq, far, node_distance, part, square, squared}
use Rattle.model.specs.Searches.{At, Child, Entry, children, entry, less, nearest, offer, offer_each, place, place_each, visit, worst}
use Rattle.model.specs.Soundness.{All, Each}
use Rattle.model.specs.Trees.{Point, Tree, branch, held, leaf, total}
use Rattle.model.proofs.Counts.{Good, GoodChild, cond_same, flatten_total, part_length}
use Rattle.model.proofs.Distance.{axis_under}
use Rattle.model.proofs.Inside.{Bounded, F64, part_bounded}
use Rattle.model.proofs.Lists.{all_append, all_map, tally, tally_append}
use Rattle.model.proofs.Short.{goes}
use Rattle.model.proofs.Skip.{clear, distance_below, inside_length, lies, lies_inside, lies_part, node_held, none_all, none_both, out, squared_held, squared_nan}

-- ---- the search with skipping: "the rest are skipped once the table is full (k entries) and a node distance exceeds the worst kept"
unfoldable pub skips : ℕ → Float → List Entry → Bool
unfolding worst
skips k x t = not (ltb (length t) k) && worst (λ w. lt w x) t

unfoldable pub over : {K : Type 0} → ℕ → (List Side → K → List Entry → List Entry) → List (At (Child K)) → List Entry → List Entry
unfolding skips
over k go [] t = t
over k go (x ∷ xs) t = elim (skips k x.dist t) [ true ↦ t | false ↦ over k go xs (go x.item.bounds x.item.tree t) ]

unfoldable pub seek : ℕ → List Float → (d : ℕ) → List Side → Tree d → List Entry → List Entry
unfolding offer_each entry over place_each children
seek k c zero b ps t = offer_each k t (map (entry c) ps)
seek k c (suc d) b (leaf ps) t = offer_each k t (map (entry c) ps)
seek k c (suc d) b (branch ts) t = over k (λ n u. seek k c d n u) (place_each [] (children d b c 0 ts)) t

unfoldable pub nearest_walk : ℕ → List Float → (d : ℕ) → List Side → Tree d → List Point
unfolding seek
nearest_walk k c d b t = map (λ (e : Entry). e.item) (seek k c d b t [])

-- ---- a stable order
pub place_all : {A : Type 0} (Q : At A → Type 0) (x : At A) (ys : List (At A)) → Q x → All Q ys → All Q (place x ys)
unfolding place
place_all Q x [] p h = (p, tt)
place_all Q x (y ∷ ys) p h = cond_same (All Q) (less x.dist y.dist) (x ∷ y ∷ ys) (y ∷ place x ys) (λ l. (p, h)) (λ l. (h.0, place_all Q x ys p h.1))

pub place_each_all : {A : Type 0} (Q : At A → Type 0) (t xs : List (At A)) → All Q t → All Q xs → All Q (place_each t xs)
unfolding place_each
place_each_all Q t [] p h = p
place_each_all Q t (x ∷ xs) p h = place_each_all Q (place x t) xs (place_all Q x t h.0 p) h.1

place_sum : {A : Type 0} (g : At A → ℕ) (x : At A) (ys : List (At A)) → total (map g (place x ys)) ≡ g x + total (map g ys)
unfolding place total
place_sum g x [] = refl
place_sum {A} g x (y ∷ ys) = cond_same (λ (l : List (At A)). total (map g l) ≡ g x + (g y + total (map g ys))) (less x.dist y.dist) (x ∷ y ∷ ys) (y ∷ place x ys) (λ l. refl) (λ l. omega (arith, place_sum g x ys))

-- it holds each once
pub place_each_sum : {A : Type 0} (g : At A → ℕ) (t xs : List (At A)) → total (map g (place_each t xs)) ≡ total (map g t) + total (map g xs)
unfolding place_each total
place_each_sum g t [] = omega arith
place_each_sum g t (x ∷ xs) = omega (arith, place_each_sum g (place x t) xs, place_sum g x t)

-- ---- the visit holds each point once
abbrev seen : (d : ℕ) → List Float → At (Child (Tree d)) → List Point
seen d c k = visit d k.item.bounds c k.item.tree

layer_count : (d : ℕ) (b : List Side) (c : List Float) (f : Point → Bool) (i : ℕ) (ts : List (Tree d)) → ((n : List Side) (t : Tree d) → tally f (visit d n c t) ≡ tally f (held d t))
    → tally f (flatten (map (seen d c) (children d b c i ts))) ≡ tally f (flatten (map (held d) ts))
unfolding children flatten
layer_count d b c f i [] ih = refl
layer_count d b c f i (t ∷ ts) ih = omega (arith, tally_append f (visit d (part b i) c t) (flatten (map (seen d c) (children d b c (suc i) ts))), tally_append f (held d t) (flatten (map (held d) ts)), ih (part b i) t, layer_count d b c f (suc i) ts ih)

pub visit_count : (d : ℕ) (b : List Side) (c : List Float) (t : Tree d) (f : Point → Bool) → tally f (visit d b c t) ≡ tally f (held d t)
unfolding visit held total
visit_count zero b c ps f = refl
visit_count (suc d) b c (leaf ps) f = refl
visit_count (suc d) b c (branch ts) f =
    omega (arith, flatten_total f (seen d c) (place_each [] (children d b c 0 ts)), place_each_sum (λ (x : At (Child (Tree d))). tally f (seen d c x)) [] (children d b c 0 ts), flatten_total f (seen d c) (children d b c 0 ts), layer_count d b c f 0 ts (λ n t. visit_count d n c t f))

-- ---- the order is an order
abbrev pub Num : {A : Type 0} → At A → Type 0
Num x = F64 x.dist × T (num? x.dist)

abbrev pub Sorted : {A : Type 0} → List (At A) → Type 0
Sorted [] = Unit {0}
Sorted (x ∷ xs) = All (λ y. T (le x.dist y.dist)) xs × Sorted xs

-- among numbers, the table's order is that of IEEE 754
or_false : (t : Bool) → T (t || false) → T t
or_false true h = tt
or_false false h = h

pub less_lt : (x y : Float) → T (num? y) → T (less x y) → T (lt x y)
unfolding less is_nan
less_lt x nan u h = absurd u
less_lt x (inf s) u h = or_false (lt x (inf s)) h
less_lt x (fin s m e) u h = or_false (lt x (fin s m e)) h

or_first : (t b : Bool) → T (not (t || b)) → T (not t)
or_first true b h = h
or_first false b h = tt

pub nless_nlt : (x y : Float) → T (not (less x y)) → T (not (lt x y))
unfolding less
nless_nlt x y h = or_first (lt x y) (is_nan y && not (is_nan x)) h

pub not_lt : (x y : Float) → F64 x → F64 y → T (num? x) → T (num? y) → T (not (lt x y)) → T (le y x)
not_lt x y p q u v h = elim (le_total binary64 y x q p v u) [ inl k ↦ k | inr k ↦ go k ]
  where
    go : T (le x y) → T (le y x)
    go k = by (le y x) refl
      where
        by : (t : Bool) → le y x ≡ t → T (le y x)
        by true e = subst (λ (t : Bool). T t) (sym e) tt
        by false e = absurd (T_not (lt x y) h (nle→lt binary64 x y p q u v (λ z. subst (λ (t : Bool). T t) e z)))

pub not_less : {A B : Type 0} (x : At A) (y : At B) → Num x → Num y → T (not (less x.dist y.dist)) → T (le y.dist x.dist)
not_less x y p q h = not_lt x.dist y.dist p.0 q.0 p.1 q.1 (nless_nlt x.dist y.dist h)

-- x is less than y, and than all that y is no more than
pub above : {A : Type 0} (x y : At A) (zs : List (At A)) → Num x → Num y → T (lt x.dist y.dist) → All Num zs → All (λ z. T (le y.dist z.dist)) zs → All (λ z. T (lt x.dist z.dist)) zs
above x y [] p q l a b = tt
above x y (z ∷ zs) p q l a b = (lt_le_trans binary64 x.dist y.dist z.dist p.0 q.0 a.0.0 l b.0, above x y zs p q l a.1 b.1)

pub place_sorted : {A : Type 0} (x : At A) (ys : List (At A)) → Num x → All Num ys → Sorted ys → Sorted (place x ys)
unfolding place
place_sorted x [] p h s = (tt, tt)
place_sorted {A} x (y ∷ ys) p h s =
    cond_same Sorted (less x.dist y.dist) (x ∷ y ∷ ys) (y ∷ place x ys)
    (λ l. let k = less_lt x.dist y.dist h.0.1 l in
    ((lt→le x.dist y.dist k, all_map (λ (z : At A). T (lt x.dist z.dist)) (λ (z : At A). T (le x.dist z.dist)) ys (λ z m. lt→le x.dist z.dist m) (above x y ys p h.0 k h.1 s.0)), s))
    (λ l. (place_all (λ (z : At A). T (le y.dist z.dist)) x ys (not_less x y p h.0 l) s.0, place_sorted x ys p h.1 s.1))

pub place_each_sorted : {A : Type 0} (t xs : List (At A)) → All Num t → Sorted t → All Num xs → Sorted (place_each t xs)
unfolding place_each
place_each_sorted t [] a s h = s
place_each_sorted t (x ∷ xs) a s h = place_each_sorted (place x t) xs (place_all Num x t h.0 a) (place_sorted x t h.0 a s) h.1

-- ---- a node's distance is a number
pub lt_nan : (x : Float) → lt x nan ≡ false
unfolding lt
lt_nan nan = refl
lt_nan (inf s) = refl
lt_nan (fin s m e) = refl

nan_lt : (x : Float) → lt nan x ≡ false
unfolding lt
nan_lt x = refl

axis_nan : (s : Side) → axis_distance s nan ≡ plus_zero
unfolding axis_distance
axis_nan s =
    ap (λ (t : Bool). cond t (sub binary64 s.corner nan) (cond (lt (far s) nan) (sub binary64 nan (far s)) plus_zero)) (nan_lt s.corner)
    ∙ ap (λ (t : Bool). cond t (sub binary64 nan (far s)) plus_zero) (lt_nan (far s))

corner_far : (j : ℕ) (s : Side) → j ≤ 1023 → Bounded j s → T (le s.corner (far s))
unfolding far
corner_far j s r g = le_add binary64 s.corner s.extent g.fits_corner g.fits_extent (within_finite binary64 j s.corner g.fits_corner r g.near) g.nonneg

-- what an axis gives is a number, whatever the centre
axis_number : (j : ℕ) (s : Side) (v : Float) → j ≤ 1023 → Bounded j s → F64 v → T (num? v) → Nonneg binary64 (axis_sq s v)
axis_number j s v r g q u =
    let k = corner_far j s r g in
    (axis_under s s.corner v (record {
      held_side = (g.fits_corner, g.fits_extent);
      held_x = g.fits_corner;
      held_v = q;
      finite_x = within_finite binary64 j s.corner g.fits_corner r g.near;
      num_v = u;
      above = le_reflexive binary64 s.corner g.fits_corner (le_nums s.corner (far s) k).0;
      under = k;
    })).2

axis_nonneg : (j : ℕ) (s : Side) (v : Float) → j ≤ 1023 → Bounded j s → F64 v → Nonneg binary64 (axis_sq s v)
axis_nonneg j s nan r g q = unfold axis_sq in subst (λ (z : Float). Nonneg binary64 (square z)) (sym (axis_nan s)) (square_nonneg binary64 plus_zero tt)
axis_nonneg j s (inf t) r g q = axis_number j s (inf t) r g q tt
axis_nonneg j s (fin t m e) r g q = axis_number j s (fin t m e) r g q tt

added_nonneg : (a : Float) (xs : List Float) → F64 a → Nonneg binary64 a → All (λ x. F64 x × Nonneg binary64 x) xs → Nonneg binary64 (added_to a xs)
unfolding added_to
added_nonneg a [] p n h = n
added_nonneg a (x ∷ xs) p n h = added_nonneg (add binary64 a x) xs (add-fits binary64 a x) (nonneg_add binary64 a x p h.0.0 n h.0.1) h.1

axes_nonneg : (j : ℕ) (b : List Side) (c : List Float) → j ≤ 1023 → All (Bounded j) b → All F64 c → All (λ x. F64 x × Nonneg binary64 x) (zip_with axis_sq b c)
unfolding zip_with
axes_nonneg j [] c r g q = tt
axes_nonneg j (s ∷ b) [] r g q = tt
axes_nonneg j (s ∷ b) (v ∷ c) r g q = ((unfold axis_sq in mul-fits binary64 (axis_distance s v) (axis_distance s v), axis_nonneg j s v r g.0 q.0), axes_nonneg j b c r g.1 q.1)

added_number : (xs : List Float) → All (λ x. F64 x × Nonneg binary64 x) xs → T (num? (added xs))
unfolding added
added_number [] h = tt
added_number (x ∷ xs) h = (added_nonneg x xs h.0.0 h.0.1 h.1).0

pub node_number : (j : ℕ) (b : List Side) (c : List Float) → j ≤ 1023 → All (Bounded j) b → All F64 c → T (num? (node_distance b c))
unfolding node_distance
node_number j b c r g q = added_number (zip_with axis_sq b c) (axes_nonneg j b c r g q)

-- ---- the table
-- what an entry may be
abbrev pub Fit : List Float → Entry → Type 0
Fit c e = F64 e.dist × (T (not (clear c)) → e.dist ≡ nan)

pub drop_all : {A : Type 0} (Q : A → Type 0) (ys : List A) → All Q ys → All Q (drop_last ys)
drop_all Q [] h = tt
drop_all Q (y ∷ []) h = tt
drop_all Q (y ∷ z ∷ zs) h = (h.0, drop_all Q (z ∷ zs) h.1)

offer_all : (Q : Entry → Type 0) (k : ℕ) (x : Entry) (t : List Entry) → Q x → All Q t → All Q (offer k x t)
unfolding offer
offer_all Q k x t p h =
    cond_same (All Q) (ltb (length t) k) _ _ (λ l. place_all Q x t p h)
    (λ l. cond_same (All Q) (worst (λ w. le w x.dist) t) t (place x (drop_last t)) (λ m. h) (λ m. place_all Q x (drop_last t) p (drop_all Q t h)))

pub offer_each_all : (Q : Entry → Type 0) (k : ℕ) (t xs : List Entry) → All Q t → All Q xs → All Q (offer_each k t xs)
unfolding offer_each
offer_each_all Q k t [] p h = p
offer_each_all Q k t (x ∷ xs) p h = offer_each_all Q k (offer k x t) xs (offer_all Q k x t h.0 p) h.1

pub offer_each_append : (k : ℕ) (t xs ys : List Entry) → offer_each k t (xs ++ ys) ≡ offer_each k (offer_each k t xs) ys
unfolding offer_each
offer_each_append k t [] ys = refl
offer_each_append k t (x ∷ xs) ys = offer_each_append k (offer k x t) xs ys

-- a full table whose last is no more than any newcomer stays
offer_each_stay : (k : ℕ) (t xs : List Entry) → T (not (ltb (length t) k)) → All (λ e. T (worst (λ w. le w e.dist) t)) xs → offer_each k t xs ≡ t
unfolding offer_each offer
offer_each_stay k t [] n h = refl
offer_each_stay k t (x ∷ xs) n h =
    let e : offer k x t ≡ t = cond_same (λ (l : List Entry). l ≡ t) (ltb (length t) k) _ _ (λ l. absurd (T_not (ltb (length t) k) n l))
    (λ l. cond_same (λ (l : List Entry). l ≡ t) (worst (λ w. le w x.dist) t) t (place x (drop_last t)) (λ m. refl) (λ m. absurd (T_not (worst (λ w. le w x.dist) t) m h.0))) in
    ap (λ (l : List Entry). offer_each k l xs) e ∙ offer_each_stay k t xs n h.1

last_map : (f g : Float → Bool) (t : List Entry) → All (λ e. T (f e.dist) → T (g e.dist)) t → T (worst f t) → T (worst g t)
unfolding worst
last_map f g [] m h = tt
last_map f g (y ∷ []) m h = m.0 h
last_map f g (y ∷ z ∷ zs) m h = last_map f g (z ∷ zs) m.1 h

-- ---- a skipped child
skip_last : (c : List Float) (t : List Entry) (x : Float) (e : Entry) → All (Fit c) t → F64 x → Fit c e → (T (clear c) → T (le x e.dist)) → T (worst (λ w. lt w x) t) → T (worst (λ w. le w e.dist) t)
skip_last c t x e a p f m h = last_map (λ w. lt w x) (λ w. le w e.dist) t (all_map (Fit c) (λ (y : Entry). T (lt y.dist x) → T (le y.dist e.dist)) t step a) h
  where
    step : (y : Entry) → Fit c y → T (lt y.dist x) → T (le y.dist e.dist)
    step y q l = by (clear c) refl
      where
        by : (z : Bool) → clear c ≡ z → T (le y.dist e.dist)
        by true z = lt→le y.dist e.dist (lt_le_trans binary64 y.dist x e.dist q.0 p f.0 l (m (subst (λ (b : Bool). T b) (sym z) tt)))
        by false z = absurd (subst (λ (b : Bool). T b) (nan_lt x) (subst (λ (w : Float). T (lt w x)) (q.1 (subst (λ (b : Bool). T (not b)) (sym z) tt)) l))

pub map_all : (c : List Float) (Q : Entry → Type 0) (ps : List Point) → All (λ p. Q (entry c p)) ps → All Q (map (entry c) ps)
map_all c Q [] h = tt
map_all c Q (p ∷ ps) h = (h.0, map_all c Q ps h.1)

pub map_append : {A B : Type 0} (f : A → B) (xs ys : List A) → map f (xs ++ ys) ≡ map f xs ++ map f ys
map_append f [] ys = refl
map_append f (x ∷ xs) ys = ap (λ l. f x ∷ l) (map_append f xs ys)

-- a point no nearer than x
abbrev Far : List Float → Float → Point → Type 0
Far c x p = Fit c (entry c p) × (T (clear c) → T (le x (squared p.at c)))

module _ (k : ℕ) (c : List Float) (d : ℕ) (go : List Side → Tree d → List Entry → List Entry) where
  abbrev KidOk : At (Child (Tree d)) → Type 0
  KidOk x = Num x × All (Far c x.dist) (seen d c x) × ((t : List Entry) → All (Fit c) t → go x.item.bounds x.item.tree t ≡ offer_each k t (map (entry c) (seen d c x)))

  farther : (x : Float) → F64 x → (ys : List (At (Child (Tree d)))) → All KidOk ys → All (λ y. T (le x y.dist)) ys → All (Far c x) (flatten (map (seen d c) ys))
  unfolding flatten
  farther x p [] q h = tt
  farther x p (y ∷ ys) q h =
      all_append (Far c x) (seen d c y) (flatten (map (seen d c) ys))
      (all_map (Far c y.dist) (Far c x) (seen d c y) (λ z f. (f.0, λ l. le_transitive binary64 x y.dist (squared z.at c) p q.0.0.0 (squared_held z.at c) h.0 (f.1 l))) q.0.1)
      (farther x p ys q.1 h.1)

  over_is : (xs : List (At (Child (Tree d)))) (t : List Entry) → All KidOk xs → Sorted xs → All (Fit c) t → over k go xs t ≡ offer_each k t (map (entry c) (flatten (map (seen d c) xs)))
  unfolding over skips flatten offer_each
  over_is [] t q s a = refl
  over_is (x ∷ xs) t q s a =
      let here = map (entry c) (seen d c x) in
      let rest = flatten (map (seen d c) xs) in
      let all : All (Far c x.dist) (seen d c x ++ rest) = farther x.dist q.0.0.0 (x ∷ xs) q (le_reflexive binary64 x.dist q.0.0.0 q.0.0.1, s.0) in
      cond_same (λ (l : List Entry). l ≡ offer_each k t (map (entry c) (seen d c x ++ rest))) (skips k x.dist t) t (over k go xs (go x.item.bounds x.item.tree t))
      (λ l. sym (offer_each_stay k t (map (entry c) (seen d c x ++ rest)) (and_l (not (ltb (length t) k)) (worst (λ w. lt w x.dist) t) l)
      (map_all c (λ (e : Entry). T (worst (λ w. le w e.dist) t)) (seen d c x ++ rest)
      (all_map (Far c x.dist) (λ (p : Point). T (worst (λ w. le w (entry c p).dist) t)) (seen d c x ++ rest)
      (λ p f. skip_last c t x.dist (entry c p) a q.0.0.0 f.0 (unfold entry in f.1) (and_r (not (ltb (length t) k)) (worst (λ w. lt w x.dist) t) l)) all))))
      (λ l. ap (λ (u : List Entry). over k go xs u) (q.0.2 t a)
      ∙ over_is xs (offer_each k t here) q.1 s.1 (offer_each_all (Fit c) k t here a (map_all c (Fit c) (seen d c x) (all_map (Far c x.dist) (λ (p : Point). Fit c (entry c p)) (seen d c x) (λ p f. f.0) q.0.1)))
      ∙ sym (offer_each_append k t here (map (entry c) rest))
      ∙ ap (λ (u : List Entry). offer_each k t u) (sym (map_append (entry c) (seen d c x) rest)))

-- ---- the search with skipping
pub fit_point : (b : List Side) (p : Point) (c : List Float) → length c ≡ length b → T (lies b p) → Fit c (entry c p)
unfolding entry
fit_point b p c e h = (squared_held p.at c, λ n. squared_nan p.at c (omega (arith, inside_length b p.at (lies_inside b p h))) n)

near_point : (j : ℕ) (b : List Side) (p : Point) (c : List Float) → j ≤ 1023 → All (Bounded j) b → All F64 c → length c ≡ length b → T (lies b p) → T (clear c) → T (le (node_distance b c) (squared p.at c))
near_point j b p c r g q e h l = elim (distance_below j b p c r g q e h) [ inl u ↦ u.1 | inr n ↦ absurd (T_not (clear c) n.0 l) ]

module _ (w cap k : ℕ) (c : List Float) (hc : All F64 c) where
  spread : (d : ℕ) (b : List Side) (Q : At (Child (Tree d)) → Type 0) (i : ℕ) (ts : List (Tree d)) → ((i : ℕ) (t : Tree d) → GoodChild w cap d b i t → tally (out b) (held d t) ≡ 0 → Q (record { dist = node_distance (part b i) c; item = record { bounds = part b i; tree = t } }))
      → Each (GoodChild w cap d b) i ts → tally (out b) (flatten (map (held d) ts)) ≡ 0 → All Q (children d b c i ts)
  unfolding children flatten
  spread d b Q i [] f e h = tt
  spread d b Q i (t ∷ ts) f e h =
      let a = tally_append (out b) (held d t) (flatten (map (held d) ts)) in
      (f i t e.0 (omega arith), spread d b Q (suc i) ts f e.1 (omega arith))

  pub seek_is : (d j : ℕ) (b : List Side) (t : Tree d) (tab : List Entry) → j + 3 * d ≤ 1023 → All (Bounded j) b → length c ≡ length b → Good w cap d b t → tally (out b) (held d t) ≡ 0 → All (Fit c) tab
      → seek k c d b t tab ≡ offer_each k tab (map (entry c) (visit d b c t))
  unfolding seek visit held
  seek_is zero j b ps tab r g e m h a = refl
  seek_is (suc d) j b (leaf ps) tab r g e m h a = refl
  seek_is (suc d) j b (branch ts) tab r g e m h a =
      let Q : At (Child (Tree d)) → Type 0 = KidOk k c d (λ n u. seek k c d n u) in
      let ok : All Q (children d b c 0 ts) = spread d b Q 0 ts (λ i t ch o.
      let n = part b i in
      let r1 : 3 + j ≤ 1023 = omega arith in
      let g1 : All (Bounded (3 + j)) n = part_bounded j b i r1 g in
      let e1 : length c ≡ length n = e ∙ sym (part_length b i) in
      let o1 : tally (out n) (held d t) ≡ 0 = none_both (lies b) (goes b i) (lies n) (held d t) (λ p x y. lies_part j b i p r1 g x y) o ch.0 in (
        (node_held n c, node_number (3 + j) n c r1 g1 hc),
        all_map (λ (p : Point). T (lies n p)) (Far c (node_distance n c)) (visit d n c t) (λ p l. (fit_point n p c e1 l, near_point (3 + j) n p c r1 g1 hc e1 l)) (none_all (lies n) (visit d n c t) (visit_count d n c t (out n) ∙ o1)),
        λ u f. seek_is d (3 + j) n t u (omega arith) g1 e1 ch.1 o1 f,
      )) m.2 h in
      over_is k c d (λ n u. seek k c d n u) (place_each [] (children d b c 0 ts)) tab (place_each_all Q [] (children d b c 0 ts) tt ok) (place_each_sorted [] (children d b c 0 ts) tt tt (all_map Q (λ (x : At (Child (Tree d))). Num x) (children d b c 0 ts) (λ x q. q.0) ok)) a

  pub nearest_skips : (d j : ℕ) (b : List Side) (t : Tree d) → j + 3 * d ≤ 1023 → All (Bounded j) b → length c ≡ length b → Good w cap d b t → tally (out b) (held d t) ≡ 0
      → nearest_walk k c d b t ≡ nearest k c d b t
  unfolding nearest_walk nearest
  nearest_skips d j b t r g e m h = ap (λ (l : List Entry). map (λ (x : Entry). x.item) l) (seek_is d j b t [] r g e m h tt)
