-- Searches over any number of axes, with nothing skipped: document 01, "Searching". Definitions only.
use Rattle.std.specs.Prelude.{ℕ, zero, suc, Bool, true, false, not, ◌&&◌, ◌||◌, length, ltb, Float}
use mathlib.Core.List.{List, [], ◌∷◌, map, flatten, drop_last}
use Rattle.std.specs.Float.{binary64}
use Rattle.std.specs.Float.Ieee.{mul, le, lt, is_nan}
use Rattle.floats.specs.Values.{plus_zero}
use Rattle.model.specs.Boxes.{Side, inside, part, squared, node_distance}
use Rattle.model.specs.Trees.{Point, leaf, branch, Tree, held}

-- ---- radius and box: "the node's list, then children in index order"
unfoldable pub keep : {A : Type 0} → (A → Bool) → List A → List A
keep f [] = []
keep f (x ∷ xs) = elim (f x) [ true ↦ x ∷ keep f xs | false ↦ keep f xs ]

-- whether a plain scan for a squared radius gives a point; for a box it is `within`
unfoldable pub near : List Float → Float → Point → Bool
near c rr p = le (squared p.at c) rr

-- "A radius < 0 gives nothing."; any other gives the points whose squared distance is at most r·r
unfoldable pub radius : List Float → Float → (d : ℕ) → Tree d → List Point
unfolding held keep near
radius c r d t = elim (lt r plus_zero) [ true ↦ [] | false ↦ keep (near c (mul binary64 r r)) (held d t) ]

unfoldable pub within : List Side → Point → Bool
within q p = inside q p.at

unfoldable pub box : List Side → (d : ℕ) → Tree d → List Point
unfolding held keep within
box q d t = keep (within q) (held d t)

-- ---- k nearest: in which order nodes are visited
-- a thing at a distance
pub record At (A : Type 0) : Type 0 where
  pub dist : Float
  pub item : A

-- "In the table's own order NaN equals NaN and exceeds all else."
unfoldable pub less : Float → Float → Bool
less x y = lt x y || (is_nan y && not (is_nan x))

-- by distance, "then arrival": a newcomer goes before the first that it is less than
unfoldable pub place : {A : Type 0} → At A → List (At A) → List (At A)
unfolding less
place x [] = x ∷ []
place x (y ∷ ys) = elim (less x.dist y.dist) [ true ↦ x ∷ y ∷ ys | false ↦ y ∷ place x ys ]

unfoldable pub place_each : {A : Type 0} → List (At A) → List (At A) → List (At A)
unfolding place
place_each ys [] = ys
place_each ys (x ∷ xs) = place_each (place x ys) xs

-- a child with its box
pub record Child (K : Type 0) : Type 0 where
  pub bounds : List Side
  pub tree : K

-- the children from number i on, each at its node distance
unfoldable pub children : (d : ℕ) → List Side → List Float → ℕ → List (Tree d) → List (At (Child (Tree d)))
unfolding part node_distance
children d b c i [] = []
children d b c i (t ∷ ts) = record { dist = node_distance (part b i) c; item = record { bounds = part b i; tree = t } } ∷ children d b c (suc i) ts

-- "the list, then children by node distance, ties in index order"
unfoldable pub visit : (d : ℕ) → List Side → List Float → Tree d → List Point
unfolding place_each children flatten
visit zero b c ps = ps
visit (suc d) b c (leaf ps) = ps
visit (suc d) b c (branch ts) = flatten (map (λ (k : At (Child (Tree d))). visit d k.item.bounds c k.item.tree) (place_each [] (children d b c 0 ts)))

-- ---- k nearest: the candidate table
abbrev pub Entry : Type 0
Entry = At Point

-- how the worst compares, "by IEEE 754"; an empty table is full only for k = 0, and then nothing is better than its worst
unfoldable pub worst : {A : Type 0} → (Float → Bool) → List (At A) → Bool
worst f [] = true
worst f (y ∷ []) = f y.dist
worst f (y ∷ z ∷ zs) = worst f (z ∷ zs)

-- "A full table turns away a distance ≥ the worst, else drops its last by (distance, arrival)."
unfoldable pub offer : {A : Type 0} → ℕ → At A → List (At A) → List (At A)
unfolding place worst
offer k x t =
    elim (ltb (length t) k) [
      | true ↦ place x t
      | false ↦ elim (worst (λ w. le w x.dist) t) [ true ↦ t | false ↦ place x (drop_last t) ]
    ]

unfoldable pub offer_each : {A : Type 0} → ℕ → List (At A) → List (At A) → List (At A)
unfolding offer
offer_each k t [] = t
offer_each k t (x ∷ xs) = offer_each k (offer k x t) xs

-- "The candidate table's distance is this squared one"
unfoldable pub entry : List Float → Point → Entry
entry c p = record { dist = squared p.at c; item = p }

-- "Output is by distance, then arrival."
unfoldable pub nearest : ℕ → List Float → (d : ℕ) → List Side → Tree d → List Point
unfolding offer_each entry visit
nearest k c d b t = map (λ (e : Entry). e.item) (offer_each k [] (map (entry c) (visit d b c t)))
