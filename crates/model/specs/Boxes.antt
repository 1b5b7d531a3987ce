-- Boxes, routing and distances over any number of axes: document 01, "Boxes and routing" and "Searching". Definitions only.
-- A place is a list of coordinates, x first. Nothing says how many there are: two are the quadtree's, three the octree's. Every list of one tree has as
-- many; what is said of lists of other lengths is never used.
use Rattle.std.specs.Prelude.{ℕ, ◌+◌, ◌*◌, ◌/◌, ◌%◌, Bool, true, false, ◌&&◌, cond, pos, eqb, Float}
use mathlib.Core.List.{List, [], ◌∷◌, zip_with}
use Rattle.std.specs.Float.{fin, binary64}
use Rattle.std.specs.Float.Ieee.{add, sub, mul, div, le, lt, eq}
use Rattle.floats.specs.Values.{plus_zero, two}
use Rattle.floats.specs.Span.{span}

-- "A box carries its floats: a corner and an extent for each axis."
pub record Side : Type 0 where
  pub corner : Float
  pub extent : Float

abbrev pub side : Float → Float → Side
side c e = record { corner = c; extent = e }

-- "The far edge is corner + extent, computed."
unfoldable pub far : Side → Float
far s = add binary64 s.corner s.extent

-- "on each axis", for two lists of as many axes
unfoldable pub on_each : {A B : Type 0} → (A → B → Bool) → List A → List B → Bool
on_each f [] [] = true
on_each f [] (y ∷ ys) = false
on_each f (x ∷ xs) [] = false
on_each f (x ∷ xs) (y ∷ ys) = f x y && on_each f xs ys

-- "Inside (added): corner ≤ v ≤ far edge on each axis."
unfoldable pub holds : Side → Float → Bool
unfolding far
holds s v = le s.corner v && le v (far s)

unfoldable pub inside : List Side → List Float → Bool
unfolding on_each holds
inside b p = on_each holds b p

-- "Boxes meet (added) where each one's corner is ≤ the other's far edge on every axis."
unfoldable pub touches : Side → Side → Bool
unfolding far
touches s t = le s.corner (far t) && le t.corner (far s)

unfoldable pub meets : List Side → List Side → Bool
unfolding on_each touches
meets b q = on_each touches b q

-- "Equality (added): all coordinates equal as floats (−0 equals 0) and payloads equal.": the coordinates
unfoldable pub same_place : List Float → List Float → Bool
unfolding on_each
same_place p q = on_each eq p q

-- "Midplane: corner + extent/2."
unfoldable pub mid : Side → Float
mid s = add binary64 s.corner (div binary64 s.extent two)

-- "A point with v ≥ midplane goes to the high side."
unfoldable pub turn : Side → Float → ℕ
unfolding mid
turn s v = cond (le (mid s) v) 1 0

-- "Bit 0 is x, bit 1 y, bit 2 z.": the number of the child that a place goes to
unfoldable pub route : List Side → List Float → ℕ
unfolding turn
route [] p = 0
route (s ∷ b) [] = 0
route (s ∷ b) (v ∷ p) = turn s v + 2 * route b p

-- "A split gives child corners at the corner or midplane and extents by `span(lo, hi)`": the low half of a side, and the high one
unfoldable pub half : Bool → Side → Side
unfolding far mid span
half false s = record { corner = s.corner; extent = span binary64 s.corner (mid s) }
half true s = record { corner = mid s; extent = span binary64 (mid s) (far s) }

-- the box of the child with the number i: on each axis the half that the number's bit says
unfoldable pub part : List Side → ℕ → List Side
unfolding half
part [] i = []
part (s ∷ b) i = half (eqb (i % 2) 1) s ∷ part b (i / 2)

-- "added x, y, then z": a sum from the left
unfoldable pub added_to : Float → List Float → Float
added_to a [] = a
added_to a (x ∷ xs) = added_to (add binary64 a x) xs

unfoldable pub added : List Float → Float
unfolding added_to
added [] = plus_zero
added (x ∷ xs) = added_to x xs

-- "`powi(2)` is one product."
abbrev pub square : Float → Float
square x = mul binary64 x x

-- "Squared distance: each difference and product rounded once, added x, y, then z."
unfoldable pub difference_sq : Float → Float → Float
difference_sq x v = square (sub binary64 x v)

unfoldable pub squared : List Float → List Float → Float
unfolding added zip_with difference_sq
squared p c = added (zip_with difference_sq p c)

-- "Axis distance (added): corner − v below the corner, v − far edge above it, otherwise 0."
unfoldable pub axis_distance : Side → Float → Float
unfolding far
axis_distance s v = cond (lt v s.corner) (sub binary64 s.corner v) (cond (lt (far s) v) (sub binary64 v (far s)) plus_zero)

-- "Node distance is the sum of squares in the same order."
unfoldable pub axis_sq : Side → Float → Float
unfolding axis_distance
axis_sq s v = square (axis_distance s v)

unfoldable pub node_distance : List Side → List Float → Float
unfolding added zip_with axis_sq
node_distance b c = added (zip_with axis_sq b c)

-- "every number finite and at most 2^500 in magnitude"
unfoldable pub bounded : Float → Bool
bounded x = le (fin true 1 (pos 500)) x && le x (fin false 1 (pos 500))

-- "Boundary: every number finite and at most 2^500 in magnitude, extents not negative (zero and −0 allowed)."
unfoldable pub acceptable : List Side → Bool
unfolding bounded
acceptable [] = true
acceptable (s ∷ b) = bounded s.corner && (bounded s.extent && (le plus_zero s.extent && acceptable b))
