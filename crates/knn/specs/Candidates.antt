-- The candidate table as two arrays and a count: document 01, "Room" and "Searching". Definitions only.
use Rattle.std.specs.Prelude.{◌≡◌, ℕ, suc, min, Bool, true, false, not, ◌&&◌, length, take, T, ltb, Float}
use mathlib.Core.List.{List, [], ◌∷◌, map, zip_with, drop_last}
use Rattle.std.proofs.lemmas.List.Edits.{sets}
use Rattle.std.specs.Float.{inf}
use Rattle.std.specs.Float.Ieee.{le}
use Rattle.model.specs.Searches.{At, less, offer, place_each, worst}
use Rattle.model.specs.Soundness.{All}

-- a place, or a child's number, at a distance
abbrev pub at : Float → ℕ → At ℕ
at d p = record { dist = d; item = p }

abbrev pub dists : List (At ℕ) → List Float
dists t = map (λ (e : At ℕ). e.dist) t

abbrev pub items : List (At ℕ) → List ℕ
items t = map (λ (e : At ℕ). e.item) t

-- the table: the first n entries; the shorter array ends it
abbrev pub entries : ℕ → List Float → List ℕ → List (At ℕ)
entries n ds ps = take n (zip_with at ds ps)

-- "The candidates sit in one fixed table of 512 places; k above 512 acts as 512." Shorter arrays hold less.
abbrev pub room : ℕ → List Float → List ℕ → ℕ
room k ds ps = min (min k 512) (min (length ds) (length ps))

-- ---- what an offer leaves, also in a table that is not in its own order
-- whether a newcomer is less than each of these
unfoldable pub ahead : {A : Type 0} → Float → List (At A) → Bool
ahead x [] = true
ahead x (y ∷ ys) = less x y.dist && ahead x ys

-- "a newcomer is swapped past its neighbours to its place": from the end, past all that it is less than, up to the first that it is not
unfoldable pub settle : {A : Type 0} → At A → List (At A) → List (At A)
unfolding ahead
settle x [] = x ∷ []
settle x (y ∷ ys) = elim (ahead x.dist (y ∷ ys)) [ true ↦ x ∷ y ∷ ys | false ↦ y ∷ settle x ys ]

-- as the model's `offer`, with `settle` in place of `place`: "A full table turns away a distance ≥ the worst, else drops its last"
unfoldable pub offered : {A : Type 0} → ℕ → At A → List (At A) → List (At A)
unfolding settle
offered k x t =
    elim (ltb (length t) k) [
      | true ↦ settle x t
      | false ↦ elim (worst (λ w. le w x.dist) t) [ true ↦ t | false ↦ settle x (drop_last t) ]
    ]

-- what a table of two arrays keeps after an offer
abbrev pub kept : (count k : ℕ) → Float → ℕ → List Float → List ℕ → List (At ℕ)
kept count k d p ds ps = offered (room k ds ps) (at d p) (entries count ds ps)

-- both arrays hold t from their first places on, and after it what they held before
abbrev pub Written : List (At ℕ) → List Float → List ℕ → List Float → List ℕ → Type 0
Written t ds ps ds' ps' = (ds' ≡ sets ds 0 (dists t)) × (ps' ≡ sets ps 0 (items t))

-- "In the table's own order": no entry is less than an earlier one
abbrev pub InOrder : {A : Type 0} → List (At A) → Type 0
InOrder [] = Unit {0}
InOrder (x ∷ xs) = All (λ y. T (not (less y.dist x.dist))) xs × InOrder xs

-- a table that was in its own order holds what the model's offer gives, and is in that order again
abbrev pub ByModel : (count k : ℕ) → Float → ℕ → List Float → List ℕ → List Float → List ℕ → ℕ → Type 0
ByModel count k d p ds ps ds' ps' r = InOrder (entries count ds ps) → (entries r ds' ps' ≡ offer (room k ds ps) (at d p) (entries count ds ps)) × InOrder (entries r ds' ps')

-- a table's two arrays, its count and its k after an offer: all four are fixed
abbrev pub Offered : (count k : ℕ) → Float → ℕ → List Float → List ℕ → List Float → List ℕ → (count' k' : ℕ) → Type 0
Offered count k d p ds ps ds' ps' count' k' = (count' ≡ length (kept count k d p ds ps)) × (k' ≡ k) × Written (kept count k d p ds ps) ds ps ds' ps' × ByModel count k d p ds ps ds' ps' count'

-- ---- the distance that a candidate must beat, among the distances kept: +∞ while there is room, −∞ where nothing is kept
unfoldable pub last_or : Float → List Float → Float
last_or z [] = z
last_or z (d ∷ ds) = last_or d ds

unfoldable pub bar : ℕ → List Float → Float
unfolding last_or
bar k ds = elim (ltb (length ds) k) [ true ↦ inf false | false ↦ last_or (inf true) ds ]

-- ---- "children by node distance, ties in index order"
-- node distances, each with its child's number from i on
unfoldable pub numbered : ℕ → List Float → List (At ℕ)
numbered i [] = []
numbered i (d ∷ ds) = at d i ∷ numbered (suc i) ds

-- as many of them as both arrays have places for, eight at most
abbrev pub ordered : List Float → List ℕ → List (At ℕ)
ordered ds ps = place_each [] (numbered 0 (take (min 8 (min (length ds) (length ps))) ds))
