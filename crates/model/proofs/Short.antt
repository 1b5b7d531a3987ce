-- Shorter forms of insert, delete and contains. On sound trees they are what the definitions say (`Same`), and the laws are proved of them. Assumes nothing.
use Prim.Native.Nat.{ℕ, zero, suc}
use mathlib.Core.Bool.{Bool, true, false}
use mathlib.Core.List.{List, [], ◌∷◌, ◌++◌, map, flatten}
use lib.ListN.{length, get_or}
use lib.Dec.{leb, ltb, eqb}
use Rattle.model.specs.Boxes.{Side, part, route}
use Rattle.model.specs.Searches.{keep}
use Rattle.model.specs.Trees.{Node, Point, Tree, bag, branch, held, into, joined, leaf, same}

-- whether a point goes to the child with the number i
abbrev pub goes : List Side → ℕ → Point → Bool
goes b i q = eqb (route b q.at) i

-- the n children from number i on, after the points of a list have moved down in list order
unfoldable pub deal : (d : ℕ) → List Side → List Point → ℕ → ℕ → List (Tree d)
unfolding bag keep
deal d b ps i zero = []
deal d b ps i (suc n) = bag d (keep (goes b i) ps) ∷ deal d b ps (suc i) n

unfoldable pub insert_s : (ways cap : ℕ) (d : ℕ) → List Side → Point → Tree d → Tree d
unfolding into deal
insert_s w cap zero b p ps = ps ++ (p ∷ [])
insert_s w cap (suc d) b p (leaf ps) = elim (ltb (length ps) cap) [ true ↦ leaf (ps ++ (p ∷ [])) | false ↦ branch (into d (insert_s w cap d) b p (deal d b ps 0 w)) ]
insert_s w cap (suc d) b p (branch ts) = branch (into d (insert_s w cap d) b p ts)

unfoldable pub without_s : Point → List Point → List Point
unfolding same
without_s p [] = []
without_s p (q ∷ qs) = elim (same p q) [ true ↦ qs | false ↦ q ∷ without_s p qs ]

-- the first equal point, if there is one
unfoldable pub first : Point → List Point → List Point
unfolding same
first p [] = []
first p (q ∷ qs) = elim (same p q) [ true ↦ q ∷ [] | false ↦ first p qs ]

unfoldable pub merge_s : (order : List ℕ) (cap : ℕ) (d : ℕ) → List (Tree d) → Node (Tree d)
unfolding joined
merge_s order cap d ts = elim (leb (length (flatten (map (held d) ts))) cap) [ true ↦ leaf (joined d order ts) | false ↦ branch ts ]

unfoldable pub delete_s : (order : List ℕ) (cap : ℕ) (d : ℕ) → List Side → Point → Tree d → Tree d
unfolding into merge_s without_s
delete_s o cap zero b p ps = without_s p ps
delete_s o cap (suc d) b p (leaf ps) = leaf (without_s p ps)
delete_s o cap (suc d) b p (branch ts) = merge_s o cap d (into d (delete_s o cap d) b p ts)

-- what delete takes out
unfoldable pub taken : (d : ℕ) → List Side → Point → Tree d → List Point
unfolding first bag route part
taken zero b p ps = first p ps
taken (suc d) b p (leaf ps) = first p ps
taken (suc d) b p (branch ts) = let i = route b p.at in taken d (part b i) p (get_or ts i (bag d []))

unfoldable pub filled : {A : Type 0} → List A → Bool
filled [] = false
filled (x ∷ xs) = true

unfoldable pub contains_s : (d : ℕ) → List Side → Point → Tree d → Bool
unfolding taken filled
contains_s d b p t = filled (taken d b p t)
