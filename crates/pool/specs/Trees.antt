-- A tree with the numbers of its places, and what it is without them. Definitions only.
use mathlib.Core.List.{List, [], ◌∷◌, ◌++◌, map, flatten}
use Rattle.std.specs.Prelude.{ℕ, zero, suc, ◌+◌, length, get_or, set, replicate}
use Rattle.model.specs.Trees as model
use Rattle.pool.specs.Lists.{is, occ, sum_of}
use Rattle.pool.specs.Writes.{turn_at}

-- a node is undivided and has a list of places, or is divided and has a group and its children
pub data Node (K : Type 0) : Type 0 where
  leaf : List ℕ → Node K
  branch : ℕ → List K → Node K

-- a tree with d levels left below its root, as the model's
abbrev pub PTree : ℕ → Type 0
PTree zero = List ℕ
PTree (suc d) = Node (PTree d)

-- the undivided node with this list
abbrev pub flat : (d : ℕ) → List ℕ → PTree d
flat zero l = l
flat (suc d) l = leaf l

abbrev pub flats : (d : ℕ) → List (List ℕ) → List (PTree d)
flats d ls = map (flat d) ls

abbrev pub none : (d : ℕ) → PTree d
none d = flat d []

-- how often group g is in a tree
abbrev pub groups_at : (d : ℕ) → ℕ → PTree d → ℕ
groups_at zero g l = 0
groups_at (suc d) g (leaf l) = 0
groups_at (suc d) g (branch k ts) = is g k + sum_of (groups_at d g) ts

-- how often place p is in a tree
abbrev pub places_at : (d : ℕ) → ℕ → PTree d → ℕ
places_at zero p l = occ p l
places_at (suc d) p (leaf l) = occ p l
places_at (suc d) p (branch k ts) = sum_of (places_at d p) ts

-- how many places a tree has
abbrev pub size : (d : ℕ) → PTree d → ℕ
size zero l = length l
size (suc d) (leaf l) = length l
size (suc d) (branch k ts) = sum_of (size d) ts

-- the model's tree: `at p` is the point in place p
unfoldable pub erase : (ℕ → model.Point) → (d : ℕ) → PTree d → model.Tree d
erase at zero l = map at l
erase at (suc d) (leaf l) = model.leaf (map at l)
erase at (suc d) (branch k ts) = model.branch (map (erase at d) ts)

-- ---- lists dealt out and joined
-- from turn j on, each place goes to the end of the list that its turn says
unfoldable pub dealt_from : ℕ → List ℕ → ℕ → List ℕ → List (List ℕ) → List (List ℕ)
unfolding turn_at
dealt_from ways ts j [] ls = ls
dealt_from ways ts j (p ∷ l) ls = let c = turn_at ways ts j in dealt_from ways ts (suc j) l (set ls c (get_or ls c [] ++ (p ∷ [])))

-- a list dealt out to as many lists as there are ways
unfoldable pub dealt : ℕ → List ℕ → List ℕ → List (List ℕ)
unfolding dealt_from
dealt ways ts l = dealt_from ways ts 0 l (replicate ways [])

-- the children's lists joined in an order of their numbers, as the model joins points
unfoldable pub joined_in : List ℕ → List (List ℕ) → List ℕ
unfolding flatten
joined_in order ls = flatten (map (λ c. get_or ls c []) order)
