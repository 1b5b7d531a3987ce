-- Trees of points over any number of axes and any merge order: document 01, "Boxes and routing". Definitions only.
use Rattle.std.specs.Prelude.{ℕ, zero, suc, ◌+◌, Bool, true, false, ◌&&◌, length, get_or, set, replicate, leb, ltb, eqb, Float}
use mathlib.Core.List.{List, [], ◌∷◌, ◌++◌, map, flatten}
use Rattle.std.proofs.Math.Option.{Option, none, some}
use Rattle.model.specs.Boxes.{Side, inside, same_place, route, part}

-- "Payload: unsigned 32 bits, always present"
pub record Point : Type 0 where
  pub at : List Float
  pub payload : ℕ

-- "Equality (added): all coordinates equal as floats (−0 equals 0) and payloads equal."
unfoldable pub same : Point → Point → Bool
unfolding same_place
same p q = same_place p.at q.at && eqb p.payload q.payload

-- a node is undivided and has a list of points, or is divided and has its children
pub data Node (K : Type 0) : Type 0 where
  leaf : List Point → Node K
  branch : List K → Node K

-- "Deepest node: 32": a tree with d levels left below its root. With none left a node is its list
abbrev pub Tree : ℕ → Type 0
Tree zero = List Point
Tree (suc d) = Node (Tree d)

-- the undivided node with these points
unfoldable pub bag : (d : ℕ) → List Point → Tree d
bag zero ps = ps
bag (suc d) ps = leaf ps

unfoldable pub undivided : (d : ℕ) → Tree d → Bool
undivided zero ps = true
undivided (suc d) (leaf ps) = true
undivided (suc d) (branch ts) = false

-- "the node's list, then children in index order": the points held
unfoldable pub held : (d : ℕ) → Tree d → List Point
unfolding flatten
held zero ps = ps
held (suc d) (leaf ps) = ps
held (suc d) (branch ts) = flatten (map (held d) ts)

unfoldable pub count : (d : ℕ) → Tree d → ℕ
unfolding held
count d t = length (held d t)

unfoldable pub total : List ℕ → ℕ
total [] = 0
total (n ∷ ns) = n + total ns

-- "Nodes: .. root counted."
unfoldable pub nodes : (d : ℕ) → Tree d → ℕ
unfolding total
nodes zero ps = 1
nodes (suc d) (leaf ps) = 1
nodes (suc d) (branch ts) = suc (total (map (nodes d) ts))

-- ---- insert
-- a point goes on into the child that it routes to
unfoldable pub into : (d : ℕ) → (List Side → Point → Tree d → Tree d) → List Side → Point → List (Tree d) → List (Tree d)
unfolding route part bag
into d go b p ts = let i = route b p.at in set ts i (go (part b i) p (get_or ts i (bag d [])))

-- "its points move down in list order"
unfoldable pub into_each : (d : ℕ) → (List Side → Point → Tree d → Tree d) → List Side → List Point → List (Tree d) → List (Tree d)
unfolding into
into_each d go b [] ts = ts
into_each d go b (p ∷ ps) ts = into_each d go b ps (into d go b p ts)

-- "Insert appends to an undivided node holding fewer than capacity or at depth 32; else the node splits, its points move down in list
-- order, and the new point goes on into its child, which may split too."
unfoldable pub insert : (ways capacity d : ℕ) → List Side → Point → Tree d → Tree d
unfolding into into_each bag
insert w cap zero b p ps = ps ++ (p ∷ [])
insert w cap (suc d) b p (leaf ps) =
    elim (ltb (length ps) cap) [
      | true ↦ leaf (ps ++ (p ∷ []))
      | false ↦ branch (into d (insert w cap d) b p (into_each d (insert w cap d) b ps (replicate w (bag d []))))
    ]
insert w cap (suc d) b p (branch ts) = branch (into d (insert w cap d) b p ts)

-- ---- delete
-- "Delete removes the first equal point in its node's list.": none where no point of the list is equal
unfoldable pub without : Point → List Point → Option (List Point)
unfolding same
without p [] = none
without p (q ∷ qs) =
    elim (same p q) [
      | true ↦ some qs
      | false ↦ elim (without p qs) [ none ↦ none | some rs ↦ some (q ∷ rs) ]
    ]

-- "lists joined" in the merge order
unfoldable pub joined : (d : ℕ) → List ℕ → List (Tree d) → List Point
unfolding flatten held bag
joined d order ts = flatten (map (λ i. held d (get_or ts i (bag d []))) order)

unfoldable pub every : {A : Type 0} → (A → Bool) → List A → Bool
every f [] = true
every f (x ∷ xs) = f x && every f xs

-- "On the way up, a divided node whose children are all undivided and hold at most capacity together merges: quadtree lists joined NE,
-- NW, SE, SW; octree lists in child order."
unfoldable pub merge : (order : List ℕ) (capacity d : ℕ) → List (Tree d) → Node (Tree d)
unfolding joined every undivided total count
merge order cap d ts =
    elim (every (undivided d) ts && leb (total (map (count d) ts)) cap) [ true ↦ leaf (joined d order ts) | false ↦ branch ts ]

-- the tree without the point; none where the point is outside a box on its path, or no equal point is held
unfoldable pub delete : (order : List ℕ) (capacity d : ℕ) → List Side → Point → Tree d → Option (Tree d)
unfolding inside without merge route part bag
delete o cap zero b p ps = elim (inside b p.at) [ true ↦ without p ps | false ↦ none ]
delete o cap (suc d) b p (leaf ps) =
    elim (inside b p.at) [ true ↦ elim (without p ps) [ none ↦ none | some qs ↦ some (leaf qs) ] | false ↦ none ]
delete o cap (suc d) b p (branch ts) =
    let i = route b p.at in
    elim (inside b p.at) [
      | true ↦ elim (delete o cap d (part b i) p (get_or ts i (bag d []))) [ none ↦ none | some t ↦ some (merge o cap d (set ts i t)) ]
      | false ↦ none
    ]

-- ---- contains
unfoldable pub some? : {A : Type 0} → Option A → Bool
some? none = false
some? (some x) = true

-- "Contains gives yes or no, no for a point outside."
unfoldable pub contains : (d : ℕ) → List Side → Point → Tree d → Bool
unfolding inside without some? route part bag
contains zero b p ps = inside b p.at && some? (without p ps)
contains (suc d) b p (leaf ps) = inside b p.at && some? (without p ps)
contains (suc d) b p (branch ts) = let i = route b p.at in inside b p.at && contains d (part b i) p (get_or ts i (bag d []))
