-- When a tree is sound: document 01, "A tree is sound when ..", clause by clause. Definitions only.
-- What speaks of places in memory, "links that form a tree", "counts that match at each node" and "each unused place free once", stands with the
-- places: a tree is read from them only where it holds. "boxes by the split rule" and "no node below depth 32" hold of every tree here: boxes are
-- computed by `part`, and the levels are in the type.
use Rattle.std.specs.Prelude.{ℕ, zero, suc, ◌≤◌, ◌<◌, ◌≡◌, List, [], ◌∷◌, length, T}
use Rattle.model.specs.Boxes.{Side, inside, route, part, acceptable}
use Rattle.model.specs.Trees.{Point, leaf, branch, Tree, held, count}
use Rattle.model.specs.Calls.{Kind, ways, Plan}

-- P holds of every element; P holds of every element and its number, from i on
abbrev pub All : {A : Type 0} → (A → Type 0) → List A → Type 0
All P [] = Unit {0}
All P (x ∷ xs) = P x × All P xs

abbrev pub Each : {A : Type 0} → (ℕ → A → Type 0) → ℕ → List A → Type 0
Each P i [] = Unit {0}
Each P i (x ∷ xs) = P i x × Each P (suc i) xs

-- "all children or none"
abbrev pub AllOrNone : (ways d : ℕ) → Tree d → Type 0
AllOrNone w zero ps = Unit {0}
AllOrNone w (suc d) (leaf ps) = Unit {0}
AllOrNone w (suc d) (branch ts) = (length ts ≡ w) × All (AllOrNone w d) ts

-- "points only in undivided nodes on their routed path"
abbrev pub Routed : (d : ℕ) → List Side → Tree d → Type 0
Routed zero b ps = Unit {0}
Routed (suc d) b (leaf ps) = Unit {0}
Routed (suc d) b (branch ts) = Each (λ i t. All (λ (p : Point). route b p.at ≡ i) (held d t) × Routed d (part b i) t) 0 ts

-- "and inside the boundary"
abbrev pub AllInside : List Side → (d : ℕ) → Tree d → Type 0
AllInside b d t = All (λ (p : Point). T (inside b p.at)) (held d t)

-- "no undivided node above depth 32 over capacity"
abbrev pub LeavesFit : (capacity d : ℕ) → Tree d → Type 0
LeavesFit cap zero ps = Unit {0}
LeavesFit cap (suc d) (leaf ps) = length ps ≤ cap
LeavesFit cap (suc d) (branch ts) = All (LeavesFit cap d) ts

-- "no divided node with capacity points or fewer"
abbrev pub BranchesFull : (capacity d : ℕ) → Tree d → Type 0
BranchesFull cap zero ps = Unit {0}
BranchesFull cap (suc d) (leaf ps) = Unit {0}
BranchesFull cap (suc d) (branch ts) = (cap < count (suc d) (branch ts)) × All (BranchesFull cap d) ts

pub record Sound (k : Kind) (a : Plan) : Type 0 where
  -- "it has an acceptable boundary"
  pub boundary : T (acceptable a.boundary) × (length a.boundary ≡ k.axes)
  -- "capacity at least 1"
  pub capacity : 1 ≤ a.capacity
  pub all_or_none : AllOrNone (ways k) 32 a.root
  pub routed : Routed 32 a.boundary a.root
  pub all_inside : AllInside a.boundary 32 a.root
  pub leaves_fit : LeavesFit a.capacity 32 a.root
  pub branches_full : BranchesFull a.capacity 32 a.root
