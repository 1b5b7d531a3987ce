-- What it is that the contracts of a tree's eleven functions determine what is handed back. Definitions only.
use Rattle.std.specs.Prelude.{◌≡◌, ◌≢◌, List, ℕ, Float}
use Rattle.model.specs.Boxes.{Side}
use Rattle.model.specs.Trees.{Point}
use Rattle.model.specs.Calls.{Kind, State, Call, Create, Insert, Bulk, Delete, Clear, Query, Contains, Len, IsEmpty, Radius, Box, Nearest}
use Rattle.trees.specs.Pieces.{Pieces, Says, Does, Asks, Searches}

-- what two calls handed back and left: the same reply and count, and pieces in the same state, so the same boundary, capacity, boxes, counts and lists; where they were refused and stored nothing, the same bytes.
-- "Place numbers inside a tree are free"
pub record Alike (k : Kind) (s1 s2 : Pieces) (r1 n1 r2 n2 : ℕ) : Type 0 where
  pub reply : r1 ≡ r2
  pub figure : n1 ≡ n2
  pub state : (a b : State) → Says k s1 a → Says k s2 b → a ≡ b
  pub refused : r1 ≢ 0 → n1 ≡ 0 → s1 ≡ s2

-- two that meet the contract of a change, of a question, of a search on the same pieces
abbrev pub Changes : Kind → Call → Type 0
Changes k c = (s s1 s2 : Pieces) (r1 n1 r2 n2 : ℕ) → Does k c s s1 r1 n1 → Does k c s s2 r2 n2 → Alike k s1 s2 r1 n1 r2 n2

abbrev pub Tells : Kind → Query → Type 0
Tells k q = (s : Pieces) (r1 n1 r2 n2 : ℕ) → Asks k q s r1 n1 → Asks k q s r2 n2 → (r1 ≡ r2) × (n1 ≡ n2)

abbrev pub Hands : Kind → Query → Type 0
Hands k q = (s : Pieces) (cs ms c1 m1 c2 m2 : List ℕ) (r1 n1 r2 n2 : ℕ) → Searches k q s cs ms c1 m1 r1 n1 → Searches k q s cs ms c2 m2 r2 n2 → (r1 ≡ r2) × (n1 ≡ n2) × (c1 ≡ c2) × (m1 ≡ m2)

-- each of the functions, with the room that a search is lent
pub record Determined (k : Kind) : Type 0 where
  pub create : (boundary : List Side) (capacity : ℕ) → Changes k (Create boundary capacity)
  pub insert : (p : Point) → Changes k (Insert p)
  pub insert_bulk : (ps : List Point) → Changes k (Bulk ps)
  pub delete : (p : Point) → Changes k (Delete p)
  pub clear : Changes k Clear
  pub contains : (p : Point) → Tells k (Contains p)
  pub len : Tells k Len
  pub is_empty : Tells k IsEmpty
  pub range_search : (centre : List Float) (radius : Float) (room : ℕ) → Hands k (Radius centre radius room)
  pub range_search_bbox : (box : List Side) (room : ℕ) → Hands k (Box box room)
  pub knn_search : (centre : List Float) (most room : ℕ) → Hands k (Nearest centre most room)
