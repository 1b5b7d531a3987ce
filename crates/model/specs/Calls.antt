-- Calls and what they give: document 01, "Room" and "Reply numbers". Definitions only.
use Rattle.std.specs.Prelude.{ℕ, suc, ◌^◌, min, true, false, cond, List, [], ◌∷◌, length, leb, ltb, eqb, Float}
use Rattle.std.proofs.Math.Option.{none, some}
use Rattle.model.specs.Boxes.{Side, inside, acceptable}
use Rattle.model.specs.Trees.{Point, Tree, bag, count, nodes, insert, delete, contains}
use Rattle.model.specs.Searches.{radius, box, nearest}

-- ---- replies
-- "Reply numbers", in the order of the table
pub data Reply : Type 0 where
  done outside absent no_capacity bad_boundary full no_nodes no_room unsound not_understood no_tree : Reply

unfoldable pub number : Reply → ℕ
number done = 0
number outside = 1
number absent = 2
number no_capacity = 3
number bad_boundary = 4
number full = 5
number no_nodes = 6
number no_room = 7
number unsound = 8
number not_understood = 9
number no_tree = 10

-- ---- the two trees
-- what tells one from the other: the axes, the order in which a merge joins lists, and "Nodes: quadtree at most 341 (1 + 4·85), octree at
-- most 321 (1 + 8·40), root counted."
pub record Kind : Type 0 where
  pub axes : ℕ
  pub order : List ℕ
  pub most : ℕ

abbrev pub ways : Kind → ℕ
ways k = 2 ^ k.axes

-- "NE, NW, SE, SW": bit 0 is east, bit 1 is south
abbrev pub quadtree : Kind
quadtree = record { axes = 2; order = 1 ∷ 0 ∷ 3 ∷ 2 ∷ []; most = 341 }

abbrev pub octree : Kind
octree = record { axes = 3; order = 0 ∷ 1 ∷ 2 ∷ 3 ∷ 4 ∷ 5 ∷ 6 ∷ 7 ∷ []; most = 321 }

-- ---- what is lent
pub record Plan : Type 0 where
  pub boundary : List Side
  pub capacity : ℕ
  pub root : Tree 32

-- the lent pieces: of wrong length, of the right length with no sound tree, or with a sound one (`Soundness` says when a tree is sound)
pub data State : Type 0 where
  misfit : State
  broken : State
  tree : Plan → State

abbrev pub empty : List Side → ℕ → Plan
empty b cap = record { boundary = b; capacity = cap; root = bag 32 [] }

abbrev pub with_root : Plan → Tree 32 → Plan
with_root a t = record { boundary = a.boundary; capacity = a.capacity; root = t }

-- ---- calls. A query changes nothing. A search is lent places for so many answers: "the shortest counts"; bulk gets the points of "the shortest of
-- its lent slices"
pub data Query : Type 0 where
  Contains : Point → Query
  Len : Query
  IsEmpty : Query
  Radius : List Float → Float → ℕ → Query
  Box : List Side → ℕ → Query
  Nearest : List Float → ℕ → ℕ → Query

pub data Call : Type 0 where
  Create : List Side → ℕ → Call
  Insert : Point → Call
  Bulk : List Point → Call
  Delete : Point → Call
  Clear : Call
  Ask : Query → Call

-- the reply, the pieces afterwards, the count or the yes or no, and the answer
pub record Outcome : Type 0 where
  pub reply : Reply
  pub state : State
  pub figure : ℕ
  pub points : List Point

-- "Refused calls change nothing and give only their number; where a count or a yes or no must still be handed over, it is 0."
abbrev pub refuse : Reply → State → Outcome
refuse r s = record { reply = r; state = s; figure = 0; points = [] }

abbrev pub give : State → ℕ → Outcome
give s n = record { reply = done; state = s; figure = n; points = [] }

-- ---- each call
-- "creation 8 (only for pieces of wrong length), 3, 4"
unfoldable pub create : State → List Side → ℕ → Outcome
unfolding acceptable
create s b cap = elim (eqb cap 0) [ true ↦ refuse no_capacity s | false ↦ elim (acceptable b) [ true ↦ give (tree (empty b cap)) 0 | false ↦ refuse bad_boundary s ] ]

-- "insert 8, 1, 5, 6": "point outside the boundary (any NaN is outside)", "512 points already held", "storing the point would leave more nodes than
-- Room allows"
unfoldable pub insert_call : Kind → Plan → Point → Outcome
unfolding inside count nodes insert
insert_call k a p =
    let t = insert (ways k) a.capacity 32 a.boundary p a.root in
    elim (inside a.boundary p.at) [
      | false ↦ refuse outside (tree a)
      | true ↦ elim (ltb (count 32 a.root) 512) [
        | false ↦ refuse full (tree a)
        | true ↦ elim (leb (nodes 32 t) k.most) [ false ↦ refuse no_nodes (tree a) | true ↦ give (tree (with_root a t)) 0 ]
      ]
    ]

-- "Bulk .. skips points outside, stops at the first 5 or 6, keeps those before and returns that number and how many were stored."
unfoldable pub bulk_call : Kind → Plan → ℕ → List Point → Outcome
unfolding inside count nodes insert
bulk_call k a n [] = give (tree a) n
bulk_call k a n (p ∷ ps) =
    let t = insert (ways k) a.capacity 32 a.boundary p a.root in
    elim (inside a.boundary p.at) [
      | false ↦ bulk_call k a n ps
      | true ↦ elim (ltb (count 32 a.root) 512) [
        | false ↦ record { reply = full; state = tree a; figure = n; points = [] }
        | true ↦ elim (leb (nodes 32 t) k.most) [ false ↦ record { reply = no_nodes; state = tree a; figure = n; points = [] } | true ↦ bulk_call k (with_root a t) (suc n) ps ]
      ]
    ]

-- "delete 8, 1, 2": "no equal point held"
unfoldable pub delete_call : Kind → Plan → Point → Outcome
unfolding inside delete
delete_call k a p =
    elim (inside a.boundary p.at) [
      | false ↦ refuse outside (tree a)
      | true ↦ elim (delete k.order a.capacity 32 a.boundary p a.root) [ none ↦ refuse absent (tree a) | some t ↦ give (tree (with_root a t)) 0 ]
    ]

-- "searches 8, 7": "more answers than the lent answer slices hold"
unfoldable pub search_call : Plan → ℕ → List Point → Outcome
search_call a n ps = elim (leb (length ps) n) [ true ↦ record { reply = done; state = tree a; figure = length ps; points = ps } | false ↦ refuse no_room (tree a) ]

-- "contains, len, is_empty and clear only 8"; "k above 512 acts as 512"
unfoldable pub ask : Plan → Query → Outcome
unfolding search_call contains radius box nearest count
ask a (Contains p) = give (tree a) (cond (contains 32 a.boundary p a.root) 1 0)
ask a Len = give (tree a) (count 32 a.root)
ask a IsEmpty = give (tree a) (cond (eqb (count 32 a.root) 0) 1 0)
ask a (Radius c r n) = search_call a n (radius c r 32 a.root)
ask a (Box q n) = search_call a n (box q 32 a.root)
ask a (Nearest c m n) = search_call a n (nearest (min m 512) c 32 a.boundary a.root)

-- "Clear keeps boundary and capacity and leaves one empty root."
unfoldable pub call : Kind → Plan → Call → Outcome
unfolding create insert_call bulk_call delete_call ask
call k a (Create b cap) = create (tree a) b cap
call k a (Insert p) = insert_call k a p
call k a (Bulk ps) = bulk_call k a 0 ps
call k a (Delete p) = delete_call k a p
call k a Clear = give (tree (empty a.boundary a.capacity)) 0
call k a (Ask q) = ask a q

-- on pieces of the right length that hold no sound tree: "8 | the lent tree is not sound"; a creation does not ask
unfoldable pub on_broken : Call → Outcome
unfolding create
on_broken (Create b cap) = create broken b cap
on_broken (Insert p) = refuse unsound broken
on_broken (Bulk ps) = refuse unsound broken
on_broken (Delete p) = refuse unsound broken
on_broken Clear = refuse unsound broken
on_broken (Ask q) = refuse unsound broken

-- what a call gives: "creation 8 (only for pieces of wrong length)"
unfoldable pub step : Kind → State → Call → Outcome
unfolding call on_broken
step k misfit c = refuse unsound misfit
step k broken c = on_broken c
step k (tree a) c = call k a c
