-- A tree in its four lent pieces, and what a call does to them: document 01, "Room", "Reply numbers" and "What the contracts must say". Definitions only.
use Rattle.std.specs.Prelude.{◌≡◌, ◌≢◌, Bool, true, ℕ, zero, suc, ◌+◌, ◌-◌, ◌*◌, ◌/◌, ◌%◌, ◌<◌, ◌≤◌, min, length, get_or}
use mathlib.Core.List.{List, [], ◌∷◌, map, flatten, zip_with}
use Rattle.std.proofs.lemmas.List.Edits.{sets}
use Rattle.std.specs.Float.{binary64}
use Rattle.std.specs.Float.Ieee.{to_bits}
use Rattle.model.specs.Boxes.{Side}
use Rattle.model.specs.Trees.{Point}
use Rattle.model.specs.Calls.{Kind, ways, Plan, State, misfit, broken, tree, number, Call, Create, Query, Ask, Outcome, step}
use Rattle.model.specs.Soundness.{Sound}
use Rattle.words.specs.Words.{words, pairs}
use Rattle.pool.specs.Lists.{occ}
use Rattle.pool.specs.Read.{up_to}
use Rattle.pool.specs.Trees.{PTree, erase, groups_at, places_at}
use Rattle.pool.specs.Worlds.{World}
use Rattle.pool.specs.Writes.{pool, kid}
use Rattle.trees.specs.Points.{floats, point_at}

-- ---- the pieces
-- as bytes
pub record Pieces : Type 0 where
  pub head : List ℕ
  pub nodes : List ℕ
  pub links : List ℕ
  pub points : List ℕ

abbrev pub pieces : List ℕ → List ℕ → List ℕ → List ℕ → Pieces
pieces h n x p = record { head = h; nodes = n; links = x; points = p }

-- "8 (only for pieces of wrong length)": the head has a corner and an extent for each axis, the capacity and a spare word; the nodes are those of Room and,
-- before the first group, the header, the root and unused ones; links and points have 512 places and the one that is none
pub record Fits (k : Kind) (s : Pieces) : Type 0 where
  pub head : length s.head ≡ 16 * k.axes + 8
  pub nodes : length s.nodes ≡ 16 * (k.most - 1 + ways k)
  pub links : length s.links ≡ 4 * 513
  pub points : length s.points ≡ 8 * (k.axes + 1) * 513

-- ---- the tree in them
-- the corners of all axes, then their extents
abbrev pub boundary_of : (axes : ℕ) → List ℕ → List Side
boundary_of axes w = zip_with (λ c e. record { corner = c; extent = e }) (floats axes (pairs w) 0) (floats axes (pairs w) axes)

abbrev pub capacity_of : (axes : ℕ) → List ℕ → ℕ
capacity_of axes w = get_or w (4 * axes) 0

-- the boundary, the capacity, and the tree without its place numbers
abbrev pub plan_of : Kind → Pieces → PTree 32 → Plan
plan_of k s t = record { boundary = boundary_of k.axes (words s.head); capacity = capacity_of k.axes (words s.head); root = erase (point_at k.axes (words s.points)) 32 t }

-- the pieces hold the sound tree a: "links that form a tree", "counts that match at each node" and "each unused place free once" are said of the places,
-- the root being node 1; the other clauses of soundness of the tree without place numbers
pub record Holds (k : Kind) (s : Pieces) (a : Plan) : Type 0 where
  pub tree : PTree 32
  pub free_groups : List ℕ
  pub free_places : List ℕ
  pub world : World 32 (ways k) (pool s.nodes s.links) 1 tree free_groups free_places
  pub each_group : (g : ℕ) → g ≢ 0 → 4 * kid (ways k) g (ways k) ≤ length (words s.nodes) → groups_at 32 g tree + occ g free_groups ≡ 1
  pub each_place : (p : ℕ) → p ≢ 0 → p < length (words s.links) → places_at 32 p tree + occ p free_places ≡ 1
  pub plan : a ≡ plan_of k s tree
  pub sound : Sound k a

-- which of the model's states the pieces are in
abbrev pub Says : Kind → Pieces → State → Type 0
Says k s misfit = Fits k s → ⊥
Says k s broken = Fits k s × ((a : Plan) → Holds k s a → ⊥)
Says k s (tree a) = Fits k s × Holds k s a

-- what the pieces are taken for by one who has not looked for a tree: where none is known, all pieces of the right length are alike
abbrev pub TakenFor : Kind → Pieces → State → Type 0
TakenFor k s misfit = Fits k s → ⊥
TakenFor k s broken = Fits k s
TakenFor k s (tree a) = Fits k s × Holds k s a

-- the pieces hold some sound tree
pub record Sane (k : Kind) (s : Pieces) : Type 0 where
  pub fits : Fits k s
  pub plan : Plan
  pub holds : Holds k s plan

-- a test says yes exactly when P holds
pub record Decides (r : Bool) (P : Type 0) : Type 0 where
  pub sure : r ≡ true → P
  pub only : P → r ≡ true

-- ---- calls
-- what a call gives, by its outcome: the reply number, the count, and the pieces afterwards. Place numbers are free: the pieces are in the state that is left.
-- "Refused calls change nothing"; a bulk that stops "keeps those before", and where it stored none it changed nothing
pub record Gives (k : Kind) (o : Outcome) (s s' : Pieces) (r n : ℕ) : Type 0 where
  pub reply : r ≡ number o.reply
  pub figure : n ≡ o.figure
  pub after : Says k s' o.state
  pub refused : number o.reply ≢ 0 → o.figure ≡ 0 → s' ≡ s

-- a call, whatever the pieces hold; and one on pieces that hold a sound tree
unfoldable pub Does : Kind → Call → Pieces → Pieces → (r n : ℕ) → Type 0
Does k c s s' r n = (a : State) → Says k s a → Gives k (step k a c) s s' r n

unfoldable pub DoesHeld : Kind → Call → Pieces → Pieces → (r n : ℕ) → Type 0
DoesHeld k c s s' r n = (a : Plan) → Says k s (tree a) → Gives k (step k (tree a) c) s s' r n

-- what a creation gives, by its outcome
pub record Makes (k : Kind) (o : Outcome) (s s' : Pieces) (r : ℕ) : Type 0 where
  pub reply : r ≡ number o.reply
  pub after : TakenFor k s' o.state
  pub refused : number o.reply ≢ 0 → s' ≡ s

-- a creation, "8 (only for pieces of wrong length)": it does not ask what lies in the others
unfoldable pub Creates : Kind → List Side → (capacity : ℕ) → Pieces → Pieces → (r : ℕ) → Type 0
Creates k b cap s s' r = (a : State) → TakenFor k s a → Makes k (step k a (Create b cap)) s s' r

-- ---- points in lent bytes: coordinates of 8 bytes each, x first, and payloads of 4, low byte first
unfoldable pub bytes : ℕ → ℕ → List ℕ
bytes zero v = []
bytes (suc n) v = (v % 256) ∷ bytes n (v / 256)

unfoldable pub coordinates : List Point → List ℕ
unfolding bytes flatten
coordinates ps = flatten (map (λ (p : Point). flatten (map (λ x. bytes 8 (to_bits binary64 x)) p.at)) ps)

unfoldable pub payloads : List Point → List ℕ
unfolding bytes flatten
payloads ps = flatten (map (λ (p : Point). bytes 4 p.payload) ps)

-- "the shortest counts"
abbrev pub room_for : (axes : ℕ) → List ℕ → List ℕ → ℕ
room_for axes cs ms = min (length cs / (8 * axes)) (length ms / 4)

-- the points that a bulk is lent
abbrev pub lent : (axes : ℕ) → List ℕ → List ℕ → List Point
lent axes cs ms = up_to (room_for axes cs ms) (λ i. record { at = floats axes (pairs (words cs)) (axes * i); payload = get_or (words ms) i 0 })

-- ---- queries: they change no piece
pub record Tells (o : Outcome) (r n : ℕ) : Type 0 where
  pub reply : r ≡ number o.reply
  pub figure : n ≡ o.figure

unfoldable pub Asks : Kind → Query → Pieces → (r n : ℕ) → Type 0
Asks k q s r n = (a : State) → Says k s a → Tells (step k a (Ask q)) r n

unfoldable pub AsksHeld : Kind → Query → Pieces → (r n : ℕ) → Type 0
AsksHeld k q s r n = (a : Plan) → Says k s (tree a) → Tells (step k (tree a) (Ask q)) r n

-- a search writes its answer to the lent slices: "the points in order: coordinates and payload, with a count; places after the last stay as they were"
pub record Hands (o : Outcome) (cs ms cs' ms' : List ℕ) (r n : ℕ) : Type 0 where
  pub reply : r ≡ number o.reply
  pub figure : n ≡ o.figure
  pub coordinates : cs' ≡ sets cs 0 (coordinates o.points)
  pub payloads : ms' ≡ sets ms 0 (payloads o.points)

unfoldable pub Searches : Kind → Query → Pieces → (cs ms cs' ms' : List ℕ) (r n : ℕ) → Type 0
Searches k q s cs ms cs' ms' r n = (a : State) → Says k s a → Hands (step k a (Ask q)) cs ms cs' ms' r n

unfoldable pub SearchesHeld : Kind → Query → Pieces → (cs ms cs' ms' : List ℕ) (r n : ℕ) → Type 0
SearchesHeld k q s cs ms cs' ms' r n = (a : Plan) → Says k s (tree a) → Hands (step k (tree a) (Ask q)) cs ms cs' ms' r n
