-- Calls: each is done or refused, and what every call keeps. Over any number of axes and any merge order. Assumes nothing.
use Prim.Native.Nat.{ℕ, ◌≤◌, zero-le, min}
use native.Mathlib.Nat.{le_trans, le_of_eq}
use native.Mathlib.Omega.{arith}
use mathlib.Core.Path.{◌≡◌, refl, ap, sym, ◌∙◌, subst}
use mathlib.Core.Logic.{◌⊎◌, inl, inr}
use mathlib.Core.Bool.{Bool, true, false}
use mathlib.Core.List.{List, []}
use mathlib.Core.Option.{Option, none, some}
use lib.ListN.{length}
use lib.Dec.{T, leb, ltb, eqb, leb→le, ltb→lt, lit≤}
use Rattle.model.specs.Boxes.{Side, acceptable, inside}
use Rattle.model.specs.Calls.{Ask, Box, Bulk, Call, Clear, Contains, Create, Delete, Insert, IsEmpty, Kind, Len, Nearest, Outcome, Plan, Query, Radius, State, absent, ask, bad_boundary, broken, call, create, delete_call, done, empty, full, give, insert_call, misfit, no_capacity, no_nodes, no_room, octree, on_broken, outside, quadtree, refuse, search_call, step, tree, ways, with_root}
use Rattle.model.specs.Searches.{box, nearest, radius}
use Rattle.model.specs.Soundness.{All, Sound}
use Rattle.model.specs.Trees.{Point, Tree, bag, count, delete, held, insert, nodes}
use Rattle.model.proofs.Counts.{Order, cond_same, good_bag, held_bag, oct_order, quad_order}
use Rattle.model.proofs.Inside.{F64Side}
use Rattle.model.proofs.Lists.{tally, tally_true}
use Rattle.model.proofs.Room.{delete_nodes, nodes_bag}
use Rattle.model.proofs.Same.{given}
use Rattle.model.proofs.Short.{delete_s, filled, taken}
use Rattle.model.proofs.Sound.{Clauses, F64Point, Numbers, delete_sound, deleted_short, deleted_tally, from_good, inner, insert_sound, inserted_tally}

-- ---- a call is done, or it is refused: then it gives its number and nothing else changes. Bulk alone keeps what it stored
abbrev pub NotBulk : Call → Type 0
NotBulk (Create b cap) = Unit {0}
NotBulk (Insert p) = Unit {0}
NotBulk (Bulk ps) = ⊥
NotBulk (Delete p) = Unit {0}
NotBulk Clear = Unit {0}
NotBulk (Ask q) = Unit {0}

abbrev pub Settled : State → Outcome → Type 0
Settled s o = (o.reply ≡ done) ⊎ (o ≡ refuse o.reply s)

create_settled : (s : State) (b : List Side) (cap : ℕ) → Settled s (create s b cap)
unfolding create
create_settled s b cap =
    cond_same (Settled s) (eqb cap 0) (refuse no_capacity s) _ (λ h. inr refl)
    (λ h. cond_same (Settled s) (acceptable b) (give (tree (empty b cap)) 0) (refuse bad_boundary s) (λ h. inl refl) (λ h. inr refl))

-- the four ends of an insert
module _ (k : Kind) (a : Plan) (p : Point) where
  abbrev pub after : Tree 32
  after = insert (ways k) a.capacity 32 a.boundary p a.root

  pub insert_ends : (P : Outcome → Type 0) → P (refuse outside (tree a)) → P (refuse full (tree a)) → P (refuse no_nodes (tree a))
      → (T (inside a.boundary p.at) → T (ltb (count 32 a.root) 512) → T (leb (nodes 32 after) k.most) → P (give (tree (with_root a after)) 0))
      → P (insert_call k a p)
  unfolding insert_call
  insert_ends P x y z g =
      cond_same P (inside a.boundary p.at) _ (refuse outside (tree a))
      (λ h. cond_same P (ltb (count 32 a.root) 512) _ (refuse full (tree a)) (λ l. cond_same P (leb (nodes 32 after) k.most) (give (tree (with_root a after)) 0) (refuse no_nodes (tree a)) (λ m. g h l m) (λ m. z)) (λ l. y))
      (λ h. x)

  -- the three ends of a delete
  pub delete_ends : (P : Outcome → Type 0) → P (refuse outside (tree a)) → P (refuse absent (tree a))
      → ((t : Tree 32) → T (inside a.boundary p.at) → delete k.order a.capacity 32 a.boundary p a.root ≡ some t → P (give (tree (with_root a t)) 0))
      → P (delete_call k a p)
  unfolding delete_call
  delete_ends P x y g =
      cond_same P (inside a.boundary p.at) _ (refuse outside (tree a)) (λ h. go (delete k.order a.capacity 32 a.boundary p a.root) refl h) (λ h. x)
    where
      go : (u : Option (Tree 32)) → delete k.order a.capacity 32 a.boundary p a.root ≡ u → T (inside a.boundary p.at)
          → P (elim u as (λ z. Outcome) [ none ↦ refuse absent (tree a) | some t ↦ give (tree (with_root a t)) 0 ])
      go none e h = y
      go (some t) e h = g t h e

search_settled : (a : Plan) (n : ℕ) (ps : List Point) → Settled (tree a) (search_call a n ps)
unfolding search_call
search_settled a n ps = cond_same (Settled (tree a)) (leb (length ps) n) (record { reply = done; state = tree a; figure = length ps; points = ps }) (refuse no_room (tree a)) (λ h. inl refl) (λ h. inr refl)

ask_settled : (a : Plan) (q : Query) → Settled (tree a) (ask a q)
unfolding ask
ask_settled a (Contains p) = inl refl
ask_settled a Len = inl refl
ask_settled a IsEmpty = inl refl
ask_settled a (Radius c r m) = search_settled a m (radius c r 32 a.root)
ask_settled a (Box q m) = search_settled a m (box q 32 a.root)
ask_settled a (Nearest c j m) = search_settled a m (nearest (min j 512) c 32 a.boundary a.root)

call_settled : (k : Kind) (a : Plan) (c : Call) → NotBulk c → Settled (tree a) (call k a c)
unfolding call
call_settled k a (Create b cap) n = create_settled (tree a) b cap
call_settled k a (Insert p) n = insert_ends k a p (Settled (tree a)) (inr refl) (inr refl) (inr refl) (λ h l m. inl refl)
call_settled k a (Bulk ps) n = absurd n
call_settled k a (Delete p) n = delete_ends k a p (Settled (tree a)) (inr refl) (inr refl) (λ t h e. inl refl)
call_settled k a Clear n = inl refl
call_settled k a (Ask q) n = ask_settled a q

pub done_or_refused : (k : Kind) (s : State) (c : Call) → NotBulk c → Settled s (step k s c)
unfolding step on_broken
done_or_refused k misfit c n = inr refl
done_or_refused k broken (Create b cap) n = create_settled broken b cap
done_or_refused k broken (Insert p) n = inr refl
done_or_refused k broken (Bulk ps) n = inr refl
done_or_refused k broken (Delete p) n = inr refl
done_or_refused k broken Clear n = inr refl
done_or_refused k broken (Ask q) n = inr refl
done_or_refused k (tree a) c n = call_settled k a c n

-- ---- what every call keeps
pub record Kept (k : Kind) (a : Plan) : Type 0 where
  pub numbers : Numbers a
  pub sound : Sound k a
  pub few : count 32 a.root ≤ 512
  pub low : nodes 32 a.root ≤ k.most

-- the numbers of a call are those of f64, and a boundary has a side for each axis
abbrev pub Proper : Kind → Call → Type 0
Proper k (Create b cap) = All F64Side b × (length b ≡ k.axes)
Proper k (Insert p) = F64Point p
Proper k (Bulk ps) = All F64Point ps
Proper k (Delete p) = F64Point p
Proper k Clear = Unit {0}
Proper k (Ask q) = Unit {0}

-- what is asked of a kind of tree: the merge order takes every child once, and there is room for a root
abbrev pub Regular : Kind → Type 0
Regular k = Order (ways k) k.order × (1 ≤ k.most)

pub quadtree_regular : Regular quadtree
quadtree_regular = (quad_order, lit≤ tt)

pub octree_regular : Regular octree
octree_regular = (oct_order, lit≤ tt)

count_tally : (t : Tree 32) → count 32 t ≡ tally (λ x. true) (held 32 t)
unfolding count
count_tally t = sym (tally_true (held 32 t))

pub none_held : count 32 (bag 32 []) ≡ 0
unfolding count
none_held = ap length (held_bag 32 [])

pub kept_empty : (k : Kind) (b : List Side) (cap : ℕ) → Regular k → All F64Side b → length b ≡ k.axes → 1 ≤ cap → T (acceptable b) → Kept k (empty b cap)
kept_empty k b cap r q e c h = record {
  numbers = record { of_boundary = q; of_points = subst (All F64Point) (sym (held_bag 32 [])) tt };
  sound = record { boundary = (h, e); capacity = c; all_or_none = z.0; routed = z.1; all_inside = subst (All (λ (p : Point). T (inside b p.at))) (sym (held_bag 32 [])) tt; leaves_fit = z.2; branches_full = z.3 };
  few = le_trans (le_of_eq none_held) zero-le;
  low = le_trans (le_of_eq (nodes_bag 32 [])) r.1;
}
  where
    z : Clauses (ways k) cap 32 b (bag 32 [])
    z = from_good (ways k) cap 32 b (bag 32 []) (good_bag (ways k) cap 32 b [] zero-le)

module _ (k : Kind) (a : Plan) (m : Kept k a) (p : Point) (n : F64Point p) where
  pub kept_insert : T (inside a.boundary p.at) → T (ltb (count 32 a.root) 512) → T (leb (nodes 32 (after k a p)) k.most) → Kept k (with_root a (after k a p))
  kept_insert h l o =
      let s = insert_sound k a m.numbers m.sound p n h in
      let all : Point → Bool = λ x. true in
      record {
        numbers = s.1;
        sound = s.0;
        few = omega (arith, count_tally (after k a p), count_tally a.root, inserted_tally k a m.numbers m.sound p all, ltb→lt (count 32 a.root) 512 l);
        low = leb→le (nodes 32 (after k a p)) k.most o;
      }

  module _ (r : Regular k) where
    abbrev pub rid : Tree 32
    rid = delete_s k.order a.capacity 32 a.boundary p a.root

    -- a successful delete: one point is taken out, and the tree is the short form's
    pub deleted : (t : Tree 32) → T (inside a.boundary p.at) → delete k.order a.capacity 32 a.boundary p a.root ≡ some t → T (filled (taken 32 a.boundary p a.root)) × (t ≡ rid)
    deleted t h e = go (filled (taken 32 a.boundary p a.root)) (sym e ∙ deleted_short k a m.numbers m.sound r.0 p n h)
      where
        go : (u : Bool) → some t ≡ given u rid → T u × (t ≡ rid)
        go true i = (tt, cc)
        go false i = let z : ◌≡◌ {A = ℕ} 0 1 = cc in absurd (omega arith)

    pub kept_delete : Kept k (with_root a rid)
    kept_delete =
        let s = delete_sound k a m.numbers m.sound r.0 p in
        let all : Point → Bool = λ x. true in
        let i = inner k a m.numbers m.sound in
        record {
          numbers = s.1;
          sound = s.0;
          few = omega (arith, count_tally rid, count_tally a.root, deleted_tally k a m.numbers m.sound r.0 p all, m.few);
          low = le_trans (delete_nodes (ways k) a.capacity k.order 32 a.boundary p a.root i.axes i.good) m.low;
        }
