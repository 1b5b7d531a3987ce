-- A creation on any pieces, and a clearing of pieces that hold a tree. Over any kind of tree. Assumes nothing.
use mathlib.Core.Path.{◌≡◌, refl, ap, ap₂, sym, ◌∙◌, subst}
use mathlib.Core.Logic.{◌≢◌}
use mathlib.Core.Bool.{Bool, true, false}
use mathlib.Core.List.{List, [], zip_with}
use Prim.Native.Nat.{ℕ, zero, suc, ◌+◌, ◌-◌, ◌*◌, ◌/◌, ◌<◌, ◌≤◌}
use native.Mathlib.Nat.{mul-div_cancel_left}
use native.Mathlib.Omega.{arith}
use lib.Dec.{T, eqb}
use lib.Ieee.{Float}
use lib.ListN.{length}
use borrow.Author.Tests.{eq-eqb, ne_eqb}
use Rattle.model.specs.Boxes.{Side, acceptable}
use Rattle.model.specs.Calls.{Clear, Create, Kind, Outcome, Plan, Reply, State, bad_boundary, broken, call, create, empty, give, misfit, no_capacity, number, on_broken, refuse, step, tree, unsound, ways}
use Rattle.model.specs.Soundness.{All, Sound}
use Rattle.model.specs.Trees.{Tree}
use Rattle.model.proofs.Calls.{Regular, kept_empty}
use Rattle.model.proofs.Counts.{cond_same}
use Rattle.model.proofs.Inside.{F64, F64Side}
use Rattle.words.specs.Words.{words}
use Rattle.words.proofs.Words.{length_words}
use Rattle.pool.specs.Lists.{occ}
use Rattle.pool.specs.Meanings.{Empties, up_from}
use Rattle.pool.specs.Trees.{PTree, groups_at, none, places_at}
use Rattle.pool.specs.Worlds.{World}
use Rattle.pool.specs.Writes.{named, pool}
use Rattle.pool.proofs.Erase.{erase_flat}
use Rattle.pool.proofs.Lists.{by-eq, is_eq, pos}
use Rattle.pool.proofs.Theorems.{group_low}
use Rattle.pool.proofs.Trees.{groups_flat, places_flat}
use Rattle.trees.specs.Pieces.{Creates, Decides, Does, DoesHeld, Fits, Gives, Makes, Pieces, Says, TakenFor, boundary_of, capacity_of, pieces, plan_of}
use Rattle.trees.specs.Points.{point_at}
use Rattle.trees.proofs.Held.{Held, Roomy, does_held, links_long, nodes_long, plan_numbers, says_held, sides_f64, sides_length}
use Rattle.trees.proofs.Puts.{head_boundary, head_capacity, put_head}

up_in : (m a q : ℕ) → a ≤ q → q < a + m → 1 ≤ occ q (up_from a m)
up_in zero a q l h = absurd (omega (arith, l, h))
up_in (suc m) a q l h = by-eq q a (λ e. omega (arith, is_eq q a e)) (λ e. omega (arith, up_in m (suc a) q (omega (arith, l, e)) (omega (arith, h))))

-- each number from 1 to m is in a tree that has none or in the list of all
each_up : (m q a : ℕ) → a ≡ 0 → a + occ q (up_from 1 m) ≤ 1 → q ≢ 0 → q < suc m → a + occ q (up_from 1 m) ≡ 1
each_up m q a z le nz lt = omega (arith, z, le, up_in m 1 q (pos q nz) (omega (arith, lt)))

-- a kind of tree whose groups have names, and whose root is before the first
pub record Named (k : Kind) (m : ℕ) : Type 0 where
  pub roomy : Roomy k m
  pub few : suc m ≤ 4294967295
  pub low : 1 < ways k

-- ---- an empty tree
module _ (k : Kind) (m : ℕ) (nm : Named k m) (s : Pieces) (n' x' : List ℕ) (f : Fits k s) (ep : Empties (ways k) (pool s.nodes s.links) (pool n' x') 1) where
  rows : named (length (words s.nodes) / 4 / ways k) - 1 ≡ m
  rows = ap (λ (j : ℕ). named (j / ways k) - 1) quarter ∙ ap (λ (j : ℕ). named j - 1) (mul-div_cancel_left (suc m) (omega (arith, nm.low))) ∙ less nm.few
    where
      quarter : length (words s.nodes) / 4 ≡ ways k * suc m
      quarter = omega (arith, nodes_long k s m f nm.roomy)

      less : suc m ≤ 4294967295 → named (suc m) - 1 ≡ m
      less h = omega arith

  spots : named (length (words s.links)) - 1 ≡ 512
  spots = ap (λ (j : ℕ). named j - 1) (links_long k s f)

  blank : World 32 (ways k) (pool n' x') 1 (none 32) (up_from 1 m) (up_from 1 512)
  unfolding Empties
  blank = subst (λ (j : ℕ). World 32 (ways k) (pool n' x') 1 (none 32) (up_from 1 j) (up_from 1 512)) rows
      (subst (λ (j : ℕ). World 32 (ways k) (pool n' x') 1 (none 32) (up_from 1 (named (length (words s.nodes) / 4 / ways k) - 1)) (up_from 1 j)) spots
      (ep 32 (λ e. absurd (omega (arith, e))) nm.low (omega (arith, nodes_long k s m f nm.roomy, nm.low)) (omega (arith, links_long k s f))).0)

  module _ (h p' : List ℕ) (ln : length n' ≡ length s.nodes) (lx : length x' ≡ length s.links) (sd : Sound k (plan_of k (pieces h n' x' p') (none 32))) where
    blank_held : Held k (pieces h n' x' p') (none 32) (up_from 1 m) (up_from 1 512)
    blank_held = record {
      world = blank;
      each_group = λ g nz le. each_up m g (groups_at 32 g (none 32)) (groups_flat 32 g []) (blank.groups g) nz (group_low (ways k) m (words n') (omega (arith, nm.low)) (omega (arith, length_words n', length_words s.nodes, ln, nodes_long k s m f nm.roomy)) g le);
      each_place = λ q nz lt. each_up 512 q (places_at 32 q (none 32)) (places_flat 32 q []) (blank.places q) nz (omega (arith, lt, length_words x', length_words s.links, lx, links_long k s f));
      sound = sd;
    }

abbrev plan_as : List Side → ℕ → Tree 32 → Plan
plan_as b cap t = record { boundary = b; capacity = cap; root = t }

-- ---- a clearing
module _ (k : Kind) (m : ℕ) (nm : Named k m) (rg : Regular k) (s : Pieces) (n' x' : List ℕ) (ln : length n' ≡ length s.nodes) (lx : length x' ≡ length s.links)
    (ep : Empties (ways k) (pool s.nodes s.links) (pool n' x') 1) where
  abbrev left : Pieces
  left = pieces s.head n' x' s.points

  -- the empty tree has no place, so its points are of no account
  empty_plan : plan_of k left (none 32) ≡ empty (boundary_of k.axes (words s.head)) (capacity_of k.axes (words s.head))
  empty_plan = ap (plan_as (boundary_of k.axes (words s.head)) (capacity_of k.axes (words s.head))) (erase_flat (point_at k.axes (words s.points)) 32 [])

  clear_is : (a : Plan) → step k (tree a) Clear ≡ give (tree (empty a.boundary a.capacity)) 0
  unfolding step call
  clear_is a = refl

  pub clears : DoesHeld k Clear s left 0 0
  unfolding number
  clears = does_held k Clear s left 0 0 (λ t fl fp f h. subst (λ (o : Outcome). Gives k o s left 0 0) (sym (clear_is (plan_of k s t))) (record { reply = refl; figure = refl; after = says t fl fp f h; refused = λ ne o. absurd (ne refl) }))
    where
      says : (t : PTree 32) (fl fp : List ℕ) → Fits k s → Held k s t fl fp → Says k left (tree (empty (boundary_of k.axes (words s.head)) (capacity_of k.axes (words s.head))))
      says t fl fp f h =
          let f' : Fits k left = record { head = f.head; nodes = ln ∙ f.nodes; links = lx ∙ f.links; points = f.points } in
          let kp = kept_empty k (boundary_of k.axes (words s.head)) (capacity_of k.axes (words s.head)) rg (plan_numbers k s t).of_boundary h.sound.boundary.1 h.sound.capacity h.sound.boundary.0 in
          subst (λ (a : Plan). Says k left (tree a)) empty_plan (says_held k left (none 32) (up_from 1 m) (up_from 1 512) f' (blank_held k m nm s n' x' f ep s.head s.points ln lx (subst (Sound k) (sym empty_plan) kp.sound)))

-- ---- a creation
module _ (k : Kind) (s : Pieces) (b : List Side) (cap : ℕ) where
  -- pieces of the right length are taken for one of two states, and a creation does not ask which
  creates_by : (s' : Pieces) (r : ℕ) → Fits k s → ((a : State) → TakenFor k s a → Makes k (create a b cap) s s' r) → Creates k b cap s s' r
  unfolding Creates step call on_broken
  creates_by s' r f go misfit y = absurd (y f)
  creates_by s' r f go broken y = go broken y
  creates_by s' r f go (tree a) y = go (tree a) y

  refuses : (a : State) (rp : Reply) (r : ℕ) → TakenFor k s a → create a b cap ≡ refuse rp a → r ≡ number rp → Makes k (create a b cap) s s r
  refuses a rp r y e er = subst (λ (o : Outcome). Makes k o s s r) (sym e) (record { reply = er; after = y; refused = λ ne. refl })

  -- on pieces whose state is known it is a call like the others
  module _ (s' : Pieces) (r : ℕ) where
    left_as : (a : State) (rp : Reply) → number rp ≢ 0 → Says k s a → Makes k (refuse rp a) s s' r → Gives k (refuse rp a) s s' r 0
    left_as a rp n y g = record { reply = g.reply; figure = refl; after = subst (λ (t : Pieces). Says k t a) (sym (g.refused n)) y; refused = λ ne z. g.refused ne }

    create_gives : (a : State) → Says k s a → Makes k (create a b cap) s s' r → Gives k (create a b cap) s s' r 0
    unfolding create number
    create_gives a y =
        cond_same (λ (o : Outcome). Makes k o s s' r → Gives k o s s' r 0) (eqb cap 0) (refuse no_capacity a) _ (λ h. left_as a no_capacity (λ e. absurd (omega (arith, e))) y)
        (λ h. cond_same (λ (o : Outcome). Makes k o s s' r → Gives k o s s' r 0) (acceptable b) (give (tree (empty b cap)) 0) (refuse bad_boundary a)
        (λ i g. record { reply = g.reply; figure = refl; after = g.after; refused = λ ne z. g.refused ne })
        (λ i. left_as a bad_boundary (λ e. absurd (omega (arith, e))) y))

    pub creates_does : Creates k b cap s s' r → Does k (Create b cap) s s' r 0
    unfolding Creates Does step call on_broken number
    creates_does d misfit y = left_as misfit unsound (λ e. absurd (omega (arith, e))) y (d misfit y)
    creates_does d broken y = create_gives broken y (d broken y.0)
    creates_does d (tree a) y = create_gives (tree a) y (d (tree a) y)

  create_none : (a : State) → cap ≡ 0 → create a b cap ≡ refuse no_capacity a
  unfolding create
  create_none a e = let t : eqb cap 0 ≡ true = eq-eqb cap 0 e in rw (t, create)

  create_bad : (a : State) → cap ≢ 0 → acceptable b ≡ false → create a b cap ≡ refuse bad_boundary a
  unfolding create
  create_bad a e u = let t : eqb cap 0 ≡ false = ne_eqb cap 0 e in rw (t, u, create)

  create_done : (a : State) → cap ≢ 0 → acceptable b ≡ true → create a b cap ≡ give (tree (empty b cap)) 0
  unfolding create
  create_done a e u = let t : eqb cap 0 ≡ false = ne_eqb cap 0 e in rw (t, u, create)

  module _ (v : Bool) (fits : Decides v (Fits k s)) where
    pub creates_misfit : v ≡ false → Creates k b cap s s 8
    unfolding Creates step number
    creates_misfit e misfit y = record { reply = refl; after = y; refused = λ ne. refl }
    creates_misfit e broken y = absurd (subst T (sym (fits.only y) ∙ e) tt)
    creates_misfit e (tree a) y = absurd (subst T (sym (fits.only y.0) ∙ e) tt)

    module _ (yes : v ≡ true) where
      pub creates_none : cap ≡ 0 → Creates k b cap s s 3
      unfolding number
      creates_none e = creates_by s 3 (fits.sure yes) (λ a y. refuses a no_capacity 3 y (create_none a e) refl)

      module _ (some : cap ≢ 0) (u : Bool) (eu : u ≡ acceptable b) where
        pub creates_bad : u ≡ false → Creates k b cap s s 4
        unfolding number
        creates_bad e = creates_by s 4 (fits.sure yes) (λ a y. refuses a bad_boundary 4 y (create_bad a some (sym eu ∙ e)) refl)

        module _ (m : ℕ) (nm : Named k m) (rg : Regular k) (cs es : List Float) (eb : zip_with (λ c e. record { corner = c; extent = e }) cs es ≡ b) (ec : length cs ≡ k.axes) (ee : length es ≡ k.axes) (fc : All F64 cs) (fe : All F64 es)
            (h n' x' : List ℕ) (lh : length h ≡ length s.head) (ln : length n' ≡ length s.nodes) (lx : length x' ≡ length s.links) (eh : words h ≡ put_head k.axes (words s.head) cs es cap)
            (ep : Empties (ways k) (pool s.nodes s.links) (pool n' x') 1) where
          abbrev made : Pieces
          made = pieces h n' x' s.points

          room : Fits k s → 4 * k.axes < length (words s.head)
          room f = omega (arith, length_words s.head, f.head)

          made_plan : Fits k s → plan_of k made (none 32) ≡ empty b cap
          made_plan f =
              ap₂ (λ (u : List Side) (j : ℕ). plan_as u j (plan_of k made (none 32)).root) (ap (boundary_of k.axes) eh ∙ head_boundary k.axes (words s.head) cs es cap ec ee (room f) fc fe ∙ eb) (ap (capacity_of k.axes) eh ∙ head_capacity k.axes (words s.head) cs es cap ec ee (room f))
              ∙ ap (plan_as b cap) (erase_flat (point_at k.axes (words s.points)) 32 [])

          pub creates_done : u ≡ true → Creates k b cap s made 0
          unfolding number
          creates_done e = creates_by made 0 (fits.sure yes) (λ a y. subst (λ (o : Outcome). Makes k o s made 0) (sym (create_done a some (sym eu ∙ e))) (record { reply = refl; after = says (fits.sure yes); refused = λ ne. absurd (ne refl) }))
            where
              says : Fits k s → Says k made (tree (empty b cap))
              says f =
                  let f' : Fits k made = record { head = lh ∙ f.head; nodes = ln ∙ f.nodes; links = lx ∙ f.links; points = f.points } in
                  let kp = kept_empty k b cap rg (subst (All F64Side) eb (sides_f64 cs es fc fe)) (ap (λ (l : List Side). length l) (sym eb) ∙ sides_length k.axes cs es ec ee) (pos cap some) (subst T (sym (sym eu ∙ e)) tt) in
                  subst (λ (a : Plan). Says k made (tree a)) (made_plan f) (says_held k made (none 32) (up_from 1 m) (up_from 1 512) f' (blank_held k m nm s n' x' f ep h s.points ln lx (subst (Sound k) (sym (made_plan f)) kp.sound)))
