-- A deletion as a call on pieces that hold a tree: each test of the code is the model's, and what is left is the tree that the model leaves. Over any kind of tree. Assumes nothing.
use mathlib.Core.Path.{◌≡◌, refl, ap, sym, ◌∙◌, subst}
use mathlib.Core.Logic.{◌≢◌}
use mathlib.Core.Bool.{Bool, true, false, not}
use mathlib.Core.List.{List, [], ◌∷◌, ◌++◌, map}
use mathlib.Core.Option.{none, some}
use Prim.Native.Nat.{ℕ, ◌+◌, ◌*◌, ◌^◌, ◌<◌}
use native.Mathlib.Omega.{arith}
use lib.Dec.{T, eqb}
use lib.ListN.{length, get_or}
use borrow.Author.Tests.{eq-eqb, ne_eqb}
use Rattle.model.specs.Boxes.{Side, inside, route}
use Rattle.model.specs.Calls.{Delete, Kind, Outcome, Plan, absent, call, delete_call, give, number, outside, refuse, step, tree, ways, with_root}
use Rattle.model.specs.Soundness.{Sound}
use Rattle.model.specs.Trees.{Point, Tree, delete}
use Rattle.model.proofs.Calls.{Regular}
use Rattle.model.proofs.Counts.{route_lt}
use Rattle.model.proofs.Same.{given}
use Rattle.model.proofs.Short.{delete_s, filled, taken, without_s}
use Rattle.model.proofs.Sound.{F64Point, delete_sound, deleted_short}
use Rattle.words.specs.Words.{words}
use Rattle.words.proofs.Words.{length_words}
use Rattle.pool.specs.Lists.{Chain}
use Rattle.pool.specs.Meanings.{GivesPlace}
use Rattle.pool.specs.Read.{chain}
use Rattle.pool.specs.Trees.{PTree, erase}
use Rattle.pool.specs.Worlds.{World}
use Rattle.pool.specs.Writes.{pool}
use Rattle.pool.proofs.Chains.{no_zero}
use Rattle.pool.proofs.Lists.{is_same}
use Rattle.pool.proofs.Read.{list_is}
use Rattle.trees.specs.Pieces.{DoesHeld, Fits, Gives, Pieces, Says, boundary_of, capacity_of, pieces, plan_of}
use Rattle.trees.specs.Points.{point_at}
use Rattle.trees.proofs.Deletes.{Deletes, Shrunk, There}
use Rattle.trees.proofs.Descents.{Found, Spot, list_at, reach, reach_found, taken_at}
use Rattle.trees.proofs.Finds.{Place, Taken, equal, seek, seek_filled, seek_taken}
use Rattle.trees.proofs.Held.{Held, does_held, inside_as, plan_numbers, refusal, says_held, some_ways, whole}

chain_low : (l m x : List ℕ) (h p : ℕ) → Chain x h (l ++ (p ∷ m)) → p < length x
chain_low [] m x h p c = c.2
chain_low (q ∷ l) m x h p c = chain_low l m x (get_or x q 0) p c.3

-- ---- the ends of a deletion
module _ (k : Kind) (a : Plan) (p : Point) where
  delete_outside : inside a.boundary p.at ≡ false → step k (tree a) (Delete p) ≡ refuse outside (tree a)
  unfolding step call delete_call
  delete_outside e = rw (e, delete_call)

  delete_absent : inside a.boundary p.at ≡ true → delete k.order a.capacity 32 a.boundary p a.root ≡ none → step k (tree a) (Delete p) ≡ refuse absent (tree a)
  unfolding step call delete_call
  delete_absent e d = rw (e, d, delete_call)

  delete_done : (t : Tree 32) → inside a.boundary p.at ≡ true → delete k.order a.capacity 32 a.boundary p a.root ≡ some t → step k (tree a) (Delete p) ≡ give (tree (with_root a t)) 0
  unfolding step call delete_call
  delete_done t e d = rw (e, d, delete_call)

module _ (k : Kind) (rg : Regular k) (s : Pieces) (q : Point) (fq : F64Point q) (b : List Side) (r : Bool) (eb : b ≡ boundary_of k.axes (words s.head)) (er : r ≡ inside b q.at) where
  abbrev box : List Side
  box = boundary_of k.axes (words s.head)

  abbrev cap : ℕ
  cap = capacity_of k.axes (words s.head)

  abbrev at : ℕ → Point
  at = point_at k.axes (words s.points)

  pub deletes_outside : r ≡ false → DoesHeld k (Delete q) s s 1 0
  unfolding number
  deletes_outside z = does_held k (Delete q) s s 1 0
      (λ t fl fp f h. refusal k s (plan_of k s t) (step k (tree (plan_of k s t)) (Delete q)) outside 1 (says_held k s t fl fp f h) (delete_outside k (plan_of k s t) q (inside_as q.at eb er z)) refl)

  module _ (y : r ≡ true) (sp : Spot) (esp : sp ≡ reach (ways k) (words s.nodes) q.at 32 b 1) (c : ℕ) (ec : c ≡ get_or (words s.nodes) (4 * sp.node + 1) 0)
      (z : Place) (ez : z ≡ seek (equal at q) (chain (length (words s.links)) (words s.links) c) 0) where
    module _ (t : PTree 32) (fl fp : List ℕ) (f : Fits k s) (h : Held k s t fl fp) where
      abbrev list : List ℕ
      list = list_at q.at 32 box t

      found : Found (words s.nodes) (words s.links) q.at list sp
      found = subst (Found (words s.nodes) (words s.links) q.at list) (sym (esp ∙ ap (λ (u : List Side). reach (ways k) (words s.nodes) q.at 32 u 1) eb))
          (reach_found (ways k) (words s.nodes) (words s.links) q.at 32 box 1 t h.world.rep (λ p. omega (arith, h.world.places p)) (below box refl) below)
        where
          below : (e : List Side) → length e ≡ length box → route e q.at < ways k
          below e l = subst (λ (j : ℕ). route e q.at < j) (ap (λ (j : ℕ). 2 ^ j) l ∙ (whole k s t fl fp f h).axes) (route_lt e q.at)

      sought : z ≡ seek (equal at q) list 0
      sought = ez ∙ ap (λ (l : List ℕ). seek (equal at q) l 0) (ap (chain (length (words s.links)) (words s.links)) ec ∙ list_is (words s.nodes) (words s.links) sp.node list found.rep found.once)

      -- whether the model finds an equal point
      filled_is : filled (taken 32 box q (erase at 32 t)) ≡ not (eqb z.place 0)
      filled_is = ap filled (taken_at at q 32 box t) ∙ seek_filled at q list 0 (no_zero list (words s.links) (get_or (words s.nodes) (4 * sp.node + 1) 0) found.rep.2) ∙ ap (λ (u : Place). not (eqb u.place 0)) (sym sought)

      deleted : (v : Bool) → not (eqb z.place 0) ≡ v → delete k.order cap 32 box q (erase at 32 t) ≡ given v (delete_s k.order cap 32 box q (erase at 32 t))
      deleted v e = deleted_short k (plan_of k s t) (plan_numbers k s t) h.sound rg.0 q fq (subst T (sym (inside_as q.at eb er y)) tt) ∙ ap (λ (u : Bool). given u (delete_s k.order cap 32 box q (erase at 32 t))) (filled_is ∙ e)

      there : z.place ≢ 0 → There (ways k) cap k.order at q 32 box z.place z.before t
      there nz = subst (λ (u : Place). There (ways k) cap k.order at q 32 box u.place u.before t) (sym sought) (from (seek_taken at q list 0 (λ e. nz (ap (λ (u : Place). u.place) sought ∙ e))))
        where
          from : Taken at q list 0 (seek (equal at q) list 0) (without_s q (map at list)) → There (ways k) cap k.order at q 32 box (seek (equal at q) list 0).place (seek (equal at q) list 0).before t
          from g = record { front = g.front; back = g.back; whole = g.whole; behind = g.behind; gone = ap (λ (l : List ℕ). without_s q (map at l)) (sym g.whole) ∙ g.gone }

      place_low : z.place ≢ 0 → z.place < length (words s.links)
      place_low nz = let g = there nz in chain_low g.front g.back (words s.links) (get_or (words s.nodes) (4 * sp.node + 1) 0) z.place (subst (Chain (words s.links) (get_or (words s.nodes) (4 * sp.node + 1) 0)) g.whole found.rep.2)

    pub deletes_absent : z.place ≡ 0 → DoesHeld k (Delete q) s s 2 0
    unfolding number
    deletes_absent e = does_held k (Delete q) s s 2 0
        (λ t fl fp f h. refusal k s (plan_of k s t) (step k (tree (plan_of k s t)) (Delete q)) absent 2 (says_held k s t fl fp f h) (delete_absent k (plan_of k s t) q (inside_as q.at eb er y) (deleted t fl fp f h false (ap not (eq-eqb z.place 0 e)))) refl)

    module _ (nz : z.place ≢ 0) (o : ℕ) (eo : o ≡ cap) (n' x1 x' : List ℕ) (ln : length n' ≡ length s.nodes) (lx : length x' ≡ length s.links)
        (dl : Deletes (ways k) o k.order at q 32 b (pool s.nodes s.links) (pool n' x1) 1 z.place z.before) (gp : GivesPlace (words x1) (words x') z.place) where
      abbrev left : Pieces
      left = pieces s.head n' x' s.points

      shrunk : (t : PTree 32) (fl fp : List ℕ) → Fits k s → Held k s t fl fp → Shrunk (ways k) cap k.order at q 32 box (pool s.nodes s.links) (pool n' x1) 1 z.place t fl fp
      unfolding Deletes
      shrunk t fl fp f h =
          subst (λ (j : ℕ). Deletes (ways k) j k.order at q 32 box (pool s.nodes s.links) (pool n' x1) 1 z.place z.before) eo
          (subst (λ (u : List Side). Deletes (ways k) o k.order at q 32 u (pool s.nodes s.links) (pool n' x1) 1 z.place z.before) eb dl) t fl fp h.world
          (some_ways k s t fl fp f h) rg.0 (whole k s t fl fp f h).axes (whole k s t fl fp f h).good (there t fl fp f h nz)

      keep : (t : PTree 32) (fl fp : List ℕ) → Fits k s → Held k s t fl fp → Gives k (give (tree (with_root (plan_of k s t) (delete_s k.order cap 32 box q (erase at 32 t)))) 0) s left 0 0
      unfolding number GivesPlace
      keep t fl fp f h =
          let a = plan_of k s t in
          let sh = shrunk t fl fp f h in
          let p = z.place in
          let w : World 32 (ways k) (pool n' x') 1 sh.tree sh.free (p ∷ fp) = gp 32 (ways k) (words n') 1 sh.tree sh.free fp sh.world nz (omega (arith, sh.frame.len_x, place_low t fl fp f h nz)) (omega (arith, sh.places p, is_same p, h.world.places p)) in
          let f' : Fits k left = record { head = f.head; nodes = ln ∙ f.nodes; links = lx ∙ f.links; points = f.points } in
          let h' : Held k left sh.tree sh.free (p ∷ fp) = record {
            world = w;
            each_group = λ g nz le. sh.groups g ∙ h.each_group g nz (omega (arith, le, ln, length_words n', length_words s.nodes));
            each_place = λ u nz lt. omega (arith, sh.places u, h.each_place u nz (omega (arith, lt, lx, length_words x', length_words s.links)));
            sound = subst (λ (u : Tree 32). Sound k (with_root a u)) (sym sh.erased) (delete_sound k a (plan_numbers k s t) h.sound rg.0 q).0;
          } in
          record { reply = refl; figure = refl; after = subst (λ (u : Tree 32). Says k left (tree (with_root a u))) sh.erased (says_held k left sh.tree sh.free (p ∷ fp) f' h'); refused = λ ne o. absurd (ne refl) }

      pub deletes_done : DoesHeld k (Delete q) s left 0 0
      deletes_done = does_held k (Delete q) s left 0 0
          (λ t fl fp f h. subst (λ (u : Outcome). Gives k u s left 0 0) (sym (delete_done k (plan_of k s t) q (delete_s k.order cap 32 box q (erase at 32 t)) (inside_as q.at eb er y) (deleted t fl fp f h true (ap not (ne_eqb z.place 0 nz))))) (keep t fl fp f h))
