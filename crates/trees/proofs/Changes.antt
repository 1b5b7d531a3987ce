-- An insertion as a call on pieces that hold a tree: each test of the code is the model's, and what is left is the tree that the model leaves. Over any kind of tree. Assumes nothing.
use mathlib.Core.Path.{◌≡◌, refl, ap, ap₂, sym, ◌∙◌, subst}
use mathlib.Core.Bool.{Bool, true, false}
use mathlib.Core.List.{List, [], ◌∷◌, map}
use Prim.Native.Nat.{ℕ, zero, suc, ◌+◌, ◌*◌, ◌/◌, ◌^◌, ◌<◌, ◌≤◌}
use native.Mathlib.Nat.{mul-le-mul_left}
use native.Mathlib.Omega.{arith}
use lib.Dec.{leb, leb→le, ltb, T}
use lib.Ieee.{Float}
use lib.ListN.{length, get_or, length-set}
use borrow.Author.Tests.{le-leb, le-ltb, lt-leb, lt-ltb}
use Rattle.model.specs.Boxes.{Side, inside, part, route}
use Rattle.model.specs.Calls.{Insert, Kind, Outcome, Plan, call, full, give, insert_call, no_nodes, number, outside, refuse, step, tree, ways, with_root}
use Rattle.model.specs.Soundness.{Sound}
use Rattle.model.specs.Trees.{Point, Tree, count, nodes}
use Rattle.model.proofs.Counts.{Good, in_range, part_ways, route_lt}
use Rattle.model.proofs.Calls.{after}
use Rattle.model.proofs.Room.{needed, splits}
use Rattle.model.proofs.Same.{insert_is}
use Rattle.model.proofs.Short.{insert_s}
use Rattle.model.proofs.Sound.{F64Point, insert_sound}
use Rattle.model.proofs.Theorems.{nodes_needed}
use Rattle.words.specs.Words.{words}
use Rattle.words.proofs.Words.{length_words}
use Rattle.pool.specs.Lists.{is, occ}
use Rattle.pool.specs.Meanings.{TakesPlace, Tells}
use Rattle.pool.specs.Trees.{leaf, branch, PTree, erase, groups_at, none, places_at, size}
use Rattle.pool.specs.Worlds.{Rep, World}
use Rattle.pool.specs.Writes.{Pool, both, kid, pool, popped}
use Rattle.pool.proofs.Erase.{erase_agree}
use Rattle.pool.proofs.Lists.{by_lt, ifz-no, ifz-yes, is_same}
use Rattle.pool.proofs.Trees.{group_count}
use Rattle.trees.specs.Pieces.{DoesHeld, Fits, Gives, Pieces, Says, boundary_of, capacity_of, pieces, plan_of}
use Rattle.trees.specs.Points.{point_at}
use Rattle.trees.proofs.Descents.{Found, Needs, Spot, child_erase, list_at, reach, reach_found}
use Rattle.trees.proofs.Held.{Held, Roomy, does_held, groups_held, inside_as, links_long, nodes_held, places_held, plan_numbers, refusal, says_held, size_held, size_read, some_ways, whole}
use Rattle.trees.proofs.Inserts.{Fills, Inserts, inserts_along}
use Rattle.trees.proofs.Puts.{point_back, point_other, put_point}
use Rattle.trees.proofs.Ways.{counted_all, way}

-- ---- the splits that are counted at the node where the way down ends
module _ (ways cap : ℕ) (pt : ℕ → Point) (q : Point) (n x : List ℕ) where
  abbrev counted : (d : ℕ) → List Side → PTree d → Spot → Type 0
  counted d b t s = needed cap d b q (erase pt d t) ≡ splits cap s.levels s.box q (map pt (list_at q.at d b t))

  needed_at : (d : ℕ) (b : List Side) (i : ℕ) (t : PTree d) → Rep d ways n x i t → 2 ^ length b ≡ ways → counted d b t (reach ways n q.at d b i)
  unfolding reach list_at needed splits erase
  needed_at zero b i l r eb = refl
  needed_at (suc d) b i (leaf l) r eb = subst (counted (suc d) b (leaf l)) (sym (ifz-yes (get_or n (4 * i) 0) _ _ r.1)) refl
  needed_at (suc d) b i (branch g ts) r eb =
      subst (counted (suc d) b (branch g ts)) (sym (ifz-no (get_or n (4 * i) 0) _ _ (λ e. r.2 (sym r.1 ∙ e)) ∙ ap (λ (u : ℕ). reach ways n q.at d (part b (route b q.at)) (kid ways u (route b q.at))) r.1))
      (ap (needed cap d (part b (route b q.at)) q) (child_erase pt d ts (route b q.at))
      ∙ needed_at d (part b (route b q.at)) (kid ways g (route b q.at)) (get_or ts (route b q.at) (none d)) (r.5 (route b q.at) (in_range ways cap b q ways eb refl)) (part_ways ways cap b (route b q.at) eb))

-- ---- whether there are groups for what an insertion takes
module _ (ways cap : ℕ) (pt : ℕ → Point) (v : List Float) (n x : List ℕ) (d : ℕ) (b : List Side) (i : ℕ) where
  unfoldable pub Rooms : Bool → Type 0
  Rooms r = (m : ℕ) (t : PTree d) (fl fp : List ℕ) → World d ways (both n x) i t fl fp → 2 ^ length b ≡ ways → r ≡ leb (needed cap d b (record { at = v; payload = m }) (erase pt d t)) (length fl)

  pub rooms : (sp : Spot) (k : ℕ) (r : Bool) → sp ≡ reach ways n v d b i → Needs cap pt v n x sp.node sp.levels sp.box k → Tells ways n k r → Rooms r
  unfolding Rooms Needs Tells
  rooms sp k r e nd tl m t fl fp w eb =
      tl d x i t fl fp w ∙ ap (λ (j : ℕ). leb j (length fl)) (nd m (list_at v d b t) at.rep at.once ∙ sym (subst (counted ways cap pt q n x d b t) (sym e) (needed_at ways cap pt q n x d b i t w.rep eb)))
    where
      q : Point
      q = record { at = v; payload = m }

      below : (c : List Side) → length c ≡ length b → route c v < ways
      below c l = subst (λ (j : ℕ). route c v < j) (ap (λ (j : ℕ). 2 ^ j) l ∙ eb) (route_lt c v)

      at : Found n x v (list_at v d b t) sp
      at = subst (Found n x v (list_at v d b t)) (sym e) (reach_found ways n x v d b i t w.rep (λ p. omega (arith, w.places p)) (below b refl) below)

-- ---- the ends of an insertion
module _ (k : Kind) (a : Plan) (p : Point) where
  pub insert_outside : inside a.boundary p.at ≡ false → step k (tree a) (Insert p) ≡ refuse outside (tree a)
  unfolding step call insert_call
  insert_outside e = rw (e, insert_call)

  pub insert_full : inside a.boundary p.at ≡ true → ltb (count 32 a.root) 512 ≡ false → step k (tree a) (Insert p) ≡ refuse full (tree a)
  unfolding step call insert_call
  insert_full e c = rw (e, c, insert_call)

  pub insert_crowded : inside a.boundary p.at ≡ true → ltb (count 32 a.root) 512 ≡ true → leb (nodes 32 (after k a p)) k.most ≡ false → step k (tree a) (Insert p) ≡ refuse no_nodes (tree a)
  unfolding step call insert_call
  insert_crowded e c l = rw (e, c, l, insert_call)

  pub insert_done : inside a.boundary p.at ≡ true → ltb (count 32 a.root) 512 ≡ true → leb (nodes 32 (after k a p)) k.most ≡ true → step k (tree a) (Insert p) ≡ give (tree (with_root a (after k a p))) 0
  unfolding step call insert_call
  insert_done e c l = rw (e, c, l, insert_call)

-- ---- a free place is taken, the point is written there, and it goes into the tree
module _ (axes ways cap d : ℕ) (b : List Side) (i : ℕ) (q : Point) where
  pub record Stored (r : Pool) (w w' : List ℕ) (t : PTree d) (fl : List ℕ) (p : ℕ) (fp : List ℕ) : Type 0 where
    pub tree : PTree d
    pub free : List ℕ
    pub world : World d ways r i tree free fp
    pub erased : erase (point_at axes w') d tree ≡ insert_s ways cap d b q (erase (point_at axes w) d t)
    pub groups : (g : ℕ) → groups_at d g tree + occ g free ≡ groups_at d g t + occ g fl
    pub places : (v : ℕ) → places_at d v tree + occ v fp ≡ places_at d v t + occ v (p ∷ fp)

  unfoldable pub Stores : Pool → Pool → List ℕ → List ℕ → Type 0
  Stores s r w w' =
      (t : PTree d) (fl : List ℕ) (p : ℕ) (fp : List ℕ) → World d ways s i t fl (p ∷ fp) → 0 < ways → 2 ^ length b ≡ ways → Good ways cap d b (erase (point_at axes w) d t)
      → needed cap d b q (erase (point_at axes w) d t) ≤ length fl → length s.links ≤ 513 → size d t + 1 < 4294967296 → (axes + 1) * p + axes < length w / 2 → Stored r w w' t fl p fp

  module _ (s r : Pool) (x w w' : List ℕ) (p' : ℕ) (ex : x ≡ popped s.links) (tk : TakesPlace s.links x p') (ew : w' ≡ put_point axes w p' q) (eq : length q.at ≡ axes) (fq : F64Point q)
      (sp : Spot) (esp : sp ≡ reach ways s.nodes q.at d b i) (n : List ℕ) (en : n ≡ counted_all s.nodes (way ways s.nodes q.at d b i))
      (go : length x ≤ 513 → Fills ways cap (point_at axes w') sp.levels sp.box (both n x) r sp.node p') where
    lx : length x ≡ length s.links
    unfolding popped
    lx = ap (λ (l : List ℕ). length l) ex ∙ length-set s.links 0 (get_or s.links (get_or s.links 0 0) 0)

    -- the place that is written is not in the tree
    same_tree : (t : PTree d) → places_at d p' t ≡ 0 → erase (point_at axes w') d t ≡ erase (point_at axes w) d t
    same_tree t o = erase_agree (point_at axes w') (point_at axes w) d t (λ u nz. ap (λ (v : List ℕ). point_at axes v u) ew ∙ point_other axes w p' q eq u (λ e. nz (ap (λ (v : ℕ). places_at d v t) e ∙ o)))

    -- the way was gone before the point was written, and is the way of that point
    inserted : length x ≤ 513 → point_at axes w' p' ≡ q → Inserts ways cap (point_at axes w') d b (both s.nodes x) r i p'
    inserted few at = inserts_along ways cap (point_at axes w') r p' d b (both s.nodes x) i
        (subst (λ (v : List Float). Fills ways cap (point_at axes w') (reach ways s.nodes v d b i).levels (reach ways s.nodes v d b i).box (both (counted_all s.nodes (way ways s.nodes v d b i)) x) r (reach ways s.nodes v d b i).node p') (sym (ap (λ (u : Point). u.at) at))
        (subst (λ (e : Spot). Fills ways cap (point_at axes w') e.levels e.box (both (counted_all s.nodes (way ways s.nodes q.at d b i)) x) r e.node p') esp (subst (λ (m : List ℕ). Fills ways cap (point_at axes w') sp.levels sp.box (both m x) r sp.node p') en (go few))))

    pub stores : Stores s r w w'
    unfolding Stores TakesPlace Inserts
    stores t fl p fp wd lw eb gd le few sz room =
        let tp = (tk d ways s.nodes i t fl (p ∷ fp) wd).1 p fp refl in
        done tp.0 tp.1
      where
        done : p' ≡ p → World d ways (both s.nodes x) i t fl fp → Stored r w w' t fl p fp
        done ep w1 =
            let o : places_at d p' t + occ p' fp ≡ 0 = ap (λ (u : ℕ). places_at d u t + occ u fp) ep ∙ (omega (arith, wd.places p, is_same p)) in
            let same : erase (point_at axes w') d t ≡ erase (point_at axes w) d t = same_tree t (omega (arith, o)) in
            let at : point_at axes w' p' ≡ q = ap (λ (v : List ℕ). point_at axes v p') ew ∙ point_back axes w p' q eq fq (subst (λ (u : ℕ). (axes + 1) * u + axes < length w / 2) (sym ep) room) in
            let need : needed cap d b (point_at axes w' p') (erase (point_at axes w') d t) ≡ needed cap d b q (erase (point_at axes w) d t) = ap₂ (needed cap d b) at same in
            let gr = inserted (omega (arith, few, lx)) at t fl fp w1
            (record { out = o; nonzero = λ z. wd.spare.1 (sym ep ∙ z); inside = omega (arith, ep, lx, wd.spare.2); few = sz }) lw eb (subst (Good ways cap d b) (sym same) gd) (omega (arith, need, le)) in
            record {
              tree = gr.tree;
              free = gr.free;
              world = gr.world;
              erased = gr.erased ∙ ap₂ (insert_s ways cap d b) at same;
              groups = gr.groups;
              places = λ v. omega (arith, gr.places v, ap (is v) ep);
            }

-- ---- an insertion as a call
module _ (k : Kind) (m : ℕ) (em : Roomy k m) (s : Pieces) (q : Point) where
  abbrev box : List Side
  box = boundary_of k.axes (words s.head)

  abbrev cap : ℕ
  cap = capacity_of k.axes (words s.head)

  abbrev at : ℕ → Point
  at = point_at k.axes (words s.points)

  pub inserts_outside : (b : List Side) (r : Bool) → b ≡ box → r ≡ inside b q.at → r ≡ false → DoesHeld k (Insert q) s s 1 0
  unfolding number
  inserts_outside b r eb er z = does_held k (Insert q) s s 1 0
      (λ t fl fp f h. refusal k s (plan_of k s t) (step k (tree (plan_of k s t)) (Insert q)) outside 1 (says_held k s t fl fp f h) (insert_outside k (plan_of k s t) q (inside_as q.at eb er z)) refl)

  module _ (b : List Side) (r : Bool) (eb : b ≡ box) (er : r ≡ inside b q.at) (y : r ≡ true) (c : ℕ) (ec : c ≡ get_or (words s.nodes) (4 * 1 + 3) 0) where
    pub inserts_full : 512 ≤ c → DoesHeld k (Insert q) s s 5 0
    unfolding number
    inserts_full h5 = does_held k (Insert q) s s 5 0
        (λ t fl fp f h. refusal k s (plan_of k s t) (step k (tree (plan_of k s t)) (Insert q)) full 5 (says_held k s t fl fp f h)
        (insert_full k (plan_of k s t) q (inside_as q.at eb er y) (le-ltb (count 32 (plan_of k s t).root) 512 (omega (arith, h5, ec, size_read k s t fl fp f h, size_held k s t fl fp f h)))) refl)

    module _ (few : c < 512) (o : ℕ) (eo : o ≡ cap) (v : Bool) (rm : Rooms (ways k) o at q.at (words s.nodes) (words s.links) 32 b 1 v) where
      roomy : (t : PTree 32) (fl fp : List ℕ) → Fits k s → Held k s t fl fp → v ≡ leb (needed cap 32 box q (erase at 32 t)) (length fl)
      unfolding Rooms
      roomy t fl fp f h =
          rm q.payload t fl fp h.world (ap (λ (u : List Side). 2 ^ length u) eb ∙ (whole k s t fl fp f h).axes)
          ∙ ap₂ (λ (j : ℕ) (u : List Side). leb (needed j 32 u q (erase at 32 t)) (length fl)) eo eb

      -- groups that are free are nodes that may come
      room_is : (t : PTree 32) (fl fp : List ℕ) → Fits k s → Held k s t fl fp → leb (nodes 32 (after k (plan_of k s t) q)) k.most ≡ v
      room_is t fl fp f h = by_lt (length fl) need
          (λ lt. lt-leb (nodes 32 (after k (plan_of k s t) q)) k.most (over lt) ∙ sym (roomy t fl fp f h ∙ lt-leb need (length fl) lt))
          (λ le. le-leb (nodes 32 (after k (plan_of k s t) q)) k.most (under le) ∙ sym (roomy t fl fp f h ∙ le-leb need (length fl) le))
        where
          need : ℕ
          need = needed cap 32 box q (erase at 32 t)

          groups : ℕ
          groups = group_count 32 t

          all : nodes 32 (after k (plan_of k s t) q) ≡ suc (ways k * groups) + ways k * need
          all = nodes_needed k (plan_of k s t) (plan_numbers k s t) h.sound q ∙ ap (λ (u : ℕ). u + ways k * need) (nodes_held k s t fl fp f h m em)

          under : need ≤ length fl → nodes 32 (after k (plan_of k s t) q) ≤ k.most
          under le = omega (arith, all, em, mul-le-mul_left (ways k) (sum_le le))
            where
              sum_le : need ≤ length fl → groups + need ≤ m
              sum_le le = omega (arith, le, groups_held k s t fl fp f h m em)

          over : length fl < need → k.most < nodes 32 (after k (plan_of k s t) q)
          over lt = omega (arith, all, em, some_ways k s t fl fp f h, mul-le-mul_left (ways k) (sum_lt lt))
            where
              sum_lt : length fl < need → suc m ≤ groups + need
              sum_lt lt = omega (arith, lt, groups_held k s t fl fp f h m em)

      fewer : (t : PTree 32) (fl fp : List ℕ) → Fits k s → Held k s t fl fp → size 32 t < 512
      fewer t fl fp f h = omega (arith, few, ec, size_read k s t fl fp f h)

      counts : (t : PTree 32) (fl fp : List ℕ) → Fits k s → Held k s t fl fp → ltb (count 32 (plan_of k s t).root) 512 ≡ true
      counts t fl fp f h = lt-ltb (count 32 (plan_of k s t).root) 512 (omega (arith, fewer t fl fp f h, size_held k s t fl fp f h))

      pub inserts_crowded : v ≡ false → DoesHeld k (Insert q) s s 6 0
      unfolding number
      inserts_crowded z = does_held k (Insert q) s s 6 0
          (λ t fl fp f h. refusal k s (plan_of k s t) (step k (tree (plan_of k s t)) (Insert q)) no_nodes 6 (says_held k s t fl fp f h)
          (insert_crowded k (plan_of k s t) q (inside_as q.at eb er y) (counts t fl fp f h) (room_is t fl fp f h ∙ z)) refl)

      module _ (n' x' w' : List ℕ) (yes : v ≡ true) (ln : length n' ≡ length s.nodes) (lx : length x' ≡ length s.links) (lp : length w' ≡ length s.points)
          (st : Stores k.axes (ways k) o 32 b 1 q (pool s.nodes s.links) (pool n' x') (words s.points) (words w')) (fq : F64Point q) where
        abbrev left : Pieces
        left = pieces s.head n' x' w'

        stored : (t : PTree 32) (fl : List ℕ) (p : ℕ) (fp : List ℕ) → Fits k s → Held k s t fl (p ∷ fp) → Stored k.axes (ways k) cap 32 box 1 q (pool n' x') (words s.points) (words w') t fl p fp
        unfolding Stores
        stored t fl p fp f h =
            subst (λ (j : ℕ). Stores k.axes (ways k) j 32 box 1 q (pool s.nodes s.links) (pool n' x') (words s.points) (words w')) eo
            (subst (λ (u : List Side). Stores k.axes (ways k) o 32 u 1 q (pool s.nodes s.links) (pool n' x') (words s.points) (words w')) eb st) t fl p fp h.world
            (some_ways k s t fl (p ∷ fp) f h) (whole k s t fl (p ∷ fp) f h).axes (whole k s t fl (p ∷ fp) f h).good free (omega (arith, links_long k s f)) (omega (arith, fewer t fl (p ∷ fp) f h))
            (omega (arith, length_words s.points, f.points, mul-le-mul_left (k.axes + 1) near))
          where
            near : suc p ≤ 513
            near = omega (arith, h.world.spare.2, links_long k s f)

            free : needed cap 32 box q (erase at 32 t) ≤ length fl
            free = leb→le (needed cap 32 box q (erase at 32 t)) (length fl) (subst T (sym yes ∙ roomy t fl (p ∷ fp) f h) tt)

        keep : (t : PTree 32) (fl : List ℕ) (p : ℕ) (fp : List ℕ) → Fits k s → Held k s t fl (p ∷ fp) → Gives k (give (tree (with_root (plan_of k s t) (after k (plan_of k s t) q))) 0) s left 0 0
        unfolding number
        keep t fl p fp f h =
            let a = plan_of k s t in
            let z = stored t fl p fp f h in
            let i = whole k s t fl (p ∷ fp) f h in
            let e : erase (point_at k.axes (words w')) 32 z.tree ≡ after k a q = z.erased ∙ sym (insert_is (ways k) cap 32 box q a.root i.axes i.good) in
            let f' : Fits k left = record { head = f.head; nodes = ln ∙ f.nodes; links = lx ∙ f.links; points = lp ∙ f.points } in
            let h' : Held k left z.tree z.free fp = record {
              world = z.world;
              each_group = λ g nz le. z.groups g ∙ h.each_group g nz (omega (arith, le, ln, length_words n', length_words s.nodes));
              each_place = λ u nz lt. z.places u ∙ h.each_place u nz (omega (arith, lt, lx, length_words x', length_words s.links));
              sound = subst (λ (u : Tree 32). Sound k (with_root a u)) (sym e) (insert_sound k a (plan_numbers k s t) h.sound q fq (subst T (sym (inside_as q.at eb er y)) tt)).0;
            } in
            record { reply = refl; figure = refl; after = subst (λ (u : Tree 32). Says k left (tree (with_root a u))) e (says_held k left z.tree z.free fp f' h'); refused = λ ne o. absurd (ne refl) }

        pub inserts_done : DoesHeld k (Insert q) s left 0 0
        inserts_done = does_held k (Insert q) s left 0 0 (λ t fl fp f h. go t fl fp f h (places_held k s t fl fp f h))
          where
            go : (t : PTree 32) (fl fp : List ℕ) → Fits k s → Held k s t fl fp → size 32 t + length fp ≡ 512 → Gives k (step k (tree (plan_of k s t)) (Insert q)) s left 0 0
            go t fl [] f h all = absurd (omega (arith, all, fewer t fl [] f h))
            go t fl (p ∷ fp) f h all =
                subst (λ (o : Outcome). Gives k o s left 0 0) (sym (insert_done k (plan_of k s t) q (inside_as q.at eb er y) (counts t fl (p ∷ fp) f h) (room_is t fl (p ∷ fp) f h ∙ yes))) (keep t fl p fp f h)
