-- What a deletion does to a tree in words, one node at a time, and that it is the model's. Over any number of ways and any merge order. Assumes nothing.
use mathlib.Core.Path.{◌≡◌, refl, ap, ap₂, sym, ◌∙◌, subst}
use mathlib.Core.Logic.{◌≢◌}
use mathlib.Core.Bool.{Bool, true, false}
use mathlib.Core.List.{List, [], ◌∷◌, ◌++◌, map, flatten}
use Prim.Native.Nat.{ℕ, zero, suc, ◌+◌, ◌*◌, ◌-◌, ◌^◌, ◌<◌, ◌≤◌}
use native.Mathlib.Numerals.{sub-one}
use native.Mathlib.Omega.{arith}
use lib.ListN.{length, get_or, set, length-map, length-append}
use lib.Seq.{get_or-set_same, get_or-set_other}
use borrow.Author.Tests.{le-leb, lt-leb}
use Rattle.model.specs.Boxes.{Side, part, route}
use Rattle.model.specs.Trees.{Point, Tree, bag, count, held, into, joined, total}
use Rattle.model.specs.Trees as model
use Rattle.model.proofs.Counts.{Good, GoodChild, Order, chosen, delete_good, in_range, part_ways}
use Rattle.model.proofs.Lists.{each_get, from}
use Rattle.model.proofs.Short.{delete_s, merge_s, without_s}
use Rattle.pool.specs.Lists.{is, occ, sum_of, last_or}
use Rattle.pool.specs.Meanings.{Cuts, Merges, Once, up_from}
use Rattle.pool.specs.Trees.{leaf, branch, PTree, flat, flats, none, erase, groups_at, places_at, size, joined_in}
use Rattle.pool.specs.Worlds.{World, Frame}
use Rattle.pool.specs.Writes.{Pool, both, kid, lowered}
use Rattle.pool.proofs.Down.{back, down_counted}
use Rattle.pool.proofs.Erase.{erase_count, erase_flat, erase_joined}
use Rattle.pool.proofs.Frames.{same_then}
use Rattle.pool.proofs.Joins.{joined_sum, once_sum}
use Rattle.pool.proofs.Lists.{by-eq, ifz-no, ifz-yes, occ_append, sum_at, sum_set}
use Rattle.pool.proofs.Trees.{flats_groups, flats_places, flats_size, groups_flat, places_flat, size_flat}
use Rattle.trees.proofs.Descents.{Spot, child_erase, list_at, reach}
use Rattle.trees.proofs.Held.{rep_count}
use Rattle.trees.proofs.Inserts.{map_set}
use Rattle.trees.proofs.Ways.{lowered_groups, reach_same, way, way_more, way_same}

-- an order that has each number once, in the model's words and in those of the pool
sum_total : (f : ℕ → ℕ) (l : List ℕ) → sum_of f l ≡ total (map f l)
unfolding total
sum_total f [] = refl
sum_total f (c ∷ l) = ap (λ (n : ℕ). f c + n) (sum_total f l)

up_from_lem : (i n : ℕ) → up_from i n ≡ from i n
unfolding from
up_from_lem i zero = refl
up_from_lem i (suc n) = ap (λ (l : List ℕ). i ∷ l) (up_from_lem (suc i) n)

order_once : (ways : ℕ) (order : List ℕ) → Order ways order → Once ways order
order_once ways order o f = sum_total f order ∙ o f ∙ sym (ap (sum_of f) (up_from_lem 0 ways) ∙ sum_total f (from 0 ways))

-- the list of an undivided node
abbrev list_of : (d : ℕ) → PTree d → List ℕ
list_of zero l = l
list_of (suc d) (leaf l) = l
list_of (suc d) (branch g ts) = []

module _ (ways cap : ℕ) (order : List ℕ) (pt : ℕ → Point) (q : Point) where
  pub record Shrunk (d : ℕ) (b : List Side) (s r : Pool) (i p : ℕ) (t : PTree d) (fl fp : List ℕ) : Type 0 where
    pub tree : PTree d
    pub free : List ℕ
    pub world : World d ways r i tree free fp
    pub frame : Frame d ways s r i t fl []
    pub erased : erase pt d tree ≡ delete_s order cap d b q (erase pt d t)
    pub groups : (g : ℕ) → groups_at d g tree + occ g free ≡ groups_at d g t + occ g fl
    pub places : (v : ℕ) → places_at d v tree + is v p ≡ places_at d v t
    pub sizes : suc (size d tree) ≡ size d t

  -- the count that is lowered is at least 1, so that a subtraction that stops at 0 is never needed
  pub count_positive : (d : ℕ) (b : List Side) (s r : Pool) (i p : ℕ) (t : PTree d) (fl fp : List ℕ) → World d ways s i t fl fp → Shrunk d b s r i p t fl fp → 1 ≤ get_or s.nodes (4 * i + 3) 0
  count_positive d b s r i p t fl fp w sh = omega (arith, sh.sizes, rep_count d ways s.nodes s.links i t w.rep)

  -- where place p stands in the list of the node that the point q goes to, after the place `before` or first, and that it holds the point that is taken out
  pub record There (d : ℕ) (b : List Side) (p before : ℕ) (t : PTree d) : Type 0 where
    pub front : List ℕ
    pub back : List ℕ
    pub whole : list_at q.at d b t ≡ front ++ (p ∷ back)
    pub behind : before ≡ last_or 0 front
    pub gone : without_s q (map pt (front ++ (p ∷ back))) ≡ map pt (front ++ back)

  unfoldable pub Deletes : (d : ℕ) → List Side → Pool → Pool → (i p before : ℕ) → Type 0
  Deletes d b s r i p before = (t : PTree d) (fl fp : List ℕ) → World d ways s i t fl fp → 0 < ways → Order ways order → 2 ^ length b ≡ ways → Good ways cap d b (erase pt d t) → There d b p before t
      → Shrunk d b s r i p t fl fp

  -- ---- out of a list
  flat_there : (d : ℕ) (b : List Side) (p before : ℕ) (l : List ℕ) (h : There d b p before (flat d l)) → l ≡ h.front ++ (p ∷ h.back)
  unfolding list_at
  flat_there zero b p before l h = h.whole
  flat_there (suc d) b p before l h = h.whole

  flat_delete : (d : ℕ) (b : List Side) (l : List ℕ) → delete_s order cap d b q (erase pt d (flat d l)) ≡ bag d (without_s q (map pt l))
  unfolding delete_s erase bag
  flat_delete zero b l = refl
  flat_delete (suc d) b l = refl

  cut_shrunk : (d : ℕ) (b : List Side) (s r : Pool) (i p before : ℕ) (l fl fp : List ℕ) → Cuts s r i p before → World d ways s i (flat d l) fl fp → 0 < ways → There d b p before (flat d l) → Shrunk d b s r i p (flat d l) fl fp
  unfolding Cuts
  cut_shrunk d b s r i p before l fl fp ct w lw h =
      let e = flat_there d b p before l h in
      let c = ct d ways h.front h.back fl fp lw (subst (λ (u : List ℕ). World d ways s i (flat d u) fl fp) e w) h.behind in
      record {
        tree = flat d (h.front ++ h.back);
        free = fl;
        world = c.0;
        frame = subst (λ (u : List ℕ). Frame d ways s r i (flat d u) fl []) (sym e) c.1;
        erased = erase_flat pt d (h.front ++ h.back) ∙ ap (bag d) (sym (ap (λ (u : List ℕ). without_s q (map pt u)) e ∙ h.gone)) ∙ sym (flat_delete d b l);
        groups = λ g. omega (arith, groups_flat d g l, groups_flat d g (h.front ++ h.back));
        places = λ v. omega (arith, places_flat d v l, places_flat d v (h.front ++ h.back), ap (occ v) e, occ_append v h.front (p ∷ h.back), occ_append v h.front h.back);
        sizes = omega (arith, size_flat d l, size_flat d (h.front ++ h.back), ap length e, length-append h.front (p ∷ h.back), length-append h.front h.back);
      }

  -- ---- below a divided node, before it is looked at again
  module _ (d : ℕ) (b : List Side) (s r : Pool) (n : List ℕ) (i p before g : ℕ) (ts : List (PTree d)) (fl fp : List ℕ) (w : World (suc d) ways s i (branch g ts) fl fp) (eb : 2 ^ length b ≡ ways) where
    abbrev c : ℕ
    c = route b q.at

    lc : route b q.at < ways
    lc = in_range ways cap b q ways eb refl

    lt : route b q.at < length ts
    lt = omega (arith, lc, w.rep.4)

    -- the child that the point goes to
    kid_good : Good ways cap (suc d) b (erase pt (suc d) (branch g ts)) → Good ways cap d (part b c) (erase pt d (get_or ts c (none d)))
    unfolding erase
    kid_good gd = subst (Good ways cap d (part b c)) (child_erase pt d ts c) (chosen ways cap d b q (map (erase pt d) ts) eb gd.0 gd.2).1

    kid_there : There (suc d) b p before (branch g ts) → There d (part b c) p before (get_or ts c (none d))
    unfolding list_at
    kid_there h = record { front = h.front; back = h.back; whole = h.whole; behind = h.behind; gone = h.gone }

    -- the tree with that child shrunk
    pub record Half (t' : PTree d) (fl' : List ℕ) : Type 0 where
      pub world : World (suc d) ways r i (branch g (set ts c t')) fl' fp
      pub frame : Frame (suc d) ways s r i (branch g ts) fl []
      pub erased : map (erase pt d) (set ts c t') ≡ into d (delete_s order cap d) b q (map (erase pt d) ts)
      pub groups : (h : ℕ) → groups_at (suc d) h (branch g (set ts c t')) + occ h fl' ≡ groups_at (suc d) h (branch g ts) + occ h fl
      pub places : (v : ℕ) → sum_of (places_at d v) (set ts c t') + is v p ≡ sum_of (places_at d v) ts
      pub sizes : suc (sum_of (size d) (set ts c t')) ≡ sum_of (size d) ts

    half : (sh : Shrunk d (part b c) (both n s.links) r (kid ways g c) p (get_or ts c (none d)) fl fp) → n ≡ lowered s.nodes i → Half sh.tree sh.free
    unfolding lowered into
    half sh en =
        let up = back d ways s i g ts fl fp w n r c (get_or s.nodes (4 * i + 3) 0 - 1) sh.tree sh.free fp [] lc en
        (omega (arith, w.rep.3, sh.sizes, sum_set (size d) ts c sh.tree (none d) lt)) sh.groups (λ v. omega (arith, sh.places v)) (λ v. omega (arith, w.places v)) sh.world sh.frame in
        record {
          world = up.0;
          frame = up.1;
          erased = map_set (erase pt d) ts c sh.tree ∙ ap (set (map (erase pt d) ts) c) (sh.erased ∙ ap (delete_s order cap d (part b c) q) (sym (child_erase pt d ts c)));
          groups = λ h. omega (arith, sh.groups h, sum_set (groups_at d h) ts c sh.tree (none d) lt);
          places = λ v. omega (arith, sh.places v, sum_set (places_at d v) ts c sh.tree (none d) lt);
          sizes = omega (arith, sh.sizes, sum_set (size d) ts c sh.tree (none d) lt);
        }

    -- every child is good afterwards too
    kids_good : (t' : PTree d) (e : ℕ) → e < ways → Order ways order → Good ways cap (suc d) b (erase pt (suc d) (branch g ts)) → erase pt d t' ≡ delete_s order cap d (part b c) q (erase pt d (get_or ts c (none d))) → Good ways cap d (part b e) (erase pt d (get_or (set ts c t') e (none d)))
    unfolding erase
    kids_good t' e le od gd et = by-eq e c
        (λ k. subst (λ (u : ℕ). Good ways cap d (part b u) (erase pt d (get_or (set ts c t') u (none d)))) (sym k)
        (subst (λ (u : PTree d). Good ways cap d (part b c) (erase pt d u)) (sym (get_or-set_same ts c t' (none d) lt)) (subst (Good ways cap d (part b c)) (sym et) (delete_good ways cap order od d (part b c) q (erase pt d (get_or ts c (none d))) (part_ways ways cap b c eb) (kid_good gd)))))
        (λ k. subst (λ (u : PTree d). Good ways cap d (part b e) (erase pt d u)) (sym (get_or-set_other ts c e t' (none d) k))
        (subst (λ (u : Tree d). Good ways cap d (part b e) u) (child_erase pt d ts e) (subst (λ (u : ℕ). Good ways cap d (part b u) (get_or (map (erase pt d) ts) e (bag d []))) {x = 0 + e} {y = e} (omega arith) (each_get (GoodChild ways cap d b) (bag d []) 0 (map (erase pt d) ts) e (omega (arith, le, length-map ts (erase pt d), w.rep.4)) gd.2).1)))

  -- ---- a divided node is looked at again
  held_size : (d g : ℕ) (us : List (PTree d)) → length (flatten (map (held d) (map (erase pt d) us))) ≡ sum_of (size d) us
  held_size d g us = unfold count held erase in erase_count pt (suc d) (branch g us)

  delete_branch : (d : ℕ) (b : List Side) (g : ℕ) (ts us : List (PTree d)) → map (erase pt d) us ≡ into d (delete_s order cap d) b q (map (erase pt d) ts) → delete_s order cap (suc d) b q (erase pt (suc d) (branch g ts)) ≡ merge_s order cap d (map (erase pt d) us)
  unfolding delete_s erase
  delete_branch d b g ts us e = ap (merge_s order cap d) (sym e)

  merge_keep : (d g : ℕ) (us : List (PTree d)) → cap < sum_of (size d) us → merge_s order cap d (map (erase pt d) us) ≡ model.branch (map (erase pt d) us)
  unfolding merge_s
  merge_keep d g us h = ap (λ (t : Bool). elim t as (λ u. model.Node (Tree d)) [ true ↦ model.leaf (joined d order (map (erase pt d) us)) | false ↦ model.branch (map (erase pt d) us) ])
      (lt-leb (length (flatten (map (held d) (map (erase pt d) us)))) cap (omega (arith, h, held_size d g us)))

  merge_join : (d g : ℕ) (us : List (PTree d)) → sum_of (size d) us ≤ cap → merge_s order cap d (map (erase pt d) us) ≡ model.leaf (joined d order (map (erase pt d) us))
  unfolding merge_s
  merge_join d g us h = ap (λ (t : Bool). elim t as (λ u. model.Node (Tree d)) [ true ↦ model.leaf (joined d order (map (erase pt d) us)) | false ↦ model.branch (map (erase pt d) us) ])
      (le-leb (length (flatten (map (held d) (map (erase pt d) us)))) cap (omega (arith, h, held_size d g us)))

  branch_erase : (d g : ℕ) (us : List (PTree d)) → erase pt (suc d) (branch g us) ≡ model.branch (map (erase pt d) us)
  unfolding erase
  branch_erase d g us = refl

  leaf_erase : (d : ℕ) (l : List ℕ) → erase pt (suc d) (leaf l) ≡ model.leaf (map pt l)
  unfolding erase
  leaf_erase d l = refl

  -- good children that hold no more than the capacity are undivided
  good_flat : (d : ℕ) (e : List Side) (u : PTree d) → Good ways cap d e (erase pt d u) → size d u ≤ cap → u ≡ flat d (list_of d u)
  unfolding erase
  good_flat zero e l gd h = refl
  good_flat (suc d) e (leaf l) gd h = refl
  good_flat (suc d) e (branch g ts) gd h = absurd (omega (arith, gd.1, h, held_size d g ts))

  flats_of : (d : ℕ) (us : List (PTree d)) → ((c : ℕ) → c < length us → get_or us c (none d) ≡ flat d (list_of d (get_or us c (none d)))) → us ≡ flats d (map (list_of d) us)
  flats_of d [] h = refl
  flats_of d (u ∷ us) h = ap₂ {C = List (PTree d)} (λ a l. a ∷ l) (h 0 (omega arith)) (flats_of d us (λ c lt. h (suc c) (omega arith)))

  branch_kept : (d : ℕ) (b : List Side) (s r : Pool) (n : List ℕ) (i p before g : ℕ) (ts : List (PTree d)) (fl fp : List ℕ) (w : World (suc d) ways s i (branch g ts) fl fp) (eb : 2 ^ length b ≡ ways) (t' : PTree d) (fl' : List ℕ)
      → Half d b s r n i p before g ts fl fp w eb t' fl' → cap < sum_of (size d) (set ts (route b q.at) t') → Shrunk (suc d) b s r i p (branch g ts) fl fp
  branch_kept d b s r n i p before g ts fl fp w eb t' fl' hf more = record {
    tree = branch g (set ts (route b q.at) t');
    free = fl';
    world = hf.world;
    frame = hf.frame;
    erased = branch_erase d g (set ts (route b q.at) t') ∙ sym (merge_keep d g (set ts (route b q.at) t') more) ∙ sym (delete_branch d b g ts (set ts (route b q.at) t') hf.erased);
    groups = hf.groups;
    places = hf.places;
    sizes = hf.sizes;
  }

  branch_merged : (d : ℕ) (b : List Side) (s s1 r : Pool) (n : List ℕ) (i p before g : ℕ) (ts : List (PTree d)) (fl fp : List ℕ) (w : World (suc d) ways s i (branch g ts) fl fp) (eb : 2 ^ length b ≡ ways) (t' : PTree d) (fl' : List ℕ)
      → Half d b s s1 n i p before g ts fl fp w eb t' fl' → sum_of (size d) (set ts (route b q.at) t') ≤ cap → set ts (route b q.at) t' ≡ flats d (map (list_of d) (set ts (route b q.at) t')) → 0 < ways → Once ways order → Merges ways order s1 r i g
      → Shrunk (suc d) b s r i p (branch g ts) fl fp
  unfolding Merges
  branch_merged d b s s1 r n i p before g ts fl fp w eb t' fl' hf few fs lw od mg =
      let us = set ts (route b q.at) t' in
      let ls = map (list_of d) us in
      let ll : length ls ≡ ways = length-map us (list_of d) ∙ hf.world.rep.4 in
      let m = mg d ls fl' fp lw od (subst (λ (z : List (PTree d)). World (suc d) ways s1 i (branch g z) fl' fp) fs hf.world) in
      let pl : (v : ℕ) → sum_of (places_at d v) us ≡ sum_of (occ v) ls = λ v. ap (sum_of (places_at d v)) fs ∙ flats_places d v ls in
      let gr : (h : ℕ) → sum_of (groups_at d h) us ≡ 0 = λ h. ap (sum_of (groups_at d h)) fs ∙ flats_groups d h ls in
      let sz : sum_of (size d) us ≡ sum_of (λ (l : List ℕ). length l) ls = ap (sum_of (size d)) fs ∙ flats_size d ls in
      record {
        tree = leaf (joined_in order ls);
        free = g ∷ fl';
        world = m.0;
        frame = record {
          len_n = m.1.len_n ∙ hf.frame.len_n;
          len_x = m.1.len_x ∙ hf.frame.len_x;
          nodes = λ v o. same_then (m.1.nodes v (o.0, o.1, λ u f le z. omega (arith, o.2 u f le z, hf.groups u, gr u, flats_groups d u ls))) (hf.frame.nodes v o);
          links = λ v z. m.1.links v (omega (arith, z, hf.places v, pl v, flats_places d v ls)) ∙ hf.frame.links v z;
        };
        erased = leaf_erase d (joined_in order ls) ∙ ap model.leaf (erase_joined pt d order ls ∙ ap (λ (z : List (PTree d)). joined d order (map (erase pt d) z)) (sym fs)) ∙ sym (merge_join d g us few) ∙ sym (delete_branch d b g ts us hf.erased);
        groups = λ h. omega (arith, hf.groups h, gr h);
        places = λ v. omega (arith, hf.places v, pl v, joined_sum (occ v) refl (λ a c. occ_append v a c) order ls, once_sum ways order od (occ v) ls ll);
        sizes = omega (arith, hf.sizes, sz, joined_sum (λ (l : List ℕ). length l) refl (λ a c. length-append a c) order ls, once_sum ways order od (λ (l : List ℕ). length l) ls ll);
      }

  -- ---- the ways of the code
  deletes_same : (d d' : ℕ) (b b' : List Side) (s r : Pool) (j j' p before : ℕ) → d ≡ d' → b ≡ b' → j ≡ j' → Deletes d b s r j p before → Deletes d' b' s r j' p before
  deletes_same d d' b b' s r j j' p before ed eb ej z = subst (λ (u : ℕ). Deletes d' b' s r u p before) ej (subst (λ (u : List Side). Deletes d' u s r j p before) eb (subst (λ (u : ℕ). Deletes u b s r j p before) ed z))

  below : (d : ℕ) (b : List Side) (s r : Pool) (n : List ℕ) (i p before g : ℕ) (ts : List (PTree d)) (fl fp : List ℕ) (w : World (suc d) ways s i (branch g ts) fl fp) (eb : 2 ^ length b ≡ ways) → 0 < ways → Order ways order
      → Good ways cap (suc d) b (erase pt (suc d) (branch g ts)) → There (suc d) b p before (branch g ts) → n ≡ lowered s.nodes i → Deletes d (part b (route b q.at)) (both n s.links) r (kid ways g (route b q.at)) p before
      → Shrunk d (part b (route b q.at)) (both n s.links) r (kid ways g (route b q.at)) p (get_or ts (route b q.at) (none d)) fl fp
  unfolding Deletes lowered
  below d b s r n i p before g ts fl fp w eb lw om gd h en go =
      go (get_or ts (route b q.at) (none d)) fl fp (down_counted d ways s i g ts fl fp w n (route b q.at) (get_or s.nodes (4 * i + 3) 0 - 1) (in_range ways cap b q ways eb refl) en) lw om (part_ways ways cap b (route b q.at) eb)
      (kid_good d b s r n i p before g ts fl fp w eb gd) (kid_there d b s r n i p before g ts fl fp w eb h)

  deletes_keep : (d : ℕ) (b b' : List Side) (s r : Pool) (n : List ℕ) (i p before k v c j : ℕ) → k ≡ get_or s.nodes (4 * i) 0 → k ≢ 0 → d ≢ 0 → v ≡ get_or s.nodes (4 * i + 3) 0 → n ≡ lowered s.nodes i → c ≡ route b q.at → j ≡ kid ways k c → b' ≡ part b c
      → Deletes (d - 1) b' (both n s.links) r j p before → cap + 1 < v → Deletes d b s r i p before
  unfolding Deletes
  deletes_keep zero b b' s r n i p before k v c j ek nz dz ev en ec ej eb' go more t fl fp w lw om eb gd h = absurd (dz refl)
  deletes_keep (suc d) b b' s r n i p before k v c j ek nz dz ev en ec ej eb' go more (leaf l) fl fp w lw om eb gd h = absurd (nz (ek ∙ w.rep.1))
  deletes_keep (suc d) b b' s r n i p before k v c j ek nz dz ev en ec ej eb' go more (branch g ts) fl fp w lw om eb gd h =
      let sh = below d b s r n i p before g ts fl fp w eb lw om gd h en (deletes_same (suc d - 1) d b' (part b (route b q.at)) (both n s.links) r j (kid ways g (route b q.at)) p before (sub-one (suc d)) (eb' ∙ ap (part b) ec) (ej ∙ ap₂ (kid ways) (ek ∙ w.rep.1) ec) go) in
      let hf = half d b s r n i p before g ts fl fp w eb sh en in
      branch_kept d b s r n i p before g ts fl fp w eb sh.tree sh.free hf (omega (arith, more, ev, w.rep.3, hf.sizes))

  deletes_merge : (d : ℕ) (b b' : List Side) (s s1 r : Pool) (n : List ℕ) (i p before k v c j : ℕ) → k ≡ get_or s.nodes (4 * i) 0 → k ≢ 0 → d ≢ 0 → v ≡ get_or s.nodes (4 * i + 3) 0 → n ≡ lowered s.nodes i → c ≡ route b q.at → j ≡ kid ways k c → b' ≡ part b c
      → Deletes (d - 1) b' (both n s.links) s1 j p before → v ≤ cap + 1 → Merges ways order s1 r i k → Deletes d b s r i p before
  unfolding Deletes
  deletes_merge zero b b' s s1 r n i p before k v c j ek nz dz ev en ec ej eb' go few mg t fl fp w lw om eb gd h = absurd (dz refl)
  deletes_merge (suc d) b b' s s1 r n i p before k v c j ek nz dz ev en ec ej eb' go few mg (leaf l) fl fp w lw om eb gd h = absurd (nz (ek ∙ w.rep.1))
  deletes_merge (suc d) b b' s s1 r n i p before k v c j ek nz dz ev en ec ej eb' go few mg (branch g ts) fl fp w lw om eb gd h =
      let sh = below d b s s1 n i p before g ts fl fp w eb lw om gd h en (deletes_same (suc d - 1) d b' (part b (route b q.at)) (both n s.links) s1 j (kid ways g (route b q.at)) p before (sub-one (suc d)) (eb' ∙ ap (part b) ec) (ej ∙ ap₂ (kid ways) (ek ∙ w.rep.1) ec) go) in
      let hf = half d b s s1 n i p before g ts fl fp w eb sh en in
      let us = set ts (route b q.at) sh.tree in
      let all : sum_of (size d) us ≤ cap = omega (arith, few, ev, w.rep.3, hf.sizes) in
      branch_merged d b s s1 r n i p before g ts fl fp w eb sh.tree sh.free hf all
      (flats_of d us (λ e le. good_flat d (part b e) (get_or us e (none d)) (kids_good d b s s1 n i p before g ts fl fp w eb sh.tree e (omega (arith, le, hf.world.rep.4)) om gd sh.erased) (omega (arith, all, sum_at (size d) us e (none d) le))))
      lw (order_once ways order om) (subst (λ (u : ℕ). Merges ways order s1 r i u) (ek ∙ w.rep.1) mg)

  -- ---- along a way that is known: the nodes that are left of it, and the node where it ends
  unfoldable pub Along : List ℕ → Pool → Pool → (leaf p before : ℕ) → Type 0
  unfolding way reach Deletes
  Along w s r end p before = (d : ℕ) (b : List Side) (i : ℕ) → w ≡ way ways s.nodes q.at d b i → end ≡ (reach ways s.nodes q.at d b i).node → Deletes d b s r i p before

  pub along_cut : (w : List ℕ) (s r : Pool) (end p before : ℕ) → w ≡ [] → Cuts s r end p before → Along w s r end p before
  unfolding Along Deletes reach way
  along_cut w s r end p before e ct zero b i ew el l fl fp wd lw om eb gd h = cut_shrunk zero b s r i p before l fl fp (subst (λ (u : ℕ). Cuts s r u p before) el ct) wd lw h
  along_cut w s r end p before e ct (suc d) b i ew el (leaf l) fl fp wd lw om eb gd h =
      cut_shrunk (suc d) b s r i p before l fl fp (subst (λ (u : ℕ). Cuts s r u p before) (el ∙ ap (λ (u : Spot). u.node) (ifz-yes (get_or s.nodes (4 * i) 0) _ _ wd.rep.1)) ct) wd lw h
  along_cut w s r end p before e ct (suc d) b i ew el (branch g ts) fl fp wd lw om eb gd h =
      absurd (omega (arith, ap length (sym e ∙ ew ∙ ifz-no (get_or s.nodes (4 * i) 0) _ _ (λ z. wd.rep.2 (sym wd.rep.1 ∙ z)))))

  module _ (w rest : List ℕ) (s s1 : Pool) (n : List ℕ) (end p before k v j : ℕ) (ew : w ≡ j ∷ rest) (ek : k ≡ get_or s.nodes (4 * j) 0) (ev : v ≡ get_or s.nodes (4 * j + 3) 0) (en : n ≡ lowered s.nodes j)
      (go : Along rest (both n s.links) s1 end p before) where
    groups_same : (u : ℕ) → get_or n (4 * u) 0 ≡ get_or s.nodes (4 * u) 0
    groups_same u = ap (λ (m : List ℕ). get_or m (4 * u) 0) en ∙ lowered_groups s.nodes j u

    on : (d : ℕ) (b : List Side) (i : ℕ) → w ≡ way ways s.nodes q.at d b i → end ≡ (reach ways s.nodes q.at d b i).node → Deletes (d - 1) (part b (route b q.at)) (both n s.links) s1 (kid ways (get_or s.nodes (4 * i) 0) (route b q.at)) p before
    unfolding Along
    on d b i e el =
        let m = way_more ways s.nodes q.at d b i j rest (sym ew ∙ e) in
        go (d - 1) (part b (route b q.at)) (kid ways (get_or s.nodes (4 * i) 0) (route b q.at))
        (m.goes_on ∙ sym (way_same ways s.nodes n q.at groups_same (d - 1) (part b (route b q.at)) (kid ways (get_or s.nodes (4 * i) 0) (route b q.at))))
        (el ∙ ap (λ (u : Spot). u.node) (m.ends ∙ sym (reach_same ways s.nodes n q.at groups_same (d - 1) (part b (route b q.at)) (kid ways (get_or s.nodes (4 * i) 0) (route b q.at)))))

    pub along_keep : cap + 1 < v → Along w s s1 end p before
    unfolding Along
    along_keep more d b i e el =
        let m = way_more ways s.nodes q.at d b i j rest (sym ew ∙ e) in
        deletes_keep d b (part b (route b q.at)) s s1 n i p before (get_or s.nodes (4 * i) 0) v (route b q.at) (kid ways (get_or s.nodes (4 * i) 0) (route b q.at)) refl m.divided m.deep
        (ev ∙ ap (λ (u : ℕ). get_or s.nodes (4 * u + 3) 0) m.same) (en ∙ ap (lowered s.nodes) m.same) refl refl refl (on d b i e el) more

    pub along_merge : (r : Pool) → v ≤ cap + 1 → Merges ways order s1 r j k → Along w s r end p before
    unfolding Along
    along_merge r few mg d b i e el =
        let m = way_more ways s.nodes q.at d b i j rest (sym ew ∙ e) in
        deletes_merge d b (part b (route b q.at)) s s1 r n i p before (get_or s.nodes (4 * i) 0) v (route b q.at) (kid ways (get_or s.nodes (4 * i) 0) (route b q.at)) refl m.divided m.deep
        (ev ∙ ap (λ (u : ℕ). get_or s.nodes (4 * u + 3) 0) m.same) (en ∙ ap (lowered s.nodes) m.same) refl refl refl (on d b i e el) few
        (subst (λ (u : ℕ). Merges ways order s1 r u (get_or s.nodes (4 * u) 0)) m.same (subst (Merges ways order s1 r j) ek mg))

  -- a whole way that was noted
  pub along_all : (d : ℕ) (b : List Side) (w : List ℕ) (s r : Pool) (i p before : ℕ) (e : Spot) → Along w s r e.node p before → w ≡ way ways s.nodes q.at d b i → e ≡ reach ways s.nodes q.at d b i → Deletes d b s r i p before
  unfolding Along
  along_all d b w s r i p before e go ew er = go d b i ew (ap (λ (u : Spot). u.node) er)
