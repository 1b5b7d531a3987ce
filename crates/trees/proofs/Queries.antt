-- What the walks and descents find in pieces that hold a tree is what the model's queries say. Over any kind of tree. Assumes nothing.
use mathlib.Core.Path.{◌≡◌, refl, ap, ap₂, sym, ◌∙◌, subst}
use mathlib.Core.Logic.{◌≢◌}
use mathlib.Core.Bool.{Bool, true, false, not, ◌&&◌, cond}
use mathlib.Core.List.{List, [], ◌∷◌, map, flatten, zip_with}
use Prim.Native.Nat.{ℕ, zero, suc, ◌+◌, ◌*◌, ◌^◌, ◌<◌, ◌≤◌, min}
use native.Mathlib.Omega.{arith}
use lib.Dec.{T, eqb}
use lib.Ieee.{Float, binary64, le, lt, mul}
use lib.ListN.{length, get_or, take, drop, length-append}
use lib.Seq.{sets, take_all, take_at}
use borrow.Author.Tests.{eq-eqb, le-leb, ne_eqb}
use Rattle.floats.specs.Values.{plus_zero}
use Rattle.model.specs.Boxes.{Side, inside, meets, node_distance, part, route, squared}
use Rattle.model.specs.Calls.{Ask, Box, Contains, IsEmpty, Kind, Len, Nearest, Outcome, Plan, Radius, ask, call, done, no_room, number, refuse, search_call, step, tree, ways}
use Rattle.model.specs.Searches.{At, Entry, box, entry, keep, near, nearest, offer, offer_each, radius, visit, within, worst}
use Rattle.model.specs.Soundness.{All, Sound}
use Rattle.model.specs.Trees.{Point, Tree, bag, branch, contains, held, leaf, same, some?, without}
use Rattle.model.proofs.Counts.{keep_length, route_lt}
use Rattle.model.proofs.Inside.{F64, F64Side}
use Rattle.model.proofs.Lists.{mapi}
use Rattle.model.proofs.Nearest.{nearest_walk, seek}
use Rattle.model.proofs.Same.{contains_is}
use Rattle.model.proofs.Short.{contains_s, filled}
use Rattle.model.proofs.Skip.{box_walk, radius_walk, walk}
use Rattle.model.proofs.Sound.{F64Point, placed}
use Rattle.model.proofs.Theorems.{skip_box, skip_nearest, skip_radius}
use Rattle.knn.specs.Candidates.{InOrder, entries, items, room}
use Rattle.knn.proofs.Arrays.{sets_front}
use Rattle.knn.proofs.Children.{renamed}
use Rattle.words.specs.Words.{words}
use Rattle.pool.specs.Lists.{sum_of}
use Rattle.pool.specs.Read.{chain}
use Rattle.pool.specs.Trees as pool
use Rattle.pool.specs.Trees.{PTree, erase, places_at, size}
use Rattle.pool.proofs.Chains.{no_zero}
use Rattle.pool.proofs.Frames.{rep_full}
use Rattle.pool.proofs.Lists.{by_lt}
use Rattle.pool.proofs.Read.{list_is}
use Rattle.trees.specs.Pieces.{AsksHeld, Fits, Hands, Pieces, Says, SearchesHeld, Tells, boundary_of, coordinates, payloads, plan_of}
use Rattle.trees.specs.Handed.{Handed}
use Rattle.trees.specs.Points.{point_at}
use Rattle.trees.proofs.Collects.{Collects}
use Rattle.trees.proofs.Descents.{Found, Spot, list_at, reach, reach_found, taken_at}
use Rattle.trees.proofs.Finds.{Place, seek_filled}
use Rattle.trees.proofs.Finds as finds
use Rattle.trees.proofs.Held.{Held, places_held, plan_numbers, size_held, size_read, whole}
use Rattle.trees.proofs.Seeks.{seek_erase, seek_p}
use Rattle.trees.proofs.Tables.{Seeks}
use Rattle.trees.proofs.Walks.{Notes, places, places_walk}

-- ---- a walk finds no more places than the tree has
module _ (go : List Side → Bool) (f : ℕ → Bool) where
  shorter : (t : Bool) (l : List ℕ) (m : ℕ) → length l ≤ m → length {A = ℕ} (elim t as (λ u. List ℕ) [ true ↦ l | false ↦ [] ]) ≤ m
  shorter true l m h = h
  shorter false l m h = omega arith

  rows_size : (d : ℕ) (b : List Side) (i : ℕ) (ts : List (PTree d)) → ((c : List Side) (t : PTree d) → length (places go f d c t) ≤ size d t)
      → length (flatten (mapi (λ j t. places go f d (part b j) t) i ts)) ≤ sum_of (size d) ts
  unfolding mapi flatten
  rows_size d b i [] ih = omega arith
  rows_size d b i (t ∷ ts) ih =
      omega (arith, length-append (places go f d (part b i) t) (flatten (mapi (λ j t. places go f d (part b j) t) (suc i) ts)), ih (part b i) t, rows_size d b (suc i) ts ih)

  places_size : (d : ℕ) (b : List Side) (t : PTree d) → length (places go f d b t) ≤ size d t
  unfolding places
  places_size zero b l = shorter (go b) (keep f l) (length l) (keep_length f l)
  places_size (suc d) b (pool.leaf l) = shorter (go b) (keep f l) (length l) (keep_length f l)
  places_size (suc d) b (pool.branch g ts) = shorter (go b) _ (sum_of (size d) ts) (rows_size d b 0 ts (places_size d))

-- ---- lists of 512
take_least : (l : List ℕ) (n m : ℕ) → length l ≤ m → take (min n m) l ≡ take n l
take_least l n m h = by_lt n m (λ c. ap (λ (i : ℕ). take i l) {x = min n m} {y = n} (omega arith)) (λ c. take_all (min n m) l (omega arith) ∙ sym (take_all n l (omega arith)))

noted : (l out out' : List ℕ) (m : ℕ) → length out ≡ 512 → length l ≤ 512 → Notes l out 0 out' m → take (min m 512) out' ≡ l
noted l out out' m e h q =
    ap₂ (λ (i : ℕ) (o : List ℕ). take i o) many (q.written (omega arith) ∙ sets_front l out (omega arith)) ∙ take_at l (drop (length l) out) (length l) refl
  where
    many : min m 512 ≡ length l
    many = omega (arith, q.count (omega arith))

-- what a table of two arrays holds
items_of : (r : ℕ) (ds : List Float) (ps : List ℕ) → length ds ≡ length ps → items (entries r ds ps) ≡ take r ps
unfolding zip_with
items_of zero ds ps e = refl
items_of (suc r) [] [] e = refl
items_of (suc r) [] (p ∷ ps) e = absurd (omega arith)
items_of (suc r) (d ∷ ds) [] e = absurd (omega arith)
items_of (suc r) (d ∷ ds) (p ∷ ps) e = ap (λ (l : List ℕ). p ∷ l) (items_of r ds ps (omega arith))

-- ---- a table that keeps nothing
offers_none : (xs : List Entry) → offer_each 0 [] xs ≡ []
unfolding offer_each offer worst
offers_none [] = refl
offers_none (x ∷ xs) = offers_none xs

-- no bytes for no points
pub none_written : coordinates [] ≡ []
unfolding coordinates flatten
none_written = refl

pub none_marked : payloads [] ≡ []
unfolding payloads flatten
none_marked = refl

-- ---- what is outside is not there
outside_no : (d : ℕ) (b : List Side) (p : Point) (t : Tree d) → inside b p.at ≡ false → contains d b p t ≡ false
unfolding contains
outside_no zero b p ps e = ap (λ (u : Bool). u && some? (without p ps)) e
outside_no (suc d) b p (leaf ps) e = ap (λ (u : Bool). u && some? (without p ps)) e
outside_no (suc d) b p (branch ts) e = ap (λ (u : Bool). u && contains d (part b (route b p.at)) p (get_or ts (route b p.at) (bag d []))) e

module _ (k : Kind) (s : Pieces) (t : PTree 32) (fl fp : List ℕ) (f : Fits k s) (h : Held k s t fl fp) where
  abbrev pt : ℕ → Point
  pt = point_at k.axes (words s.points)

  abbrev box_of : List Side
  box_of = boundary_of k.axes (words s.head)

  once : (p : ℕ) → places_at 32 p t ≤ 1
  once p = omega (arith, h.world.places p)

  -- ---- radius and box: one walk
  found : (go : List Side → Bool) (g : Point → Bool) (b : List Side) (out out' : List ℕ) (m : ℕ) → b ≡ box_of → length out ≡ 512 → Collects go (λ p. g (pt p)) (ways k) (words s.nodes) (words s.links) 32 b 1 out 0 out' m
      → map pt (take (min m 512) out') ≡ walk go g 32 box_of (plan_of k s t).root
  unfolding Collects
  found go g b out out' m eb e q =
      ap (map pt) (noted (places go (λ p. g (pt p)) 32 b t) out out' m e (omega (arith, places_size go (λ p. g (pt p)) 32 b t, places_held k s t fl fp f h)) (q t h.world.rep once))
      ∙ places_walk pt go g 32 b t ∙ ap (λ (c : List Side). walk go g 32 c (erase pt 32 t)) eb

  radius_found : (c : List Float) (r rr : Float) (b : List Side) (out out' : List ℕ) (m : ℕ) → All F64 c → length c ≡ k.axes → b ≡ box_of → rr ≡ mul binary64 r r → lt r plus_zero ≡ false → length out ≡ 512
      → Collects (λ n. not (lt rr (node_distance n c))) (λ p. le (squared (pt p).at c) rr) (ways k) (words s.nodes) (words s.links) 32 b 1 out 0 out' m → map pt (take (min m 512) out') ≡ radius c r 32 (plan_of k s t).root
  unfolding near radius_walk
  radius_found c r rr b out out' m fc lc eb er nr e q =
      found (λ n. not (lt rr (node_distance n c))) (near c rr) b out out' m eb e q
      ∙ ap (λ (v : Float). walk (λ n. not (lt v (node_distance n c))) (near c v) 32 box_of (plan_of k s t).root) er
      ∙ sym (ap (λ (z : Bool). elim z as (λ u. List Point) [ true ↦ [] | false ↦ walk (λ n. not (lt (mul binary64 r r) (node_distance n c))) (near c (mul binary64 r r)) 32 box_of (plan_of k s t).root ]) nr)
      ∙ skip_radius k (plan_of k s t) (plan_numbers k s t) h.sound c fc (lc ∙ sym h.sound.boundary.1) r

  box_found : (q b : List Side) (out out' : List ℕ) (m : ℕ) → All F64Side q → b ≡ box_of → length out ≡ 512 → Collects (λ n. meets n q) (λ p. inside q (pt p).at) (ways k) (words s.nodes) (words s.links) 32 b 1 out 0 out' m
      → map pt (take (min m 512) out') ≡ box q 32 (plan_of k s t).root
  unfolding within box_walk
  box_found q b out out' m fq eb e z = found (λ n. meets n q) (within q) b out out' m eb e z ∙ skip_box k (plan_of k s t) (plan_numbers k s t) h.sound q fq

  -- ---- k nearest
  nearest_found : (c : List Float) (m : ℕ) (b : List Side) (ds : List Float) (ps : List ℕ) (ds' : List Float) (ps' : List ℕ) (r : ℕ) → All F64 c → length c ≡ k.axes → b ≡ box_of → m ≢ 0 → length ds ≡ 512 → length ps ≡ 512 → length ds' ≡ 512
      → length ps' ≡ 512 → Seeks pt c m (ways k) (words s.nodes) (words s.links) 32 b 1 ds ps 0 ds' ps' r → map pt (take (min r 512) ps') ≡ nearest (min m 512) c 32 (plan_of k s t).boundary (plan_of k s t).root
  unfolding Seeks nearest_walk
  nearest_found c m b ds ps ds' ps' r fc lc eb nz e1 e2 e3 e4 q =
      ap (map pt) (take_least ps' r 512 (omega arith) ∙ sym (items_of r ds' ps' (e3 ∙ sym e4))) ∙ named (entries r ds' ps')
      ∙ ap (λ (l : List (At ℕ)). map (λ (e : Entry). e.item) (map (renamed pt) l)) (z.0 ∙ ap (λ (j : ℕ). seek_p j pt c (ways k) 32 b t []) all)
      ∙ ap (λ (l : List Entry). map (λ (e : Entry). e.item) l) (seek_erase pt (min m 512) c (ways k) 32 b t [] (rep_full 32 (ways k) (words s.nodes) (words s.links) 1 t h.world.rep))
      ∙ ap (λ (c' : List Side). map (λ (e : Entry). e.item) (seek (min m 512) c 32 c' (erase pt 32 t) [])) eb
      ∙ skip_nearest k (plan_of k s t) (plan_numbers k s t) h.sound c fc (lc ∙ sym h.sound.boundary.1) (min m 512)
    where
      all : room m ds ps ≡ min m 512
      all = ap₂ (λ (i j : ℕ). min (min m 512) (min i j)) e1 e2 ∙ omega arith

      z : (entries r ds' ps' ≡ seek_p (room m ds ps) pt c (ways k) 32 b t (entries 0 ds ps)) × InOrder (entries r ds' ps')
      z = q t h.world.rep once (e1 ∙ sym e2) (subst (λ (j : ℕ). 1 ≤ j) (sym all) (omega arith)) tt

      named : (es : List (At ℕ)) → map pt (items es) ≡ map (λ (e : Entry). e.item) (map (renamed pt) es)
      named [] = refl
      named (e ∷ es) = ap (λ (l : List Point). pt e.item ∷ l) (named es)

  -- ---- contains
  route_below : (b : List Side) (v : List Float) → length b ≡ k.axes → route b v < ways k
  route_below b v e = subst (λ (m : ℕ). route b v < 2 ^ m) e (route_lt b v)

  contains_found : (p : Point) (b : List Side) (sp : Spot) (hd : ℕ) (pl : Place) → F64Point p → b ≡ box_of → inside b p.at ≡ true → sp ≡ reach (ways k) (words s.nodes) p.at 32 b 1 → hd ≡ get_or (words s.nodes) (4 * sp.node + 1) 0
      → pl ≡ finds.seek (λ q. same p (pt q)) (chain (length (words s.links)) (words s.links) hd) 0 → contains 32 box_of p (plan_of k s t).root ≡ not (eqb pl.place 0)
  unfolding contains_s
  contains_found p b sp hd pl num eb isin esp ehd epl =
      contains_is (ways k) (plan_of k s t).capacity 32 501 box_of p (plan_of k s t).root (placed k (plan_of k s t) p (whole k s t fl fp f h) num (subst T (sym (ap (λ (c : List Side). inside c p.at) (sym eb) ∙ isin)) tt))
      ∙ ap filled (taken_at pt p 32 box_of t) ∙ seek_filled pt p l 0 (no_zero l (words s.links) _ at_leaf.rep.2)
      ∙ ap (λ (u : Place). not (eqb u.place 0)) (ap (λ (m : List ℕ). finds.seek (λ q. same p (pt q)) m 0) (sym same_list) ∙ sym epl)
    where
      l : List ℕ
      l = list_at p.at 32 box_of t

      at_leaf : Found (words s.nodes) (words s.links) p.at (list_at p.at 32 box_of t) (reach (ways k) (words s.nodes) p.at 32 box_of 1)
      at_leaf = reach_found (ways k) (words s.nodes) (words s.links) p.at 32 box_of 1 t h.world.rep once (route_below box_of p.at h.sound.boundary.1) (λ e q. route_below e p.at (q ∙ h.sound.boundary.1))

      same_list : chain (length (words s.links)) (words s.links) hd ≡ list_at p.at 32 box_of t
      same_list =
          ap (chain (length (words s.links)) (words s.links)) (ehd ∙ ap (λ (u : Spot). get_or (words s.nodes) (4 * u.node + 1) 0) (esp ∙ ap (λ (c : List Side). reach (ways k) (words s.nodes) p.at 32 c 1) eb))
          ∙ list_is (words s.nodes) (words s.links) (reach (ways k) (words s.nodes) p.at 32 box_of 1).node (list_at p.at 32 box_of t) at_leaf.rep at_leaf.once

-- ---- whatever tree the pieces hold
module _ (k : Kind) (s : Pieces) where
  held_by : (P : Plan → Type 0) → ((t : PTree 32) (fl fp : List ℕ) → Fits k s → Held k s t fl fp → P (plan_of k s t)) → (a : Plan) → Says k s (tree a) → P a
  held_by P go a y =
      let h = y.1 in
      subst P (sym h.plan) (go h.tree h.free_groups h.free_places y.0 (record { world = h.world; each_group = h.each_group; each_place = h.each_place; sound = subst (Sound k) h.plan h.sound }))

  -- ---- asks
  pub len_told : (r : ℕ) → r ≡ get_or (words s.nodes) (4 * 1 + 3) 0 → AsksHeld k Len s 0 r
  unfolding AsksHeld step call ask number
  len_told r e = held_by (λ a. Tells (step k (tree a) (Ask Len)) 0 r) (λ t fl fp f h. record { reply = refl; figure = e ∙ size_read k s t fl fp f h ∙ sym (size_held k s t fl fp f h) })

  empty_told : (n r : ℕ) → n ≡ get_or (words s.nodes) (4 * 1 + 3) 0 → r ≡ cond (eqb n 0) 1 0 → AsksHeld k IsEmpty s 0 r
  unfolding AsksHeld step call ask number
  empty_told n r e er = held_by (λ a. Tells (step k (tree a) (Ask IsEmpty)) 0 r) (λ t fl fp f h. record { reply = refl; figure = er ∙ ap (λ (m : ℕ). cond (eqb m 0) 1 0) (e ∙ size_read k s t fl fp f h ∙ sym (size_held k s t fl fp f h)) })

  pub empty_yes : (n : ℕ) → n ≡ get_or (words s.nodes) (4 * 1 + 3) 0 → n ≡ 0 → AsksHeld k IsEmpty s 0 1
  empty_yes n e z = empty_told n 1 e (sym (ap (λ (u : Bool). cond u 1 0) (eq-eqb n 0 z)))

  pub empty_no : (n : ℕ) → n ≡ get_or (words s.nodes) (4 * 1 + 3) 0 → n ≢ 0 → AsksHeld k IsEmpty s 0 0
  empty_no n e z = empty_told n 0 e (sym (ap (λ (u : Bool). cond u 1 0) (ne_eqb n 0 z)))

  module _ (p : Point) (b : List Side) (eb : b ≡ boundary_of k.axes (words s.head)) where
    pub contains_outside : inside b p.at ≡ false → AsksHeld k (Contains p) s 0 0
    unfolding AsksHeld step call ask number
    contains_outside o = held_by (λ a. Tells (step k (tree a) (Ask (Contains p))) 0 0)
        (λ t fl fp f h. record { reply = refl; figure = sym (ap (λ (u : Bool). cond u 1 0) (outside_no 32 (plan_of k s t).boundary p (plan_of k s t).root (ap (λ (c : List Side). inside c p.at) (sym eb) ∙ o))) })

    module _ (sp : Spot) (hd : ℕ) (pl : Place) (num : F64Point p) (isin : inside b p.at ≡ true) (esp : sp ≡ reach (ways k) (words s.nodes) p.at 32 b 1) (ehd : hd ≡ get_or (words s.nodes) (4 * sp.node + 1) 0)
        (epl : pl ≡ finds.seek (λ q. same p (point_at k.axes (words s.points) q)) (chain (length (words s.links)) (words s.links) hd) 0) where
      contains_told : (r : ℕ) → r ≡ cond (not (eqb pl.place 0)) 1 0 → AsksHeld k (Contains p) s 0 r
      unfolding AsksHeld step call ask number
      contains_told r er = held_by (λ a. Tells (step k (tree a) (Ask (Contains p))) 0 r)
          (λ t fl fp f h. record { reply = refl; figure = er ∙ sym (ap (λ (u : Bool). cond u 1 0) (contains_found k s t fl fp f h p b sp hd pl num eb isin esp ehd epl)) })

      pub contains_no : pl.place ≡ 0 → AsksHeld k (Contains p) s 0 0
      contains_no z = contains_told 0 (sym (ap (λ (u : Bool). cond (not u) 1 0) (eq-eqb pl.place 0 z)))

      pub contains_yes : pl.place ≢ 0 → AsksHeld k (Contains p) s 0 1
      contains_yes z = contains_told 1 (sym (ap (λ (u : Bool). cond (not u) 1 0) (ne_eqb pl.place 0 z)))

  -- ---- searches
  module _ (cs ms : List ℕ) (room : ℕ) where
    nothing : (a : Plan) (ps : List Point) → ps ≡ [] → Hands (search_call a room ps) cs ms cs ms 0 0
    unfolding search_call number
    nothing a ps e =
        subst (λ (l : List Point). Hands (search_call a room l) cs ms cs ms 0 0) (sym e)
        (subst (λ (u : Bool). Hands (elim u as (λ v. Outcome) [ true ↦ record { reply = done; state = tree a; figure = 0; points = [] } | false ↦ refuse no_room (tree a) ]) cs ms cs ms 0 0) (sym (le-leb 0 room (omega arith)))
        (record { reply = refl; figure = refl; coordinates = ap (sets cs 0) (sym none_written); payloads = ap (sets ms 0) (sym none_marked) }))

    pub radius_nothing : (c : List Float) (r : Float) → lt r plus_zero ≡ true → SearchesHeld k (Radius c r room) s cs ms cs ms 0 0
    unfolding SearchesHeld step call ask radius
    radius_nothing c r e a y = nothing a (radius c r 32 a.root) (ap (λ (z : Bool). elim z as (λ u. List Point) [ true ↦ [] | false ↦ keep (near c (mul binary64 r r)) (held 32 a.root) ]) e)

    pub nearest_nothing : (c : List Float) (m : ℕ) → m ≡ 0 → SearchesHeld k (Nearest c m room) s cs ms cs ms 0 0
    unfolding SearchesHeld step call ask nearest
    nearest_nothing c m e a y =
        nothing a (nearest (min m 512) c 32 a.boundary a.root)
        (ap (λ (j : ℕ). nearest j c 32 a.boundary a.root) (omega (arith, e)) ∙ ap (λ (l : List Entry). map (λ (x : Entry). x.item) l) (offers_none (map (entry c) (visit 32 a.boundary c a.root))))

    module _ (cs' ms' : List ℕ) (rep n : ℕ) where
      handed : (ps qs : List Point) (a : Plan) → ps ≡ qs → Handed room ps cs ms cs' ms' rep n → Hands (search_call a room qs) cs ms cs' ms' rep n
      unfolding Handed
      handed ps qs a e q = subst (λ (l : List Point). Hands (search_call a room l) cs ms cs' ms' rep n) e (q a)

      pub radius_given : (c : List Float) (r rr : Float) (b : List Side) (out out' : List ℕ) (m : ℕ) → All F64 c → length c ≡ k.axes → b ≡ boundary_of k.axes (words s.head) → rr ≡ mul binary64 r r → lt r plus_zero ≡ false → length out ≡ 512
          → Collects (λ n. not (lt rr (node_distance n c))) (λ p. le (squared (point_at k.axes (words s.points) p).at c) rr) (ways k) (words s.nodes) (words s.links) 32 b 1 out 0 out' m
          → Handed room (map (point_at k.axes (words s.points)) (take (min m 512) out')) cs ms cs' ms' rep n → SearchesHeld k (Radius c r room) s cs ms cs' ms' rep n
      unfolding SearchesHeld step call ask
      radius_given c r rr b out out' m fc lc eb er nr e q g = held_by (λ a. Hands (search_call a room (radius c r 32 a.root)) cs ms cs' ms' rep n)
          (λ t fl fp f h. handed _ _ (plan_of k s t) (radius_found k s t fl fp f h c r rr b out out' m fc lc eb er nr e q) g)

      pub box_given : (q b : List Side) (out out' : List ℕ) (m : ℕ) → All F64Side q → b ≡ boundary_of k.axes (words s.head) → length out ≡ 512
          → Collects (λ n. meets n q) (λ p. inside q (point_at k.axes (words s.points) p).at) (ways k) (words s.nodes) (words s.links) 32 b 1 out 0 out' m
          → Handed room (map (point_at k.axes (words s.points)) (take (min m 512) out')) cs ms cs' ms' rep n → SearchesHeld k (Box q room) s cs ms cs' ms' rep n
      unfolding SearchesHeld step call ask
      box_given q b out out' m fq eb e z g = held_by (λ a. Hands (search_call a room (box q 32 a.root)) cs ms cs' ms' rep n)
          (λ t fl fp f h. handed _ _ (plan_of k s t) (box_found k s t fl fp f h q b out out' m fq eb e z) g)

      pub nearest_given : (c : List Float) (m : ℕ) (b : List Side) (ds : List Float) (ps : List ℕ) (ds' : List Float) (ps' : List ℕ) (r : ℕ) → All F64 c → length c ≡ k.axes → b ≡ boundary_of k.axes (words s.head) → m ≢ 0 → length ds ≡ 512 → length ps ≡ 512
          → length ds' ≡ 512 → length ps' ≡ 512 → Seeks (point_at k.axes (words s.points)) c m (ways k) (words s.nodes) (words s.links) 32 b 1 ds ps 0 ds' ps' r
          → Handed room (map (point_at k.axes (words s.points)) (take (min r 512) ps')) cs ms cs' ms' rep n → SearchesHeld k (Nearest c m room) s cs ms cs' ms' rep n
      unfolding SearchesHeld step call ask
      nearest_given c m b ds ps ds' ps' r fc lc eb nz e1 e2 e3 e4 q g = held_by (λ a. Hands (search_call a room (nearest (min m 512) c 32 a.boundary a.root)) cs ms cs' ms' rep n)
          (λ t fl fp f h. handed _ _ (plan_of k s t) (nearest_found k s t fl fp f h c m b ds ps ds' ps' r fc lc eb nz e1 e2 e3 e4 q) g)
