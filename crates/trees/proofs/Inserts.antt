-- What an insertion does to a tree in words, one node at a time, and that it is the model's. Over any number of ways. Assumes nothing.
use mathlib.Core.Path.{◌≡◌, refl, ap, ap₂, sym, ◌∙◌, subst}
use mathlib.Core.Logic.{◌≢◌, ◌⊎◌, inl, inr}
use mathlib.Core.Bool.{Bool, true, false}
use mathlib.Core.List.{List, [], ◌∷◌, ◌++◌, map, append-nil, append_assoc}
use Prim.Native.Nat.{ℕ, zero, suc, ◌+◌, ◌*◌, ◌-◌, ◌%◌, ◌^◌, ◌<◌, ◌≤◌}
use native.Mathlib.Numerals.{sub-one}
use native.Mathlib.Omega.{arith}
use lib.Dec.{eqb}
use lib.Ieee.{Float}
use lib.ListN.{length, get_or, set, length-set, length-map, length-append, replicate, length-replicate, get_or-replicate}
use lib.Seq.{ext_get_or, get_or-set_same, get_or-set_other}
use borrow.Author.Tests.{eq-eqb, le-ltb, lt-ltb, ne_eqb}
use Rattle.model.specs.Boxes.{Side, part, route}
use Rattle.model.specs.Searches.{keep}
use Rattle.model.specs.Trees.{Point, Tree, bag, into}
use Rattle.model.specs.Trees as model
use Rattle.model.proofs.Counts.{Good, chosen, deal_length, good_bag, in_range, keep_length, part_ways}
use Rattle.model.proofs.Nearest.{map_append}
use Rattle.model.proofs.Room.{deal_at, needed, splits, splits_more, splits_room}
use Rattle.model.proofs.Short.{deal, goes, insert_s}
use Rattle.pool.specs.Lists.{is, occ, sum_of}
use Rattle.pool.specs.Meanings.{Appends, Splits}
use Rattle.pool.specs.Trees.{leaf, branch, PTree, flat, flats, none, erase, groups_at, places_at, size, dealt, dealt_from}
use Rattle.pool.specs.Worlds.{Rep, RepLeaf, World, Frame, Ready}
use Rattle.pool.specs.Writes.{Pool, both, kid, counted, turn_at}
use Rattle.pool.proofs.Down.{back, down_counted}
use Rattle.pool.proofs.Erase.{erase_flat}
use Rattle.pool.proofs.Frames.{same_then}
use Rattle.pool.proofs.Lists.{by-eq, ifz-no, ifz-yes, is_eq, is_other, occ_append, sum_at, sum_set}
use Rattle.pool.proofs.Deals.{dealt_long, dealt_occ, dealt_size}
use Rattle.pool.proofs.Trees.{flats_at, flats_groups, flats_places, flats_size, groups_flat, places_flat, size_flat}
use Rattle.trees.proofs.Descents.{Spot, child_erase, reach}
use Rattle.trees.proofs.Walks.{keep_at}
use Rattle.trees.proofs.Ways.{counted_all, counted_groups, reach_same, way, way_same}

-- the model's insertion into an undivided node, with room and full
insert_room : (w cap d : ℕ) (b : List Side) (p : Point) (ps : List Point) → length ps < cap → insert_s w cap (suc d) b p (model.leaf ps) ≡ model.leaf (ps ++ (p ∷ []))
unfolding insert_s
insert_room w cap d b p ps h = ap (λ (t : Bool). elim t as (λ u. Tree (suc d)) [ true ↦ model.leaf (ps ++ (p ∷ [])) | false ↦ model.branch (into d (insert_s w cap d) b p (deal d b ps 0 w)) ]) (lt-ltb (length ps) cap h)

insert_full : (w cap d : ℕ) (b : List Side) (p : Point) (ps : List Point) → cap ≤ length ps → insert_s w cap (suc d) b p (model.leaf ps) ≡ model.branch (into d (insert_s w cap d) b p (deal d b ps 0 w))
unfolding insert_s
insert_full w cap d b p ps h = ap (λ (t : Bool). elim t as (λ u. Tree (suc d)) [ true ↦ model.leaf (ps ++ (p ∷ [])) | false ↦ model.branch (into d (insert_s w cap d) b p (deal d b ps 0 w)) ]) (le-ltb (length ps) cap h)

pub map_set : {A B : Type 0} (f : A → B) (ts : List A) (c : ℕ) (t : A) → map f (set ts c t) ≡ set (map f ts) c (f t)
map_set f [] c t = refl
map_set f (u ∷ ts) zero t = refl
map_set f (u ∷ ts) (suc c) t = ap (λ s. f u ∷ s) (map_set f ts c t)

module _ (ways cap : ℕ) (pt : ℕ → Point) where
  -- the tree and the free groups afterwards
  pub record Grown (d : ℕ) (b : List Side) (s r : Pool) (i p : ℕ) (t : PTree d) (fl fp : List ℕ) : Type 0 where
    pub tree : PTree d
    pub free : List ℕ
    pub world : World d ways r i tree free fp
    pub frame : Frame d ways s r i t fl (p ∷ [])
    pub erased : erase pt d tree ≡ insert_s ways cap d b (pt p) (erase pt d t)
    pub groups : (g : ℕ) → groups_at d g tree + occ g free ≡ groups_at d g t + occ g fl
    pub places : (q : ℕ) → places_at d q tree ≡ places_at d q t + is q p
    pub sizes : size d tree ≡ suc (size d t)
    pub left : length free + needed cap d b (pt p) (erase pt d t) ≡ length fl

  -- place p into the tree at node i, which has the box b
  unfoldable pub Inserts : (d : ℕ) → List Side → Pool → Pool → ℕ → ℕ → Type 0
  Inserts d b s r i p = (t : PTree d) (fl fp : List ℕ) → World d ways s i t fl fp → Ready d s t fp p → 0 < ways → 2 ^ length b ≡ ways → Good ways cap d b (erase pt d t) → needed cap d b (pt p) (erase pt d t) ≤ length fl
      → Grown d b s r i p t fl fp

  -- ---- at the end of a list
  bag_grown : (d : ℕ) (b : List Side) (p : ℕ) (l : List ℕ) → ((d ≡ 0) ⊎ (length l < cap)) → (erase pt d (flat d (l ++ (p ∷ []))) ≡ insert_s ways cap d b (pt p) (erase pt d (flat d l))) × (needed cap d b (pt p) (erase pt d (flat d l)) ≡ 0)
  unfolding erase insert_s needed
  bag_grown zero b p l h = (map_append pt l (p ∷ []), refl)
  bag_grown (suc d) b p l (inl e) = absurd (omega arith)
  bag_grown (suc d) b p l (inr h) = (
    ap model.leaf (map_append pt l (p ∷ [])) ∙ sym (insert_room ways cap d b (pt p) (map pt l) (omega (arith, h, length-map l pt))),
    splits_room cap (suc d) b (pt p) (map pt l) (omega (arith, h, length-map l pt)),
  )

  append_grown : (d : ℕ) (b : List Side) (s r : Pool) (i p : ℕ) (l fl fp : List ℕ) → ((d ≡ 0) ⊎ (length l < cap)) → Appends s r i p → World d ways s i (flat d l) fl fp → Ready d s (flat d l) fp p → 0 < ways
      → Grown d b s r i p (flat d l) fl fp
  unfolding Appends
  append_grown d b s r i p l fl fp h ap w rd lw =
      let q = ap d ways l fl fp lw w rd in
      let e = bag_grown d b p l h in
      record {
        tree = flat d (l ++ (p ∷ []));
        free = fl;
        world = q.0;
        frame = q.1;
        erased = e.0;
        groups = λ g. omega (arith, groups_flat d g l, groups_flat d g (l ++ (p ∷ [])));
        places = λ v. omega (arith, places_flat d v l, places_flat d v (l ++ (p ∷ [])), occ_append v l (p ∷ []));
        sizes = omega (arith, size_flat d l, size_flat d (l ++ (p ∷ [])), length-append l (p ∷ []));
        left = omega (arith, e.1);
      }

  -- ---- into a divided node
  need_branch : (d : ℕ) (b : List Side) (p g : ℕ) (ts : List (PTree d)) → needed cap (suc d) b (pt p) (erase pt (suc d) (branch g ts)) ≡ needed cap d (part b (route b (pt p).at)) (pt p) (erase pt d (get_or ts (route b (pt p).at) (none d)))
  unfolding needed erase
  need_branch d b p g ts = ap (needed cap d (part b (route b (pt p).at)) (pt p)) (child_erase pt d ts (route b (pt p).at))

  branch_erase : (d : ℕ) (b : List Side) (p g : ℕ) (ts us : List (PTree d)) → map (erase pt d) us ≡ into d (insert_s ways cap d) b (pt p) (map (erase pt d) ts) → erase pt (suc d) (branch g us) ≡ insert_s ways cap (suc d) b (pt p) (erase pt (suc d) (branch g ts))
  unfolding erase insert_s
  branch_erase d b p g ts us e = ap model.branch e

  into_erase : (d : ℕ) (b : List Side) (p : ℕ) (ts : List (PTree d)) (t : PTree d) → erase pt d t ≡ insert_s ways cap d (part b (route b (pt p).at)) (pt p) (erase pt d (get_or ts (route b (pt p).at) (none d)))
      → map (erase pt d) (set ts (route b (pt p).at) t) ≡ into d (insert_s ways cap d) b (pt p) (map (erase pt d) ts)
  unfolding into
  into_erase d b p ts t e =
      map_set (erase pt d) ts (route b (pt p).at) t
      ∙ ap (set (map (erase pt d) ts) (route b (pt p).at)) (e ∙ ap (insert_s ways cap d (part b (route b (pt p).at)) (pt p)) (sym (child_erase pt d ts (route b (pt p).at))))

  module _ (d : ℕ) (b : List Side) (s : Pool) (i p g : ℕ) (ts : List (PTree d)) (fl fp : List ℕ) (w : World (suc d) ways s i (branch g ts) fl fp) (rd : Ready (suc d) s (branch g ts) fp p) (eb : 2 ^ length b ≡ ways) where
    abbrev c : ℕ
    c = route b (pt p).at

    abbrev v : ℕ
    v = (get_or s.nodes (4 * i + 3) 0 + 1) % 4294967296

    lc : route b (pt p).at < ways
    lc = in_range ways cap b (pt p) ways eb refl

    lt : route b (pt p).at < length ts
    lt = omega (arith, lc, w.rep.4)

    ready : (n : List ℕ) → Ready d (both n s.links) (get_or ts c (none d)) fp p
    ready n = record {
      out = omega (arith, rd.out, sum_at (places_at d p) ts c (none d) lt);
      nonzero = rd.nonzero;
      inside = rd.inside;
      few = omega (arith, rd.few, sum_at (size d) ts c (none d) lt);
    }

    once : (q : ℕ) → sum_of (places_at d q) ts + occ q fp + occ q (p ∷ []) ≤ 1
    once q = by-eq q p (λ e. omega (arith, is_eq q p e, ap (λ (u : ℕ). sum_of (places_at d u) ts + occ u fp) e ∙ rd.out)) (λ e. omega (arith, is_other q p e, w.places q))

    pub enter_grown : (r : Pool) (n : List ℕ) → n ≡ counted s.nodes i → Inserts d (part b c) (both n s.links) r (kid ways g c) p → 0 < ways → Good ways cap d (part b c) (erase pt d (get_or ts c (none d)))
        → needed cap d (part b c) (pt p) (erase pt d (get_or ts c (none d))) ≤ length fl → Grown (suc d) b s r i p (branch g ts) fl fp
    unfolding Inserts counted
    enter_grown r n en go lw gd le =
        done (go (get_or ts c (none d)) fl fp (down_counted d ways s i g ts fl fp w n c v lc en) (ready n) lw (part_ways ways cap b c eb) gd le)
      where
        done : Grown d (part b c) (both n s.links) r (kid ways g c) p (get_or ts c (none d)) fl fp → Grown (suc d) b s r i p (branch g ts) fl fp
        done gr =
            let q = back d ways s i g ts fl fp w n r c v gr.tree gr.free fp (p ∷ []) lc en
            (omega (arith, w.rep.3, rd.few, gr.sizes, sum_set (size d) ts c gr.tree (none d) lt)) gr.groups (λ u. omega (arith, gr.places u)) once gr.world gr.frame in
            record {
              tree = branch g (set ts c gr.tree);
              free = gr.free;
              world = q.0;
              frame = q.1;
              erased = branch_erase d b p g ts (set ts c gr.tree) (into_erase d b p ts gr.tree gr.erased);
              groups = λ h. omega (arith, gr.groups h, sum_set (groups_at d h) ts c gr.tree (none d) lt);
              places = λ u. omega (arith, gr.places u, sum_set (places_at d u) ts c gr.tree (none d) lt);
              sizes = omega (arith, gr.sizes, sum_set (size d) ts c gr.tree (none d) lt);
              left = omega (arith, gr.left, need_branch d b p g ts);
            }

  -- ---- the routes of a list's points, as a split gets them
  -- every point of a list goes to the list that its route says
  dealt_keep : (b : List Side) (ts : List ℕ) (j : ℕ) (l : List ℕ) (ls : List (List ℕ)) (c : ℕ) → ((k : ℕ) → k < length l → turn_at ways ts (j + k) ≡ route b (pt (get_or l k 0)).at) → ((q : ℕ) → route b (pt q).at < length ls)
      → get_or (dealt_from ways ts j l ls) c [] ≡ get_or ls c [] ++ keep (λ q. eqb (route b (pt q).at) c) l
  unfolding dealt_from keep
  dealt_keep b ts j [] ls c h lr = sym (append-nil (get_or ls c []))
  dealt_keep b ts j (q ∷ l) ls c h lr =
      ap (λ (t : ℕ). get_or (dealt_from ways ts (suc j) l (set ls t (get_or ls t [] ++ (q ∷ [])))) c []) turn
      ∙ dealt_keep b ts (suc j) l (set ls e (get_or ls e [] ++ (q ∷ []))) c (λ k lk. ap (turn_at ways ts) {x = suc j + k} {y = j + suc k} (omega arith) ∙ h (suc k) (omega arith)) (λ u. omega (arith, lr u, length-set ls e (get_or ls e [] ++ (q ∷ []))))
      ∙ by-eq e c
      (λ k. ap (λ (u : List ℕ). u ++ keep f l) (ap (λ (i : ℕ). get_or (set ls i (get_or ls i [] ++ (q ∷ []))) c []) k ∙ get_or-set_same ls c (get_or ls c [] ++ (q ∷ [])) [] (subst (λ (i : ℕ). i < length ls) k (lr q)))
      ∙ append_assoc (get_or ls c []) (q ∷ []) (keep f l) ∙ ap (λ (t : Bool). get_or ls c [] ++ elim t as (λ u. List ℕ) [ true ↦ q ∷ keep f l | false ↦ keep f l ]) (sym (eq-eqb e c k)))
      (λ k. ap (λ (u : List ℕ). u ++ keep f l) (get_or-set_other ls e c (get_or ls e [] ++ (q ∷ [])) [] (λ z. k (sym z)))
      ∙ ap (λ (t : Bool). get_or ls c [] ++ elim t as (λ u. List ℕ) [ true ↦ q ∷ keep f l | false ↦ keep f l ]) (sym (ne_eqb e c k)))
    where
      e : ℕ
      e = route b (pt q).at

      f : ℕ → Bool
      f u = eqb (route b (pt u).at) c

      turn : turn_at ways ts j ≡ route b (pt q).at
      turn = ap (turn_at ways ts) {x = j} {y = j + 0} (omega arith) ∙ h 0 (omega arith)

  -- ---- a split
  abbrev pub Turns : List Side → List ℕ → List ℕ → Type 0
  Turns b ts l = (k : ℕ) → k < length l → turn_at ways ts k ≡ route b (pt (get_or l k 0)).at

  dealt_erase : (d : ℕ) (b : List Side) (ts l : List ℕ) → 2 ^ length b ≡ ways → Turns b ts l → map (erase pt d) (flats d (dealt ways ts l)) ≡ deal d b (map pt l) 0 ways
  unfolding dealt
  dealt_erase d b ts l eb tr =
      ext_get_or (bag d []) (map (erase pt d) (flats d (dealt ways ts l))) (deal d b (map pt l) 0 ways) (long ∙ sym (deal_length d b (map pt l) 0 ways)) (λ c h. at c (omega (arith, h, long)))
    where
      long : length (map (erase pt d) (flats d (dealt ways ts l))) ≡ ways
      long = length-map (flats d (dealt ways ts l)) (erase pt d) ∙ length-map (dealt ways ts l) (flat d) ∙ dealt_long ways ts l

      at : (c : ℕ) → c < ways → get_or (map (erase pt d) (flats d (dealt ways ts l))) c (bag d []) ≡ get_or (deal d b (map pt l) 0 ways) c (bag d [])
      at c lc =
          child_erase pt d (flats d (dealt ways ts l)) c ∙ ap (erase pt d) (flats_at d (dealt ways ts l) c) ∙ erase_flat pt d (get_or (dealt ways ts l) c [])
          ∙ ap (λ (u : List ℕ). bag d (map pt u)) (dealt_keep b ts 0 l (replicate ways []) c (λ k lk. ap (turn_at ways ts) {x = 0 + k} {y = k} (omega arith) ∙ tr k lk) (λ q. omega (arith, in_range ways cap b (pt q) ways eb refl, length-replicate {A = List ℕ} ways []))
          ∙ ap (λ (u : List ℕ). u ++ keep (λ q. eqb (route b (pt q).at) c) l) (get_or-replicate {A = List ℕ} ways c [] [] lc))
          ∙ ap (bag d) (keep_at pt (λ u. true) (goes b c) l)
          ∙ sym (deal_at d b (map pt l) 0 ways c lc ∙ ap (λ (m : ℕ). bag d (keep (goes b m) (map pt l))) {x = 0 + c} {y = c} (omega arith))

  need_bag : (d : ℕ) (b : List Side) (p : ℕ) (ps : List Point) → needed cap d b (pt p) (bag d ps) ≡ splits cap d b (pt p) ps
  unfolding needed bag splits
  need_bag zero b p ps = refl
  need_bag (suc d) b p ps = refl

  module _ (d : ℕ) (b : List Side) (s s1 : Pool) (i p g : ℕ) (ts l fl fp : List ℕ) (w : World (suc d) ways s i (leaf l) (g ∷ fl) fp) (rd : Ready (suc d) s (leaf l) fp p) (eb : 2 ^ length b ≡ ways) (lw : 0 < ways)
      (w1 : World (suc d) ways s1 i (branch g (flats d (dealt ways ts l))) fl fp) (f1 : Frame (suc d) ways s s1 i (leaf l) (g ∷ fl) []) (tr : Turns b ts l) where
    abbrev ks : List (PTree d)
    ks = flats d (dealt ways ts l)

    abbrev e : ℕ
    e = route b (pt p).at

    kids_places : (q : ℕ) → sum_of (places_at d q) ks ≡ occ q l
    kids_places q = flats_places d q (dealt ways ts l) ∙ dealt_occ ways ts l q lw

    kids_size : sum_of (size d) ks ≡ length l
    kids_size = flats_size d (dealt ways ts l) ∙ dealt_size ways ts l lw

    ready_split : Ready (suc d) s1 (branch g ks) fp p
    ready_split = record {
      out = omega (arith, rd.out, kids_places p);
      nonzero = rd.nonzero;
      inside = omega (arith, rd.inside, f1.len_x);
      few = omega (arith, rd.few, kids_size);
    }

    -- the child that gets the point
    kid_erase : erase pt d (get_or ks e (none d)) ≡ bag d (keep (goes b e) (map pt l))
    kid_erase = sym (child_erase pt d ks e) ∙ ap (λ (us : List (Tree d)). get_or us e (bag d [])) (dealt_erase d b ts l eb tr)
        ∙ deal_at d b (map pt l) 0 ways e (in_range ways cap b (pt p) ways eb refl) ∙ ap (λ (m : ℕ). bag d (keep (goes b m) (map pt l))) {x = 0 + e} {y = e} (omega arith)

    need_split : length l ≤ cap → cap ≤ length l → needed cap (suc d) b (pt p) (erase pt (suc d) (leaf l)) ≡ suc (needed cap d (part b e) (pt p) (erase pt d (get_or ks e (none d))))
    unfolding needed erase
    need_split h k = splits_more cap d b (pt p) (map pt l) (omega (arith, h, length-map l pt)) (omega (arith, k, length-map l pt)) ∙ ap suc (sym (ap (needed cap d (part b e) (pt p)) kid_erase ∙ need_bag d (part b e) p (keep (goes b e) (map pt l))))

    split_insert : cap ≤ length l → insert_s ways cap (suc d) b (pt p) (erase pt (suc d) (branch g ks)) ≡ insert_s ways cap (suc d) b (pt p) (erase pt (suc d) (leaf l))
    unfolding erase insert_s
    split_insert k = ap (λ (us : List (Tree d)). model.branch (into d (insert_s ways cap d) b (pt p) us)) (dealt_erase d b ts l eb tr) ∙ sym (insert_full ways cap d b (pt p) (map pt l) (omega (arith, k, length-map l pt)))

    pub split_grown : (r : Pool) → length l ≤ cap → cap ≤ length l → Grown (suc d) b s1 r i p (branch g ks) fl fp → Grown (suc d) b s r i p (leaf l) (g ∷ fl) fp
    unfolding erase
    split_grown r h k gr = record {
      tree = gr.tree;
      free = gr.free;
      world = gr.world;
      frame = record {
        len_n = gr.frame.len_n ∙ f1.len_n;
        len_x = gr.frame.len_x ∙ f1.len_x;
        nodes = λ q o. same_then (gr.frame.nodes q (o.0, o.1, λ u c lc z. omega (arith, o.2 u c lc z, flats_groups d u (dealt ways ts l)))) (f1.nodes q o);
        links = λ q z. gr.frame.links q (omega (arith, z, kids_places q)) ∙ f1.links q (omega (arith, z));
      };
      erased = gr.erased ∙ split_insert k;
      groups = λ u. omega (arith, gr.groups u, flats_groups d u (dealt ways ts l));
      places = λ q. omega (arith, gr.places q, kids_places q);
      sizes = omega (arith, gr.sizes, kids_size);
      left = omega (arith, gr.left, need_split h k, need_branch d b p g ks);
    }

  -- the routed child of a good tree
  kid_good : (d : ℕ) (b : List Side) (p g : ℕ) (ts : List (PTree d)) → 2 ^ length b ≡ ways → Good ways cap (suc d) b (erase pt (suc d) (branch g ts))
      → Good ways cap d (part b (route b (pt p).at)) (erase pt d (get_or ts (route b (pt p).at) (none d)))
  unfolding erase
  kid_good d b p g ts eb gd = subst (Good ways cap d (part b (route b (pt p).at))) (child_erase pt d ts (route b (pt p).at)) (chosen ways cap d b (pt p) (map (erase pt d) ts) eb gd.0 gd.2).1

  -- ---- the three ways of the code, at an undivided node
  unfoldable pub Fills : (d : ℕ) → List Side → Pool → Pool → ℕ → ℕ → Type 0
  unfolding Inserts
  Fills d b s r i p = get_or s.nodes (4 * i) 0 ≡ 0 → Inserts d b s r i p

  pub fills_last : (d : ℕ) (b : List Side) (s r : Pool) (i p : ℕ) → d ≡ 0 → Appends s r i p → Fills d b s r i p
  unfolding Fills Inserts
  fills_last zero b s r i p e q z l fl fp w rd lw eb gd le = append_grown zero b s r i p l fl fp (inl refl) q w rd lw
  fills_last (suc d) b s r i p e q z t fl fp w rd lw eb gd le = absurd (omega arith)

  pub fills_room : (d : ℕ) (b : List Side) (s r : Pool) (i p m : ℕ) → m ≡ get_or s.nodes (4 * i + 3) 0 → m < cap → Appends s r i p → Fills d b s r i p
  unfolding Fills Inserts
  fills_room zero b s r i p m em h q z l fl fp w rd lw eb gd le = append_grown zero b s r i p l fl fp (inl refl) q w rd lw
  fills_room (suc d) b s r i p m em h q z (leaf l) fl fp w rd lw eb gd le = append_grown (suc d) b s r i p l fl fp (inr (omega (arith, em, h, w.rep.4))) q w rd lw
  fills_room (suc d) b s r i p m em h q z (branch g ts) fl fp w rd lw eb gd le = absurd (w.rep.2 (sym w.rep.1 ∙ z))

  enter_any : (d : ℕ) (b : List Side) (s r : Pool) (i p g : ℕ) (ts : List (PTree d)) (fl fp n : List ℕ) → n ≡ counted s.nodes i → Inserts d (part b (route b (pt p).at)) (both n s.links) r (kid ways g (route b (pt p).at)) p
      → World (suc d) ways s i (branch g ts) fl fp → Ready (suc d) s (branch g ts) fp p → 0 < ways → 2 ^ length b ≡ ways → Good ways cap d (part b (route b (pt p).at)) (erase pt d (get_or ts (route b (pt p).at) (none d)))
      → needed cap (suc d) b (pt p) (erase pt (suc d) (branch g ts)) ≤ length fl → Grown (suc d) b s r i p (branch g ts) fl fp
  enter_any d b s r i p g ts fl fp n en go w rd lw eb gd le = enter_grown d b s i p g ts fl fp w rd eb r n en go lw gd (subst (λ (m : ℕ). m ≤ length fl) (need_branch d b p g ts) le)

  -- along the way: each node that is passed counts one more, and the node where it ends is filled
  module _ (r : Pool) (p : ℕ) where
    abbrev Ended : Pool → Spot → List ℕ → Type 0
    Ended s e w = Fills e.levels e.box (both (counted_all s.nodes w) s.links) r e.node p

    abbrev aim : List Float
    aim = (pt p).at

    pub inserts_along : (d : ℕ) (b : List Side) (s : Pool) (i : ℕ) → Ended s (reach ways s.nodes aim d b i) (way ways s.nodes aim d b i) → Inserts d b s r i p
    unfolding Inserts Fills reach way counted_all
    inserts_along zero b s i go l fl fp w rd lw eb gd le = go w.rep.1 l fl fp w rd lw eb gd le
    inserts_along (suc d) b s i go (leaf l) fl fp w rd lw eb gd le =
        subst (Ended s (record { node = i; box = b; levels = suc d })) (ifz-yes (get_or s.nodes (4 * i) 0) _ _ w.rep.1) (subst (λ (e : Spot). Ended s e (way ways s.nodes aim (suc d) b i)) (ifz-yes (get_or s.nodes (4 * i) 0) _ _ w.rep.1) go)
        w.rep.1 (leaf l) fl fp w rd lw eb gd le
    inserts_along (suc d) b s i go (branch g ts) fl fp w rd lw eb gd le =
        let n = counted s.nodes i in
        let c = route b aim in
        let nz : get_or s.nodes (4 * i) 0 ≢ 0 = λ e. w.rep.2 (sym w.rep.1 ∙ e) in
        let er : reach ways s.nodes aim (suc d) b i ≡ reach ways n aim d (part b c) (kid ways g c) =
        ifz-no (get_or s.nodes (4 * i) 0) _ _ nz ∙ ap (λ (u : ℕ). reach ways s.nodes aim d (part b c) (kid ways u c)) w.rep.1 ∙ sym (reach_same ways s.nodes n aim (counted_groups s.nodes i) d (part b c) (kid ways g c)) in
        let ew : way ways s.nodes aim (suc d) b i ≡ i ∷ way ways n aim d (part b c) (kid ways g c) =
        ifz-no (get_or s.nodes (4 * i) 0) _ _ nz ∙ ap (λ (u : ℕ). i ∷ way ways s.nodes aim d (part b c) (kid ways u c)) w.rep.1 ∙ ap (λ (l : List ℕ). i ∷ l) (sym (way_same ways s.nodes n aim (counted_groups s.nodes i) d (part b c) (kid ways g c))) in
        enter_any d b s r i p g ts fl fp n refl
        (inserts_along d (part b c) (both n s.links) (kid ways g c) (subst (Ended s (reach ways n aim d (part b c) (kid ways g c))) ew (subst (λ (e : Spot). Ended s e (way ways s.nodes aim (suc d) b i)) er go)))
        w rd lw eb (kid_good d b p g ts eb gd) le

  leaf_good : (d : ℕ) (b : List Side) (l : List ℕ) → Good ways cap (suc d) b (erase pt (suc d) (leaf l)) → length l ≤ cap
  unfolding erase
  leaf_good d b l gd = omega (arith, gd, length-map l pt)

  need_full : (d : ℕ) (b : List Side) (p : ℕ) (l : List ℕ) → length l ≤ cap → cap ≤ length l → 1 ≤ needed cap (suc d) b (pt p) (erase pt (suc d) (leaf l))
  unfolding needed erase
  need_full d b p l h k = omega (arith, splits_more cap d b (pt p) (map pt l) (omega (arith, h, length-map l pt)) (omega (arith, k, length-map l pt)))

  split_any : (d : ℕ) (b : List Side) (s s1 r : Pool) (i p g : ℕ) (ts l fl fp n : List ℕ) → World (suc d) ways s i (leaf l) (g ∷ fl) fp → Ready (suc d) s (leaf l) fp p → 2 ^ length b ≡ ways → 0 < ways
      → World (suc d) ways s1 i (branch g (flats d (dealt ways ts l))) fl fp → Frame (suc d) ways s s1 i (leaf l) (g ∷ fl) [] → Turns b ts l → n ≡ counted s1.nodes i
      → Inserts d (part b (route b (pt p).at)) (both n s1.links) r (kid ways g (route b (pt p).at)) p → length l ≤ cap → cap ≤ length l
      → needed cap (suc d) b (pt p) (erase pt (suc d) (leaf l)) ≤ suc (length fl) → Grown (suc d) b s r i p (leaf l) (g ∷ fl) fp
  split_any d b s s1 r i p g ts l fl fp n w rd eb lw w1 f1 tr en go h k le =
      split_grown d b s s1 i p g ts l fl fp w rd eb lw w1 f1 tr r h k
      (enter_any d b s1 r i p g (flats d (dealt ways ts l)) fl fp n en go w1 (ready_split d b s s1 i p g ts l fl fp w rd eb lw w1 f1 tr) lw eb
      (subst (Good ways cap d (part b (route b (pt p).at))) (sym (kid_erase d b s s1 i p g ts l fl fp w rd eb lw w1 f1 tr)) (good_bag ways cap d (part b (route b (pt p).at)) (keep (goes b (route b (pt p).at)) (map pt l)) (omega (arith, h, keep_length (goes b (route b (pt p).at)) (map pt l), length-map l pt))))
      (omega (arith, le, need_split d b s s1 i p g ts l fl fp w rd eb lw w1 f1 tr h k, need_branch d b p g (flats d (dealt ways ts l)))))

  -- the children of a node that was just divided are undivided
  kid_flat : (d : ℕ) (n x : List ℕ) (i : ℕ) (l : List ℕ) → Rep d ways n x i (flat d l) → get_or n (4 * i) 0 ≡ 0
  kid_flat zero n x i l q = q.1
  kid_flat (suc d) n x i l q = q.1

  fills_same : (d d' : ℕ) (b b' : List Side) (s r : Pool) (j j' p : ℕ) → d ≡ d' → b ≡ b' → j ≡ j' → Fills d b s r j p → Fills d' b' s r j' p
  fills_same d d' b b' s r j j' p ed eb ej q = subst (λ (u : ℕ). Fills d' b' s r u p) ej (subst (λ (u : List Side). Fills d' u s r j p) eb (subst (λ (u : ℕ). Fills u b s r j p) ed q))

  -- a full list is split first, then its place goes on into the child
  pub fills_split : (d : ℕ) (b : List Side) (s s1 r : Pool) (i p m g c j : ℕ) (b' : List Side) (n ts : List ℕ) → m ≡ get_or s.nodes (4 * i + 3) 0 → cap ≤ m → d ≢ 0
      → Splits ways ts s s1 i g → ((l : List ℕ) → RepLeaf s.nodes s.links i l → ((q : ℕ) → occ q l ≤ 1) → Turns b ts l) → c ≡ route b (pt p).at → n ≡ counted s1.nodes i → j ≡ kid ways g c → b' ≡ part b c
      → Fills (d - 1) b' (both n s1.links) r j p → Fills d b s r i p
  unfolding Fills Inserts Splits
  fills_split zero b s s1 r i p m g c j b' n ts em h dz sp tr ec en ej eb' go z t fl fp w rd lw eb gd le = absurd (dz refl)
  fills_split (suc d) b s s1 r i p m g c j b' n ts em h dz sp tr ec en ej eb' go z (branch u us) fl fp w rd lw eb gd le = absurd (w.rep.2 (sym w.rep.1 ∙ z))
  fills_split (suc d) b s s1 r i p m g c j b' n ts em h dz sp tr ec en ej eb' go z (leaf l) [] fp w rd lw eb gd le = absurd (omega (arith, le, need_full d b p l (leaf_good d b l gd) (omega (arith, em, h, w.rep.4))))
  fills_split (suc d) b s s1 r i p m g c j b' n ts em h dz sp tr ec en ej eb' go z (leaf l) (f ∷ fl) fp w rd lw eb gd le =
      let q = sp d l f fl fp lw w rd.few in
      let a = route b (pt p).at in
      let la : a < ways = in_range ways cap b (pt p) ways eb refl in
      let flat-kid = subst (Rep d ways s1.nodes s1.links (kid ways f a)) (flats_at d (dealt ways ts l) a) (q.1.rep.5 a la) in
      split_any d b s s1 r i p f ts l fl fp n w rd eb lw q.1 q.2 (tr l w.rep (λ v. omega (arith, w.places v))) en
      (fills_same (suc d - 1) d b' (part b a) (both n s1.links) r j (kid ways f a) p (sub-one (suc d)) (eb' ∙ ap (part b) ec) (ej ∙ ap₂ (kid ways) q.0 ec) go
      (ap (λ (u : List ℕ). get_or u (4 * kid ways f a) 0) en ∙ counted_groups s1.nodes i (kid ways f a) ∙ kid_flat d s1.nodes s1.links (kid ways f a) (get_or (dealt ways ts l) a []) flat-kid))
      (leaf_good d b l gd) (omega (arith, em, h, w.rep.4)) le
