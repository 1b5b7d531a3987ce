-- The soundness test of whole pieces says yes exactly when they hold a sound tree. Over both trees. Assumes nothing.
use mathlib.Core.Path.{◌≡◌, refl, ap, ap₂, sym, ◌∙◌, subst}
use mathlib.Core.Logic.{◌≢◌}
use mathlib.Core.Bool.{Bool, true, false, not, ◌&&◌}
use mathlib.Core.List.{List, [], ◌∷◌, ◌++◌, map, flatten}
use Prim.Native.Nat.{ℕ, zero, suc, ◌+◌, ◌-◌, ◌*◌, ◌^◌, ◌<◌, ◌≤◌}
use native.Mathlib.Omega.{arith}
use native.Mathlib.Nat.{mul-le-mul_left}
use lib.Dec.{T, eqb}
use borrow.Author.Tests.{not-true, not-false, eq-eqb, eqb-true}
use lib.ListN.{length, get_or, length-map, replicate, length-replicate}
use lib.Ieee.Bits.{is_true}
use Rattle.model.specs.Boxes.{Side, part, route, acceptable}
use Rattle.model.specs.Trees.{Point, held}
use Rattle.model.specs.Calls.{Kind, ways, Plan}
use Rattle.model.specs.Soundness.{All, Each, Sound, AllOrNone, Routed, LeavesFit, BranchesFull}
use Rattle.model.proofs.Counts.{part_length}
use Rattle.model.proofs.Inside.{F64}
use Rattle.model.proofs.Lists.{all_append, all_map}
use Rattle.words.specs.Words.{words}
use Rattle.pool.specs.Lists.{occ, Chain}
use Rattle.pool.specs.Trees.{leaf, branch, PTree, none, erase, groups_at, places_at}
use Rattle.pool.specs.Worlds.{Free, World}
use Rattle.pool.specs.Writes.{pool, kid}
use Rattle.pool.proofs.Chains.{once_short}
use Rattle.pool.proofs.Erase.{erase_count}
use Rattle.pool.proofs.Frames.{rep_full}
use Rattle.pool.proofs.Lists.{by_lt, is_other, pos}
use Rattle.pool.proofs.Read.{rep_unique}
use Rattle.pool.proofs.Trees.{Full}
use Rattle.pool.proofs.Worlds.{no_group_zero}
use Rattle.trees.specs.Points.{point_at}
use Rattle.trees.specs.Pieces.{Pieces, Fits, boundary_of, capacity_of, plan_of, Holds, Sane, Decides}
use Rattle.trees.proofs.Areas.{Bound, F64Bound, lies, narrowed, whole, narrowed_lies, narrowed_held, narrowed_length, whole_lies, whole_held, whole_length}
use Rattle.trees.proofs.Held.{boundary_f64, boundary_length, links_long, nodes_long, point_regular}
use Rattle.trees.proofs.Heads.{both}
use Rattle.trees.proofs.Checks.{Tested, Proper, Found, Checks, Sized}
use Rattle.trees.proofs.Marks.{Linked, Listed, Walks, AllMet, always, Frees, FreedPlaces, FreedGroups, Rest}
use Rattle.trees.proofs.Tests.{fails, no_true}

-- ---- every point of a tree with place numbers
module _ (P : ℕ → Type 0) where
  abbrev pub Everywhere : (d : ℕ) → PTree d → Type 0
  Everywhere zero l = All P l
  Everywhere (suc d) (leaf l) = All P l
  Everywhere (suc d) (branch k ts) = All (Everywhere d) ts

two : {A : Type 0} {P Q R : A → Type 0} → ((q : A) → P q → Q q → R q) → (l : List A) → All P l → All Q l → All R l
two f [] e h = tt
two f (q ∷ l) e h = (f q e.0 h.0, two f l e.1 h.1)

rows_held : {A B C : Type 0} (h : B → List C) (g : A → B) (Q : C → Type 0) (P : A → Type 0) → ((t : A) → P t → All Q (h (g t))) → (ts : List A) → All P ts → All Q (flatten (map h (map g ts)))
unfolding flatten
rows_held h g Q P go [] e = tt
rows_held h g Q P go (t ∷ ts) e = all_append Q (h (g t)) (flatten (map h (map g ts))) (go t e.0) (rows_held h g Q P go ts e.1)

held_rows : {A B C : Type 0} (h : B → List C) (g : A → B) (Q : C → Type 0) (P : A → Type 0) → ((t : A) → All Q (h (g t)) → P t) → (ts : List A) → All Q (flatten (map h (map g ts))) → All P ts
unfolding flatten
held_rows h g Q P go [] e = tt
held_rows h g Q P go (t ∷ ts) e = let q = all_split Q (h (g t)) (flatten (map h (map g ts))) e in (go t q.0, held_rows h g Q P go ts q.1)
  where
    all_split : {A : Type 0} (P : A → Type 0) (l m : List A) → All P (l ++ m) → All P l × All P m
    all_split P [] m e = (tt, e)
    all_split P (q ∷ l) m e = let r = all_split P l m e.1 in ((e.0, r.0), r.1)

full_all : (d ways : ℕ) (ts : List (PTree d)) → (length ts ≡ ways) × ((c : ℕ) → c < ways → Full d ways (get_or ts c (none d))) → All (Full d ways) ts
full_all d ways ts f = all_at (Full d ways) (none d) ts (λ c l. f.1 c (omega (arith, l, f.0)))
  where
    all_at : {A : Type 0} (P : A → Type 0) (z : A) (ts : List A) → ((c : ℕ) → c < length ts → P (get_or ts c z)) → All P ts
    all_at P z [] f = tt
    all_at P z (t ∷ ts) f = (f 0 (omega arith), all_at P z ts (λ c l. f (suc c) (omega arith)))

everywhere_as : (P Q : ℕ → Type 0) → ((q : ℕ) → P q → Q q) → (d : ℕ) (t : PTree d) → Everywhere P d t → Everywhere Q d t
everywhere_as P Q f zero l e = all_map P Q l f e
everywhere_as P Q f (suc d) (leaf l) e = all_map P Q l f e
everywhere_as P Q f (suc d) (branch k ts) e = all_map (Everywhere P d) (Everywhere Q d) ts (λ t. everywhere_as P Q f d t) e

everywhere_both : (P Q R : ℕ → Type 0) → ((q : ℕ) → P q → Q q → R q) → (d : ℕ) (t : PTree d) → Everywhere P d t → Everywhere Q d t → Everywhere R d t
everywhere_both P Q R f zero l e h = two f l e h
everywhere_both P Q R f (suc d) (leaf l) e h = two f l e h
everywhere_both P Q R f (suc d) (branch k ts) e h = two (λ t. everywhere_both P Q R f d t) ts e h

-- they are the points that the tree without place numbers holds
module _ (pt : ℕ → Point) (Q : Point → Type 0) where
  list_held : (l : List ℕ) → All (λ q. Q (pt q)) l → All Q (map pt l)
  list_held [] e = tt
  list_held (q ∷ l) e = (e.0, list_held l e.1)

  held_list : (l : List ℕ) → All Q (map pt l) → All (λ q. Q (pt q)) l
  held_list [] e = tt
  held_list (q ∷ l) e = (e.0, held_list l e.1)

  everywhere_held : (d : ℕ) (t : PTree d) → Everywhere (λ q. Q (pt q)) d t → All Q (held d (erase pt d t))
  unfolding held erase
  everywhere_held zero l e = list_held l e
  everywhere_held (suc d) (leaf l) e = list_held l e
  everywhere_held (suc d) (branch k ts) e = rows_held (held d) (erase pt d) Q (Everywhere (λ q. Q (pt q)) d) (everywhere_held d) ts e

  held_everywhere : (d : ℕ) (t : PTree d) → All Q (held d (erase pt d t)) → Everywhere (λ q. Q (pt q)) d t
  unfolding held erase
  held_everywhere zero l e = held_list l e
  held_everywhere (suc d) (leaf l) e = held_list l e
  held_everywhere (suc d) (branch k ts) e = held_rows (held d) (erase pt d) Q (Everywhere (λ q. Q (pt q)) d) (held_everywhere d) ts e

-- ---- what the test asks of a tree is what soundness asks of it
module _ (ways cap axes : ℕ) (pt : ℕ → Point) (n x : List ℕ) (ew : 2 ^ axes ≡ ways) (reg : (q : ℕ) → (length (pt q).at ≡ axes) × All F64 (pt q).at) where
  abbrev Lying : List Bound → ℕ → Type 0
  Lying a = Tested ways cap pt n x a

  abbrev Routes : List Side → ℕ → ℕ → Type 0
  Routes b c q = route b (pt q).at ≡ c

  module _ (b : List Side) (a : List Bound) (c : ℕ) (lb : length b ≡ axes) (la : length a ≡ axes) (fa : All F64Bound a) (lc : c < ways) where
    into_part : (q : ℕ) → lies (narrowed b a c) (pt q).at ≡ lies a (pt q).at && eqb (route b (pt q).at) c
    into_part q = narrowed_lies b a (pt q).at c (la ∙ sym lb) ((reg q).0 ∙ sym lb) fa (reg q).1 (omega (arith, lc, ew, ap (λ (e : ℕ). 2 ^ e) lb))

    from_part : (q : ℕ) → Lying (narrowed b a c) q → Lying a q × Routes b c q
    from_part q h = let e = both (lies a (pt q).at) (eqb (route b (pt q).at) c) (sym (into_part q) ∙ is_true _ h) in (subst T (sym e.0) tt, eqb-true (route b (pt q).at) c e.1)

    to_part : (q : ℕ) → Lying a q → Routes b c q → Lying (narrowed b a c) q
    to_part q h e = subst T (sym (into_part q ∙ ap₂ (λ (u v : Bool). u && v) (is_true (lies a (pt q).at) h) (eq-eqb (route b (pt q).at) c e))) tt

  pub record Properly (d : ℕ) (b : List Side) (a : List Bound) (t : PTree d) : Type 0 where
    pub lying : Everywhere (Lying a) d t
    pub routed : Routed d b (erase pt d t)
    pub leaves : LeavesFit cap d (erase pt d t)
    pub branches : BranchesFull cap d (erase pt d t)

  -- the children from number c on
  record Row (d : ℕ) (b : List Side) (a : List Bound) (c : ℕ) (ts : List (PTree d)) : Type 0 where
    pub lying : All (Everywhere (Lying a) d) ts
    pub routed : Each (λ i t. All (λ (p : Point). route b p.at ≡ i) (held d t) × Routed d (part b i) t) c (map (erase pt d) ts)
    pub leaves : All (LeavesFit cap d) (map (erase pt d) ts)
    pub branches : All (BranchesFull cap d) (map (erase pt d) ts)

  abbrev Going : ℕ → Type 0
  Going d = (b : List Side) (a : List Bound) (t : PTree d) → length b ≡ axes → length a ≡ axes → All F64Bound a → Full d ways t → Proper ways cap pt n x d b a t → Properly d b a t

  abbrev Coming : ℕ → Type 0
  Coming d = (b : List Side) (a : List Bound) (t : PTree d) → length b ≡ axes → length a ≡ axes → All F64Bound a → Full d ways t → Properly d b a t → Proper ways cap pt n x d b a t

  module _ (d : ℕ) (b : List Side) (a : List Bound) (lb : length b ≡ axes) (la : length a ≡ axes) (fa : All F64Bound a) where
    rows_in : Going d → (c : ℕ) (ts : List (PTree d)) → c + length ts ≡ ways → All (Full d ways) ts → Each (λ i t. Proper ways cap pt n x d (part b i) (narrowed b a i) t) c ts → Row d b a c ts
    rows_in go c [] e f p = record { lying = tt; routed = tt; leaves = tt; branches = tt }
    rows_in go c (t ∷ ts) e f p =
        let lc : c < ways = omega (arith, e) in
        let q = go (part b c) (narrowed b a c) t (part_length b c ∙ lb) (narrowed_length b a c (la ∙ sym lb) ∙ lb) (narrowed_held b a c fa) f.0 p.0 in
        let r = rows_in go (suc c) ts (omega (arith, e)) f.1 p.1 in
        record {
          lying = (everywhere_as _ _ (λ u h. (from_part b a c lb la fa lc u h).0) d t q.lying, r.lying);
          routed = ((everywhere_held pt (λ (w : Point). route b w.at ≡ c) d t (everywhere_as _ _ (λ u h. (from_part b a c lb la fa lc u h).1) d t q.lying), q.routed), r.routed);
          leaves = (q.leaves, r.leaves);
          branches = (q.branches, r.branches);
        }

    rows_out : Coming d → (c : ℕ) (ts : List (PTree d)) → c + length ts ≡ ways → All (Full d ways) ts → Row d b a c ts → Each (λ i t. Proper ways cap pt n x d (part b i) (narrowed b a i) t) c ts
    rows_out go c [] e f r = tt
    rows_out go c (t ∷ ts) e f r =
        let lc : c < ways = omega (arith, e) in (
          go (part b c) (narrowed b a c) t (part_length b c ∙ lb) (narrowed_length b a c (la ∙ sym lb) ∙ lb) (narrowed_held b a c fa) f.0 (record {
            lying = everywhere_both (Lying a) (Routes b c) (Lying (narrowed b a c)) (to_part b a c lb la fa lc) d t r.lying.0 (held_everywhere pt (λ (w : Point). route b w.at ≡ c) d t r.routed.0.0);
            routed = r.routed.0.1;
            leaves = r.leaves.0;
            branches = r.branches.0;
          }),
          rows_out go (suc c) ts (omega (arith, e)) f.1 (record { lying = r.lying.1; routed = r.routed.1; leaves = r.leaves.1; branches = r.branches.1 }),
        )

  pub proper_in : (d : ℕ) → Going d
  unfolding erase
  proper_in zero b a l lb la fa f p = record { lying = p; routed = tt; leaves = tt; branches = tt }
  proper_in (suc d) b a (leaf l) lb la fa f p = record { lying = p.1; routed = tt; leaves = omega (arith, p.0, length-map l pt); branches = tt }
  proper_in (suc d) b a (branch k ts) lb la fa f p =
      let r = rows_in d b a lb la fa (proper_in d) 0 ts (omega (arith, f.0)) (full_all d ways ts f) p.1 in
      record { lying = r.lying; routed = r.routed; leaves = r.leaves; branches = (omega (arith, p.0, erase_count pt (suc d) (branch k ts)), r.branches) }

  pub in_proper : (d : ℕ) → Coming d
  unfolding erase
  in_proper zero b a l lb la fa f p = p.lying
  in_proper (suc d) b a (leaf l) lb la fa f p = (omega (arith, p.leaves, length-map l pt), p.lying)
  in_proper (suc d) b a (branch k ts) lb la fa f p = (
    omega (arith, p.branches.0, erase_count pt (suc d) (branch k ts)),
    rows_out d b a lb la fa (in_proper d) 0 ts (omega (arith, f.0)) (full_all d ways ts f) (record { lying = p.lying; routed = p.routed; leaves = p.leaves; branches = p.branches.1 }),
  )

all_or_none : (d w : ℕ) (pt : ℕ → Point) (t : PTree d) → Full d w t → AllOrNone w d (erase pt d t)
unfolding erase
all_or_none zero w pt l f = tt
all_or_none (suc d) w pt (leaf l) f = tt
all_or_none (suc d) w pt (branch k ts) f = (length-map ts (erase pt d) ∙ f.0, row ts (full_all d w ts f) (all_or_none d w pt))
  where
    row : (ts : List (PTree d)) → All (Full d w) ts → ((t : PTree d) → Full d w t → AllOrNone w d (erase pt d t)) → All (AllOrNone w d) (map (erase pt d) ts)
    row [] f go = tt
    row (t ∷ ts) f go = (go t f.0, row ts f.1 go)

-- ---- whole pieces
-- marks of so many numbers, none of them met
abbrev pub unmet : ℕ → List ℕ
unmet m = replicate m 0

module _ (k : Kind) (s : Pieces) (rows : ℕ) (er : k.most ≡ suc (ways k * rows)) (lw : 2 ≤ ways k) where
  abbrev n : List ℕ
  n = words s.nodes

  abbrev x : List ℕ
  x = words s.links

  abbrev bounds : List Side
  bounds = boundary_of k.axes (words s.head)

  abbrev cap : ℕ
  cap = capacity_of k.axes (words s.head)

  abbrev pt : ℕ → Point
  pt = point_at k.axes (words s.points)

  -- the free places and the free groups, as lists that are walked
  abbrev pub FreePlaces : (m : List ℕ) (h b left : ℕ) (m' : List ℕ) → Bool → Type 0
  FreePlaces = Walks (λ p. get_or x p 0) (λ p. p < length x) always

  abbrev pub FreeGroups : (m : List ℕ) (h b left : ℕ) (m' : List ℕ) → Bool → Type 0
  FreeGroups = Walks (λ g. get_or n (4 * kid (ways k) g 0) 0) (λ g. 4 * kid (ways k) g (ways k) ≤ length n) always

  -- ---- lists
  linked_spare : (h : ℕ) (l : List ℕ) → Linked (λ p. get_or x p 0) (λ p. p < length x) h l → Chain x h l
  linked_spare h [] q = q
  linked_spare h (p ∷ l) q = (q.0, q.1, q.2, linked_spare (get_or x p 0) l q.3)

  spare_linked : (h : ℕ) (l : List ℕ) → Chain x h l → Linked (λ p. get_or x p 0) (λ p. p < length x) h l
  spare_linked h [] q = q
  spare_linked h (p ∷ l) q = (q.0, q.1, q.2, spare_linked (get_or x p 0) l q.3)

  linked_free : (h : ℕ) (l : List ℕ) → Linked (λ g. get_or n (4 * kid (ways k) g 0) 0) (λ g. 4 * kid (ways k) g (ways k) ≤ length n) h l → Free (ways k) n h l
  linked_free h [] q = q
  linked_free h (g ∷ l) q = (q.0, q.1, q.2, linked_free (get_or n (4 * kid (ways k) g 0) 0) l q.3)

  free_linked : (h : ℕ) (l : List ℕ) → Free (ways k) n h l → Linked (λ g. get_or n (4 * kid (ways k) g 0) 0) (λ g. 4 * kid (ways k) g (ways k) ≤ length n) h l
  free_linked h [] q = q
  free_linked h (g ∷ l) q = (q.0, q.1, q.2, free_linked (get_or n (4 * kid (ways k) g 0) 0) l q.3)

  linked_below : (next : ℕ → ℕ) (ok : ℕ → Type 0) (m h : ℕ) (l : List ℕ) → ((p : ℕ) → ok p → p < m) → Linked next ok h l → All (λ p. p < m) l
  linked_below next ok m h [] f q = tt
  linked_below next ok m h (p ∷ l) f q = (f p q.2, linked_below next ok m (next p) l f q.3)

  linked_nonzero : (next : ℕ → ℕ) (ok : ℕ → Type 0) (h : ℕ) (l : List ℕ) → Linked next ok h l → occ 0 l ≡ 0
  linked_nonzero next ok h [] q = refl
  linked_nonzero next ok h (p ∷ l) q = omega (arith, is_other 0 p (λ e. q.1 (sym e)), linked_nonzero next ok (next p) l q.3)

  linked_unique : (next : ℕ → ℕ) (ok : ℕ → Type 0) (h : ℕ) (l m : List ℕ) → Linked next ok h l → Linked next ok h m → l ≡ m
  linked_unique next ok h [] [] a b = refl
  linked_unique next ok h [] (q ∷ m) a b = absurd (b.1 (sym b.0 ∙ a))
  linked_unique next ok h (p ∷ l) [] a b = absurd (a.1 (sym a.0 ∙ b))
  linked_unique next ok h (p ∷ l) (q ∷ m) a b =
      let e : p ≡ q = sym a.0 ∙ b.0 in
      ap₂ (λ (u : ℕ) (v : List ℕ). u ∷ v) e (linked_unique next ok (next p) l m a.3 (subst (λ (u : ℕ). Linked next ok (next u) m) (sym e) b.3))

  -- ---- the marks at the start
  pub record Begun (m u : List ℕ) : Type 0 where
    pub no_places : (p : ℕ) → get_or m p 0 ≡ 0
    pub no_groups : (g : ℕ) → get_or u g 0 ≡ 0
    pub long_m : length m ≡ 513
    pub long_u : length u ≡ suc rows

  module _ (fit : Fits k s) where
    grow : (a b : ℕ) → a ≤ b → ways k * a ≤ ways k * b
    grow a b h = mul-le-mul_left (ways k) h

    twice : (w r : ℕ) → w * suc r ≡ w * r + w
    twice w r = omega arith

    room_in : (g : ℕ) → g < suc rows → 4 * kid (ways k) g (ways k) ≤ length n
    room_in g l = omega (arith, nodes_long k s rows fit er, grow g rows (omega arith))

    room_out : (g : ℕ) → 4 * kid (ways k) g (ways k) ≤ length n → g < suc rows
    room_out g h = by_lt g (suc rows) (λ l. l) (λ l. absurd (omega (arith, h, nodes_long k s rows fit er, grow (suc rows) g l, lw, twice (ways k) rows)))

    sized : (m u : List ℕ) → Begun m u → Sized (ways k) cap pt n x m u
    sized m u z = record {
      places = z.long_m ∙ sym (links_long k s fit);
      inside = λ g l. room_in g (omega (arith, l, z.long_u));
      few = λ g h. omega (arith, room_out g h, z.long_u);
      low_m = λ p. omega (arith, z.no_places p);
      low_u = λ g. omega (arith, z.no_groups g);
    }

    there : 4 * 1 + 3 < length n
    there = omega (arith, nodes_long k s rows fit er, lw)

    abbrev pub Trees : (m u m' u' : List ℕ) → Bool → Type 0
    Trees = Checks (ways k) cap pt n x 32 bounds (whole bounds) 1

    abbrev Tree1 : (m u m' u' : List ℕ) → Type 0
    Tree1 = Found (ways k) cap pt n x 32 bounds (whole bounds) 1

    found_tree : (m u m' u' : List ℕ) → Begun m u → Trees m u m' u' true → Tree1 m u m' u'
    unfolding Checks
    found_tree m u m' u' z c = (c (sized m u z) there).sure refl

    long_b : length bounds ≡ k.axes
    long_b = boundary_length k.axes (words s.head)

    long_a : length (whole bounds) ≡ k.axes
    long_a = whole_length bounds ∙ long_b

    held_a : All F64Bound (whole bounds)
    held_a = whole_held bounds (boundary_f64 k.axes (words s.head))

    -- ---- a sound tree passes every test
    module _ (a : Plan) (h : Holds k s a) where
      snd : Sound k (plan_of k s h.tree)
      snd = subst (Sound k) h.plan h.sound

      proper : Proper (ways k) cap pt n x 32 bounds (whole bounds) h.tree
      proper = in_proper (ways k) cap k.axes pt n x refl (point_regular k.axes (words s.points)) 32 bounds (whole bounds) h.tree long_b long_a held_a (rep_full 32 (ways k) n x 1 h.tree h.world.rep) (record {
        lying = held_everywhere pt (λ (p : Point). T (lies (whole bounds) p.at)) 32 h.tree (all_map _ _ (held 32 (erase pt 32 h.tree)) (λ p t. subst T (sym (whole_lies bounds p.at)) t) snd.all_inside);
        routed = snd.routed;
        leaves = snd.leaves_fit;
        branches = snd.branches_full;
      })

      tree_passes : (m u m' u' : List ℕ) (r : Bool) → Begun m u → Trees m u m' u' r → r ≡ true
      unfolding Checks
      tree_passes m u m' u' r z c = (c (sized m u z) there).only h.tree h.world.rep proper (λ p. omega (arith, z.no_places p, h.world.places p)) (λ g. omega (arith, z.no_groups g, h.world.groups g))

      same_tree : (m u m' u' : List ℕ) → Begun m u → (q : Tree1 m u m' u') → q.tree ≡ h.tree
      same_tree m u m' u' z q = rep_unique 32 (ways k) n x 1 q.tree h.tree q.rep (λ p. omega (arith, q.places.sums p, q.places.low p)) h.world.rep (λ p. omega (arith, h.world.places p))

      module _ (m u m1 u1 : List ℕ) (z : Begun m u) (q : Tree1 m u m1 u1) where
        met_place : (p : ℕ) → get_or m1 p 0 ≡ places_at 32 p h.tree
        met_place p = omega (arith, q.places.sums p, z.no_places p, ap (places_at 32 p) (same_tree m u m1 u1 z q))

        met_group : (g : ℕ) → get_or u1 g 0 ≡ groups_at 32 g h.tree
        met_group g = omega (arith, q.groups.sums g, z.no_groups g, ap (groups_at 32 g) (same_tree m u m1 u1 z q))

        places_pass : (m2 : List ℕ) (r : Bool) → FreePlaces m1 (get_or x 0 0) 0 513 m2 r → r ≡ true
        places_pass m2 r w = w.only q.places.low h.free_places (513 - length h.free_places) l (omega (arith, short)) refl (λ p. omega (arith, met_place p, h.world.places p))
          where
            l : Linked (λ p. get_or x p 0) (λ p. p < length x) (get_or x 0 0) h.free_places
            l = spare_linked (get_or x 0 0) h.free_places h.world.spare

            short : length h.free_places ≤ 513
            short = once_short 513 h.free_places (linked_below (λ p. get_or x p 0) (λ p. p < length x) 513 (get_or x 0 0) h.free_places (λ p e. omega (arith, e, links_long k s fit)) (spare_linked (get_or x 0 0) h.free_places h.world.spare)) (λ p. omega (arith, h.world.places p))

        groups_pass : (u2 : List ℕ) (r : Bool) → FreeGroups u1 (get_or n 0 0) 0 (suc rows) u2 r → r ≡ true
        groups_pass u2 r w = w.only q.groups.low h.free_groups (suc rows - length h.free_groups) l (omega (arith, short)) refl (λ g. omega (arith, met_group g, h.world.groups g))
          where
            l : Linked (λ g. get_or n (4 * kid (ways k) g 0) 0) (λ g. 4 * kid (ways k) g (ways k) ≤ length n) (get_or n 0 0) h.free_groups
            l = free_linked (get_or n 0 0) h.free_groups h.world.free

            short : length h.free_groups ≤ suc rows
            short = once_short (suc rows) h.free_groups (linked_below (λ g. get_or n (4 * kid (ways k) g 0) 0) (λ g. 4 * kid (ways k) g (ways k) ≤ length n) (suc rows) (get_or n 0 0) h.free_groups room_out (free_linked (get_or n 0 0) h.free_groups h.world.free)) (λ g. omega (arith, h.world.groups g))

        all_places : (m2 : List ℕ) (r : Bool) → Listed (λ p. get_or x p 0) (λ p. p < length x) always m1 (get_or x 0 0) 0 513 m2 → AllMet m2 r → r ≡ true
        all_places m2 r w y = y.only (λ p nz lp e.
            let same : w.list ≡ h.free_places = linked_unique (λ p. get_or x p 0) (λ p. p < length x) (get_or x 0 0) w.list h.free_places w.linked (spare_linked (get_or x 0 0) h.free_places h.world.spare) in
            absurd (omega (arith, e, w.marked.sums p, met_place p, ap (occ p) same, h.each_place p nz (omega (arith, lp, w.marked.long, q.places.long, z.long_m, links_long k s fit)))))

        all_groups : (u2 : List ℕ) (r : Bool) → Listed (λ g. get_or n (4 * kid (ways k) g 0) 0) (λ g. 4 * kid (ways k) g (ways k) ≤ length n) always u1 (get_or n 0 0) 0 (suc rows) u2 → AllMet u2 r → r ≡ true
        all_groups u2 r w y = y.only (λ g nz lg e.
            let same : w.list ≡ h.free_groups = linked_unique (λ g. get_or n (4 * kid (ways k) g 0) 0) (λ g. 4 * kid (ways k) g (ways k) ≤ length n) (get_or n 0 0) w.list h.free_groups w.linked (free_linked (get_or n 0 0) h.free_groups h.world.free) in
            absurd (omega (arith, e, w.marked.sums g, met_group g, ap (occ g) same, h.each_group g nz (room_in g (omega (arith, lg, w.marked.long, q.groups.long, z.long_u))))))

    -- ---- what passes every test is a sound tree
    module _ (m u m1 u1 m2 u2 : List ℕ) (z : Begun m u) (q : Tree1 m u m1 u1) (wp : Listed (λ p. get_or x p 0) (λ p. p < length x) always m1 (get_or x 0 0) 0 513 m2)
        (wg : Listed (λ g. get_or n (4 * kid (ways k) g 0) 0) (λ g. 4 * kid (ways k) g (ways k) ≤ length n) always u1 (get_or n 0 0) 0 (suc rows) u2) where
      tally_p : (p : ℕ) → get_or m2 p 0 ≡ places_at 32 p q.tree + occ p wp.list
      tally_p p = omega (arith, wp.marked.sums p, q.places.sums p, z.no_places p)

      tally_g : (g : ℕ) → get_or u2 g 0 ≡ groups_at 32 g q.tree + occ g wg.list
      tally_g g = omega (arith, wg.marked.sums g, q.groups.sums g, z.no_groups g)

      world : World 32 (ways k) (pool s.nodes s.links) 1 q.tree wg.list wp.list
      world = record {
        rep = q.rep;
        free = linked_free (get_or n 0 0) wg.list wg.linked;
        spare = linked_spare (get_or x 0 0) wp.list wp.linked;
        low = λ e. absurd (omega (arith, e));
        groups = λ g. omega (arith, tally_g g, wg.marked.low g);
        places = λ p. omega (arith, tally_p p, wp.marked.low p);
        apart = λ g c lc e. apart g c e;
      }
        where
          apart : (g c : ℕ) → 1 ≡ kid (ways k) g c → groups_at 32 g q.tree + occ g wg.list ≡ 0
          apart zero c e = omega (arith, no_group_zero 32 (ways k) n x 1 q.tree q.rep, linked_nonzero (λ g. get_or n (4 * kid (ways k) g 0) 0) (λ g. 4 * kid (ways k) g (ways k) ≤ length n) (get_or n 0 0) wg.list wg.linked)
          apart (suc g) c e = absurd (omega (arith, e, lw, twice (ways k) g))

      passed : Properly (ways k) cap k.axes pt n x refl (point_regular k.axes (words s.points)) 32 bounds (whole bounds) q.tree
      passed = proper_in (ways k) cap k.axes pt n x refl (point_regular k.axes (words s.points)) 32 bounds (whole bounds) q.tree long_b long_a held_a (rep_full 32 (ways k) n x 1 q.tree q.rep) q.proper

      holds : T (acceptable bounds) → 1 ≤ cap → ((p : ℕ) → p ≢ 0 → p < length m2 → get_or m2 p 0 ≢ 0) → ((g : ℕ) → g ≢ 0 → g < length u2 → get_or u2 g 0 ≢ 0) → Holds k s (plan_of k s q.tree)
      holds ok one ap ag = record {
        tree = q.tree;
        free_groups = wg.list;
        free_places = wp.list;
        world = world;
        each_group = λ g nz r. omega (arith, tally_g g, wg.marked.low g, pos (get_or u2 g 0) (ag g nz (omega (arith, room_out g r, wg.marked.long, q.groups.long, z.long_u))));
        each_place = λ p nz l. omega (arith, tally_p p, wp.marked.low p, pos (get_or m2 p 0) (ap p nz (omega (arith, l, links_long k s fit, wp.marked.long, q.places.long, z.long_m))));
        plan = refl;
        sound = record {
          boundary = (ok, long_b);
          capacity = one;
          all_or_none = all_or_none 32 (ways k) pt q.tree (rep_full 32 (ways k) n x 1 q.tree q.rep);
          routed = passed.routed;
          all_inside = all_map _ _ (held 32 (erase pt 32 q.tree)) (λ p t. subst T (whole_lies bounds p.at) t) (everywhere_held pt (λ (p : Point). T (lies (whole bounds) p.at)) 32 q.tree passed.lying);
          leaves_fit = passed.leaves;
          branches_full = passed.branches;
        };
      }

  -- ---- the answer
  not_sane : (Sane k s → ⊥) → Decides false (Sane k s)
  not_sane f = record { sure = λ t. no_true t; only = λ q. absurd (f q) }

  pub sound_boundary : (b : List Side) → b ≡ bounds → acceptable b ≡ false → Decides false (Sane k s)
  sound_boundary b eb e0 = let e : acceptable bounds ≡ false = sym (ap acceptable eb) ∙ e0 in not_sane (λ q. fails (is_true (acceptable bounds) (subst (λ (a : Plan). T (acceptable a.boundary)) q.holds.plan q.holds.sound.boundary.0)) e)

  pub sound_capacity : (c : ℕ) → c ≡ cap → c ≡ 0 → Decides false (Sane k s)
  sound_capacity c ec e0 = let e : cap ≡ 0 = sym ec ∙ e0 in not_sane (λ q. absurd (omega (arith, e, subst (λ (a : Plan). 1 ≤ a.capacity) q.holds.plan q.holds.sound.capacity)))

  -- the marks at the start are all 0
  begun : Begun (unmet 513) (unmet (suc rows))
  begun = record { no_places = zeros 513; no_groups = zeros (suc rows); long_m = length-replicate {A = ℕ} 513 0; long_u = length-replicate {A = ℕ} (suc rows) 0 }
    where
      zeros : (m p : ℕ) → get_or (unmet m) p 0 ≡ 0
      zeros zero p = refl
      zeros (suc m) zero = refl
      zeros (suc m) (suc p) = zeros m p

  -- as the code has them: the boundary as it was read, the bounds as they were made, and the marks as they are found
  module _ (fit : Fits k s) (b : List Side) (a : List Bound) (c : ℕ) (eb : b ≡ bounds) (ea : a ≡ whole b) (ec : c ≡ cap) (m1 u1 : List ℕ) (t : Bool) (w : Checks (ways k) c pt n x 32 b a 1 (unmet 513) (unmet (suc rows)) m1 u1 t) where
    trees : Trees fit (unmet 513) (unmet (suc rows)) m1 u1 t
    trees =
        subst (λ (e : List Bound). Checks (ways k) cap pt n x 32 bounds e 1 (unmet 513) (unmet (suc rows)) m1 u1 t) (ea ∙ ap whole eb)
        (subst (λ (e : List Side). Checks (ways k) cap pt n x 32 e a 1 (unmet 513) (unmet (suc rows)) m1 u1 t) eb
        (subst (λ (e : ℕ). Checks (ways k) e pt n x 32 b a 1 (unmet 513) (unmet (suc rows)) m1 u1 t) ec w))

    pub sound_tree : not t ≡ true → Decides false (Sane k s)
    sound_tree e = not_sane (λ q. fails (tree_passes fit q.plan q.holds (unmet 513) (unmet (suc rows)) m1 u1 t begun trees) (not-true t e))

    module _ (et : not t ≡ false) (m2 : List ℕ) (y : Bool) (v : Frees (λ p. get_or x p 0) (λ p. p < length x) m1 (get_or x 0 0) m2 y) where
      root : Tree1 fit (unmet 513) (unmet (suc rows)) m1 u1
      root = found_tree fit (unmet 513) (unmet (suc rows)) m1 u1 begun (subst (λ (e : Bool). Trees fit (unmet 513) (unmet (suc rows)) m1 u1 e) (not-false t et) trees)

      places : FreePlaces m1 (get_or x 0 0) 0 513 m2 y
      unfolding Frees
      places = subst (λ (e : ℕ). FreePlaces m1 (get_or x 0 0) 0 e m2 y) long (v (record { within = λ p l. omega (arith, l, long, links_long k s fit); below = λ p l. omega (arith, l, long, links_long k s fit) }) 0)
        where
          long : length m1 ≡ 513
          long = root.places.long ∙ begun.long_m

      sound_places : not y ≡ true → Decides false (Sane k s)
      sound_places e = not_sane (λ q. fails (places_pass fit q.plan q.holds (unmet 513) (unmet (suc rows)) m1 u1 begun root m2 y places) (not-true y e))

      module _ (ey : not y ≡ false) (u2 : List ℕ) (o : Bool) (f : Frees (λ g. get_or n (4 * kid (ways k) g 0) 0) (λ g. 4 * kid (ways k) g (ways k) ≤ length n) u1 (get_or n 0 0) u2 o) where
        groups : FreeGroups u1 (get_or n 0 0) 0 (suc rows) u2 o
        unfolding Frees
        groups = subst (λ (e : ℕ). FreeGroups u1 (get_or n 0 0) 0 e u2 o) long (f (record { within = λ g l. room_in fit g (omega (arith, l, long)); below = λ g l. omega (arith, room_out fit g l, long) }) 0)
          where
            long : length u1 ≡ suc rows
            long = root.groups.long ∙ begun.long_u

        sound_groups : not o ≡ true → Decides false (Sane k s)
        sound_groups e = not_sane (λ q. fails (groups_pass fit q.plan q.holds (unmet 513) (unmet (suc rows)) m1 u1 begun root u2 o groups) (not-true o e))

        sound_all : (d e : Bool) → acceptable b ≡ true → c ≢ 0 → not o ≡ false → AllMet m2 d → AllMet u2 e → Decides (d && e) (Sane k s)
        sound_all d e ok one eo md me =
            let lp = places.sure (not-false y ey) root.places.low in
            let lg = groups.sure (not-false o eo) root.groups.low in
            record {
              sure = λ h. let z = both d e h in record { fits = fit; plan = plan_of k s root.tree; holds = holds fit (unmet 513) (unmet (suc rows)) m1 u1 m2 u2 begun root lp lg (subst T (sym (sym (ap acceptable eb) ∙ ok)) tt) (omega (arith, pos c one, ec)) (md.sure z.0) (me.sure z.1) };
              only = λ q. ap₂ (λ (g h : Bool). g && h) (all_places fit q.plan q.holds (unmet 513) (unmet (suc rows)) m1 u1 begun root m2 d lp md) (all_groups fit q.plan q.holds (unmet 513) (unmet (suc rows)) m1 u1 begun root u2 e lg me);
            }

    -- the tests after the tree's, together
    pub sound_rest : not t ≡ false → (r : Bool) → Rest (ways k) n x m1 u1 r → acceptable b ≡ true → c ≢ 0 → Decides r (Sane k s)
    sound_rest et r l ok one = by l.y l.o l.places l.groups l.met_places l.met_groups l.answer
      where
        by : (y o : Bool) → FreedPlaces (ways k) n x m1 l.m' y → (y ≡ true → FreedGroups (ways k) n x u1 l.u' o) → (o ≡ true → AllMet l.m' l.d) → (o ≡ true → AllMet l.u' l.e) → r ≡ y && (o && (l.d && l.e)) → Decides r (Sane k s)
        by false o f g p q a = subst (λ (v : Bool). Decides v (Sane k s)) (sym a) (sound_places et l.m' false f refl)
        by true false f g p q a = subst (λ (v : Bool). Decides v (Sane k s)) (sym a) (sound_groups et l.m' true f refl l.u' false (g refl) refl)
        by true true f g p q a = subst (λ (v : Bool). Decides v (Sane k s)) (sym a) (sound_all et l.m' true f refl l.u' true (g refl) l.d l.e ok one refl (p refl) (q refl))
