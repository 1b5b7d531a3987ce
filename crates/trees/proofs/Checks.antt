-- The soundness test of one node and all below it: yes exactly when the words hold a tree there whose places and groups were not met before, with counts that match,
-- no leaf too full, no divided node too empty, and every point within its bounds. Over any number of ways. Assumes nothing.
use mathlib.Core.Path.{◌≡◌, refl, ap, sym, ◌∙◌, subst}
use mathlib.Core.Logic.{◌≢◌, ◌⊎◌, inl, inr}
use mathlib.Core.Bool.{Bool, true, false, not, ◌&&◌}
use mathlib.Core.List.{List, [], ◌∷◌}
use Prim.Native.Nat.{ℕ, zero, suc, ◌+◌, ◌-◌, ◌*◌, ◌<◌, ◌≤◌}
use native.Mathlib.Omega.{arith}
use native.Mathlib.Numerals.{add-one, sub-one}
use lib.Dec.{T, eqb, ltb}
use borrow.Author.Tests.{not-true, not-false, eq-eqb, eqb-true, eqb-false, ne_eqb, ltb-true, ltb-false}
use lib.ListN.{length, get_or, length-set}
use Rattle.model.specs.Boxes.{Side, part}
use Rattle.model.specs.Trees.{Point}
use Rattle.model.specs.Soundness.{All, Each}
use Rattle.pool.specs.Lists.{occ, sum_of, last_or, Chain, is}
use Rattle.pool.specs.Trees.{leaf, branch, PTree, flat, none, groups_at, places_at, size}
use Rattle.pool.specs.Worlds.{RepLeaf, Rep}
use Rattle.pool.specs.Writes.{kid}
use Rattle.pool.proofs.Lists.{is_same}
use Rattle.pool.proofs.Frames.{rep_flat}
use Rattle.pool.proofs.Read.{rep_unique}
use Rattle.pool.proofs.Trees.{groups_flat, places_flat}
use Rattle.trees.proofs.Areas.{Bound, lies, narrowed}
use Rattle.trees.proofs.Heads.{both}
use Rattle.trees.proofs.Held.{rep_count}
use Rattle.trees.proofs.Marks.{Low, Marked, Fresh, marked_none, marked_then, marked_as, Claims, claims_mark, Linked, Listed, Walks, walks_end, walks_over, walks_bad, walks_met, walks_step}
use Rattle.trees.proofs.Tests.{no_true}

-- the counts of the children from number c on, so many of them
unfoldable pub counts : (ways : ℕ) → List ℕ → ℕ → (c some : ℕ) → ℕ
counts ways n k c zero = 0
counts ways n k c (suc some) = get_or n (4 * kid ways k c + 3) 0 + counts ways n k (suc c) some

pub counts_step : (ways : ℕ) (n : List ℕ) (k c : ℕ) → c < ways → counts ways n k c (ways - c) ≡ get_or n (4 * kid ways k c + 3) 0 + counts ways n k (c + 1) (ways - (c + 1))
unfolding counts
counts_step ways n k c h = ap (counts ways n k c) {x = ways - c} {y = suc (ways - (c + 1))} (omega arith) ∙ ap (λ (e : ℕ). get_or n (4 * kid ways k c + 3) 0 + counts ways n k e (ways - (c + 1))) (sym (add-one c))

pub counts_end : (ways : ℕ) (n : List ℕ) (k c : ℕ) → ways ≤ c → counts ways n k c (ways - c) ≡ 0
unfolding counts
counts_end ways n k c h = ap (counts ways n k c) {x = ways - c} {y = 0} (omega arith)

-- ---- one list
abbrev pub after : List ℕ → ℕ → ℕ
after x p = get_or x p 0

-- a place within the links whose point lies within the bounds
abbrev pub IsListed : (ℕ → Point) → List ℕ → List Bound → ℕ → Type 0
IsListed pt x a p = (p < length x) × T (lies a (pt p).at)

-- no step is left, and the last place is the one that the node names
abbrev pub ends : ℕ → ℕ → ℕ → Bool
ends last rest b = eqb rest 0 && eqb b last

module _ (pt : ℕ → Point) (x : List ℕ) (a : List Bound) (h last v : ℕ) where
  unfoldable pub ListChecks : (m m' : List ℕ) → Bool → Type 0
  ListChecks m m' r = length m ≡ length x → Walks (after x) (IsListed pt x a) (ends last) m h 0 v m' r

  listed_walk : (m m' : List ℕ) (r : Bool) → ListChecks m m' r → length m ≡ length x → Walks (after x) (IsListed pt x a) (ends last) m h 0 v m' r
  unfolding ListChecks
  listed_walk m m' r w e = w e

  -- the loop: what is left leads to the whole
  pub record Listing (m now : List ℕ) (q b left : ℕ) : Type 0 where
    pub same : length now ≡ length m
    pub on : length m ≡ length x → (m' : List ℕ) (r : Bool) → Walks (after x) (IsListed pt x a) (ends last) now q b left m' r → Walks (after x) (IsListed pt x a) (ends last) m h 0 v m' r

  pub listing_start : (m : List ℕ) (left : ℕ) → left ≡ v → Listing m m h 0 left
  listing_start m left el = record { same = refl; on = λ e m' r w. subst (λ (k : ℕ). Walks (after x) (IsListed pt x a) (ends last) m h 0 k m' r) el w }

  module _ (m now : List ℕ) (q b left : ℕ) (g : Listing m now q b left) where
    pub listing_short : q ≡ 0 → left ≢ 0 → ListChecks m now false
    unfolding ListChecks
    listing_short z e s = g.on s now false (walks_end _ _ _ now q b left false z (sym (ap (λ (t : Bool). t && eqb b last) (ne_eqb left 0 e))))

    pub listing_met : (now' m' : List ℕ) (t : Bool) → q ≢ 0 → Claims now now' q t → not t ≡ true → ListChecks m m' false
    unfolding ListChecks
    listing_met now' m' t z c e s = g.on s m' false (walks_met _ _ _ now q b left now' m' z (λ o. omega (arith, o.0, s, g.same)) (subst (λ (u : Bool). Claims now now' q u) (not-true t e) c))

    pub listing_out : (m' : List ℕ) (t : Bool) → q ≢ 0 → t ≡ lies a (pt q).at → not t ≡ true → ListChecks m m' false
    unfolding ListChecks
    listing_out m' t z et e s = g.on s m' false (walks_bad _ _ _ now q b left m' z (λ o. subst T (sym et ∙ not-true t e) o.1))

    pub listing_step : (now' : List ℕ) (q' left' : ℕ) (t y : Bool) → q ≢ 0 → left ≡ suc left' → Claims now now' q t → not t ≡ false → y ≡ lies a (pt q).at → not y ≡ false → q' ≡ get_or x q 0 → Listing m now' q' q left'
    listing_step now' q' left' t y z el c et ey ny en =
        let c1 : Claims now now' q true = subst (λ (u : Bool). Claims now now' q u) (not-false t et) c in
        let s = c1.sure refl in
        record {
          same = ap length s.2 ∙ length-set now q 1 ∙ g.same;
          on = λ e m' r w. g.on e m' r (walks_step _ _ _ now q b left now' q' left' m' r z (omega (arith, s.0, g.same, e), subst T (sym (sym ey ∙ not-false y ny)) tt) c1 en el w);
        }

    pub listing_end : left ≡ 0 → ListChecks m now (eqb q 0 && eqb b last)
    unfolding ListChecks
    listing_end e s = g.on s now (eqb q 0 && eqb b last) (by (eqb q 0) (eqb-true q 0) (eqb-false q 0))
      where
        by : (t : Bool) → (t ≡ true → q ≡ 0) → (t ≡ false → q ≢ 0) → Walks (after x) (IsListed pt x a) (ends last) now q b left now (t && eqb b last)
        by true f h = walks_end _ _ _ now q b left (eqb b last) (f refl) (sym (ap (λ (t : Bool). t && eqb b last) (eq-eqb left 0 e)))
        by false f h = walks_over _ _ _ now q b left now (h refl) e

module _ (ways cap : ℕ) (pt : ℕ → Point) (n x : List ℕ) where
  -- ---- what is asked of a tree
  abbrev pub Tested : List Bound → ℕ → Type 0
  Tested a p = T (lies a (pt p).at)

  abbrev pub Proper : (d : ℕ) → List Side → List Bound → PTree d → Type 0
  Proper zero b a l = All (Tested a) l
  Proper (suc d) b a (leaf l) = (length l ≤ cap) × All (Tested a) l
  Proper (suc d) b a (branch k ts) = (cap < sum_of (size d) ts) × Each (λ i t. Proper d (part b i) (narrowed b a i) t) 0 ts

  -- the marks have a byte for each place, and for each group that there is room for
  pub record Sized (m u : List ℕ) : Type 0 where
    pub places : length m ≡ length x
    pub inside : (g : ℕ) → g < length u → 4 * kid ways g ways ≤ length n
    pub few : (g : ℕ) → 4 * kid ways g ways ≤ length n → g < length u
    pub low_m : Low m
    pub low_u : Low u

  sized_after : (m u m' u' : List ℕ) (f h : ℕ → ℕ) → Sized m u → Marked m m' f → Marked u u' h → Sized m' u'
  sized_after m u m' u' f h z a b = record {
    places = a.long ∙ z.places;
    inside = λ g l. z.inside g (omega (arith, l, b.long));
    few = λ g l. omega (arith, z.few g l, b.long);
    low_m = a.low;
    low_u = b.low;
  }

  pub record Found (d : ℕ) (b : List Side) (a : List Bound) (i : ℕ) (m u m' u' : List ℕ) : Type 0 where
    pub tree : PTree d
    pub rep : Rep d ways n x i tree
    pub proper : Proper d b a tree
    pub places : Marked m m' (λ p. places_at d p tree)
    pub groups : Marked u u' (λ g. groups_at d g tree)

  -- the answer r of the test at node i, which is there
  pub record Checked (d : ℕ) (b : List Side) (a : List Bound) (i : ℕ) (m u m' u' : List ℕ) (r : Bool) : Type 0 where
    pub sure : r ≡ true → Found d b a i m u m' u'
    pub only : (t : PTree d) → Rep d ways n x i t → Proper d b a t → Fresh m (λ p. places_at d p t) → Fresh u (λ g. groups_at d g t) → r ≡ true

  unfoldable pub Checks : (d : ℕ) → List Side → List Bound → ℕ → (m u m' u' : List ℕ) → Bool → Type 0
  Checks d b a i m u m' u' r = Sized m u → 4 * i + 3 < length n → Checked d b a i m u m' u' r

  -- ---- an undivided node
  linked_chain : (a : List Bound) (h : ℕ) (l : List ℕ) → Linked (after x) (IsListed pt x a) h l → Chain x h l × All (Tested a) l
  linked_chain a h [] k = (k, tt)
  linked_chain a h (p ∷ l) k = let q = linked_chain a (after x p) l k.3 in ((k.0, k.1, k.2.0, q.0), (k.2.1, q.1))

  chain_linked : (a : List Bound) (h : ℕ) (l : List ℕ) → Chain x h l → All (Tested a) l → Linked (after x) (IsListed pt x a) h l
  chain_linked a h [] k t = k
  chain_linked a h (p ∷ l) k t = (k.0, k.1, (k.2, t.0), chain_linked a (after x p) l k.3 t.1)

  proper_flat : (d : ℕ) (b : List Side) (a : List Bound) (l : List ℕ) → ((d ≡ 0) ⊎ (length l ≤ cap)) → All (Tested a) l → Proper d b a (flat d l)
  proper_flat zero b a l h t = t
  proper_flat (suc d) b a l (inl e) t = absurd (omega arith)
  proper_flat (suc d) b a l (inr h) t = (h, t)

  check_list : (d : ℕ) (b : List Side) (a : List Bound) (i : ℕ) (m u m' : List ℕ) (r : Bool) (g v h last : ℕ) → g ≡ get_or n (4 * i) 0 → v ≡ get_or n (4 * i + 3) 0 → g ≡ 0 → ((d ≡ 0) ⊎ (v ≤ cap)) → h ≡ get_or n (4 * i + 1) 0 → last ≡ get_or n (4 * i + 2) 0
      → ListChecks pt x a h last v m m' r → Checks d b a i m u m' u r
  unfolding Checks
  check_list d b a i m u m' r g v h last eg ev z few eh el w sz room = record {
    sure = λ t. found (walk.sure t sz.low_m);
    only = only d few;
  }
    where
      walk : Walks (after x) (IsListed pt x a) (ends last) m h 0 v m' r
      walk = listed_walk pt x a h last v m m' r w sz.places

      long : (l : List ℕ) → v ≡ length l → ((d ≡ 0) ⊎ (length l ≤ cap))
      long l e = elim few [ inl q ↦ inl q | inr q ↦ inr (subst (λ (k : ℕ). k ≤ cap) e q) ]

      found : Listed (after x) (IsListed pt x a) (ends last) m h 0 v m' → Found d b a i m u m' u
      found q =
          let e = both (eqb q.rest 0) (eqb (last_or 0 q.list) last) q.ends in
          let s : v ≡ length q.list = omega (arith, q.steps, eqb-true q.rest 0 e.0) in
          let c = linked_chain a h q.list q.linked in
          record {
            tree = flat d q.list;
            rep = rep_flat d ways n x i q.list (room, sym eg ∙ z, subst (λ (k : ℕ). Chain x k q.list) eh c.0, sym el ∙ sym (eqb-true (last_or 0 q.list) last e.1), sym ev ∙ s);
            proper = proper_flat d b a q.list (long q.list s) c.1;
            places = marked_as m m' _ _ q.marked (λ p. places_flat d p q.list);
            groups = marked_as u u _ _ (marked_none u sz.low_u) (λ k. groups_flat d k q.list);
          }

      walked : (l : List ℕ) → RepLeaf n x i l → All (Tested a) l → Fresh m (λ p. occ p l) → r ≡ true
      walked l q t f = walk.only sz.low_m l 0 (chain_linked a h l (subst (λ (k : ℕ). Chain x k l) (sym eh) q.2) t) (omega (arith, ev, q.4))
          (eq-eqb (last_or 0 l) last (sym (el ∙ q.3))) f

      only : (d : ℕ) → ((d ≡ 0) ⊎ (v ≤ cap)) → (t : PTree d) → Rep d ways n x i t → Proper d b a t → Fresh m (λ p. places_at d p t) → Fresh u (λ g. groups_at d g t) → r ≡ true
      only zero few l q p f k = walked l q p f
      only (suc d) few (leaf l) q p f k = walked l q p.1 f
      only (suc d) few (branch j ts) q p f k = absurd (q.2 (sym q.1 ∙ sym eg ∙ z))

  -- ---- no tree
  check_many : (d : ℕ) (b : List Side) (a : List Bound) (i : ℕ) (m u m' u' : List ℕ) (g v : ℕ) → g ≡ get_or n (4 * i) 0 → v ≡ get_or n (4 * i + 3) 0 → g ≡ 0 → d ≢ 0 → cap < v → Checks d b a i m u m' u' false
  unfolding Checks
  check_many d b a i m u m' u' g v eg ev z nd h sz room = record { sure = λ t. no_true t; only = only d nd }
    where
      only : (d : ℕ) → d ≢ 0 → (t : PTree d) → Rep d ways n x i t → Proper d b a t → Fresh m (λ p. places_at d p t) → Fresh u (λ g. groups_at d g t) → false ≡ true
      only zero nd l q p f k = absurd (nd refl)
      only (suc d) nd (leaf l) q p f k = absurd (omega (arith, h, ev, q.4, p.0))
      only (suc d) nd (branch j ts) q p f k = absurd (q.2 (sym q.1 ∙ sym eg ∙ z))

  pub check_deep : (d : ℕ) (b : List Side) (a : List Bound) (i : ℕ) (m u m' u' : List ℕ) (g : ℕ) → g ≡ get_or n (4 * i) 0 → g ≢ 0 → d ≡ 0 → Checks d b a i m u m' u' false
  unfolding Checks
  check_deep d b a i m u m' u' g eg nz e sz room = record { sure = λ t. no_true t; only = only d e }
    where
      only : (d : ℕ) → d ≡ 0 → (t : PTree d) → Rep d ways n x i t → Proper d b a t → Fresh m (λ p. places_at d p t) → Fresh u (λ g. groups_at d g t) → false ≡ true
      only zero e l q p f k = absurd (nz (eg ∙ q.1))
      only (suc d) e t q p f k = absurd (omega arith)

  rep_room : (d i : ℕ) (t : PTree d) → Rep d ways n x i t → 4 * i + 3 < length n
  rep_room zero i l q = q.0
  rep_room (suc d) i (leaf l) q = q.0
  rep_room (suc d) i (branch k ts) q = q.0

  kid_room : (d i j : ℕ) (ts : List (PTree d)) → 0 < ways → Rep (suc d) ways n x i (branch j ts) → 4 * kid ways j ways ≤ length n
  kid_room d i j ts lw q = omega (arith, lw, rep_room d (kid ways j (ways - 1)) (get_or ts (ways - 1) (none d)) (q.5 (ways - 1) (omega (arith, lw))))

  -- a divided node for which one of these fails: more points than capacity, a group that is met for the first time
  divided_not : (d : ℕ) (b : List Side) (a : List Bound) (i : ℕ) (m u m' u' : List ℕ) (g v : ℕ) → g ≡ get_or n (4 * i) 0 → v ≡ get_or n (4 * i + 3) 0 → g ≢ 0 → 0 < ways → (cap < v → 4 * kid ways g ways ≤ length n → get_or u g 0 ≡ 0 → ⊥) → Checks d b a i m u m' u' false
  unfolding Checks
  divided_not d b a i m u m' u' g v eg ev nz lw nay sz room = record { sure = λ t. no_true t; only = only d }
    where
      only : (d : ℕ) → (t : PTree d) → Rep d ways n x i t → Proper d b a t → Fresh m (λ p. places_at d p t) → Fresh u (λ g. groups_at d g t) → false ≡ true
      only zero l q p f k = absurd (nz (eg ∙ q.1))
      only (suc d) (leaf l) q p f k = absurd (nz (eg ∙ q.1))
      only (suc d) (branch j ts) q p f k =
          let e : g ≡ j = eg ∙ q.1 in
          absurd (nay (omega (arith, ev, q.3, p.0)) (omega (arith, kid_room d i j ts lw q, ap (λ (h : ℕ). ways * h) e)) (omega (arith, k g, ap (λ (h : ℕ). is g h) e, is_same g)))

  pub check_few : (d : ℕ) (b : List Side) (a : List Bound) (i : ℕ) (m u m' u' : List ℕ) (g v : ℕ) → 0 < ways → g ≡ get_or n (4 * i) 0 → v ≡ get_or n (4 * i + 3) 0 → g ≢ 0 → v ≤ cap → Checks d b a i m u m' u' false
  check_few d b a i m u m' u' g v lw eg ev nz h = divided_not d b a i m u m' u' g v eg ev nz lw (λ l r f. absurd (omega arith))

  check_met : (d : ℕ) (b : List Side) (a : List Bound) (i : ℕ) (m u u1 m' u' : List ℕ) (g v : ℕ) → 0 < ways → g ≡ get_or n (4 * i) 0 → v ≡ get_or n (4 * i + 3) 0 → g ≢ 0 → Claims u u1 g false → Checks d b a i m u m' u' false
  unfolding Checks
  check_met d b a i m u u1 m' u' g v lw eg ev nz c sz room = divided_not d b a i m u m' u' g v eg ev nz lw (λ l r f. no_true (c.only (sz.few g r) f)) sz room

  -- ---- the children of group k, from number c on
  abbrev pub Row : (d k c : ℕ) → List (PTree d) → Type 0
  Row d k c [] = c ≡ ways
  Row d k c (t ∷ ts) = (c < ways) × Rep d ways n x (kid ways k c) t × Row d k (suc c) ts

  row_length : (d k c : ℕ) (ts : List (PTree d)) → Row d k c ts → c + length ts ≡ ways
  row_length d k c [] q = omega (arith, q)
  row_length d k c (t ∷ ts) q = omega (arith, row_length d k (suc c) ts q.2)

  row_at : (d k c : ℕ) (ts : List (PTree d)) → Row d k c ts → (e : ℕ) → c + e < ways → Rep d ways n x (kid ways k (c + e)) (get_or ts e (none d))
  row_at d k c [] q e l = absurd (omega (arith, q, l))
  row_at d k c (t ∷ ts) q zero l = subst (λ (j : ℕ). Rep d ways n x (kid ways k j) t) {x = c} {y = c + 0} (omega arith) q.1
  row_at d k c (t ∷ ts) q (suc e) l = subst (λ (j : ℕ). Rep d ways n x (kid ways k j) (get_or ts e (none d))) {x = suc c + e} {y = c + suc e} (omega arith) (row_at d k (suc c) ts q.2 e (omega (arith, l)))

  at_row : (d k c : ℕ) (ts : List (PTree d)) → c + length ts ≡ ways → ((e : ℕ) → c + e < ways → Rep d ways n x (kid ways k (c + e)) (get_or ts e (none d))) → Row d k c ts
  at_row d k c [] e f = omega (arith, e)
  at_row d k c (t ∷ ts) e f = (
    omega (arith, e),
    subst (λ (j : ℕ). Rep d ways n x (kid ways k j) t) {x = c + 0} {y = c} (omega arith) (f 0 (omega (arith, e))),
    at_row d k (suc c) ts (omega (arith, e)) (λ h l. subst (λ (j : ℕ). Rep d ways n x (kid ways k j) (get_or ts h (none d))) {x = c + suc h} {y = suc c + h} (omega arith) (f (suc h) (omega (arith, l)))),
  )

  row_all : (d k : ℕ) (ts : List (PTree d)) → Row d k 0 ts → (c : ℕ) → c < ways → Rep d ways n x (kid ways k c) (get_or ts c (none d))
  row_all d k ts q c l = subst (λ (j : ℕ). Rep d ways n x (kid ways k j) (get_or ts c (none d))) {x = 0 + c} {y = c} (omega arith) (row_at d k 0 ts q c (omega (arith, l)))

  all_row : (d k : ℕ) (ts : List (PTree d)) → length ts ≡ ways → ((c : ℕ) → c < ways → Rep d ways n x (kid ways k c) (get_or ts c (none d))) → Row d k 0 ts
  all_row d k ts e f = at_row d k 0 ts (omega (arith, e)) (λ c l. subst (λ (j : ℕ). Rep d ways n x (kid ways k j) (get_or ts c (none d))) {x = c} {y = 0 + c} (omega arith) (f c (omega (arith, l))))

  row_counts : (d k c : ℕ) (ts : List (PTree d)) → Row d k c ts → counts ways n k c (length ts) ≡ sum_of (size d) ts
  unfolding counts
  row_counts d k c [] q = refl
  row_counts d k c (t ∷ ts) q = omega (arith, rep_count d ways n x (kid ways k c) t q.1, row_counts d k (suc c) ts q.2)

  module _ (d : ℕ) (b : List Side) (a : List Bound) (k : ℕ) where
    abbrev pub Held : ℕ → List (PTree d) → Type 0
    Held c ts = Each (λ i t. Proper d (part b i) (narrowed b a i) t) c ts

    pub record Rowed (c : ℕ) (fin : Bool) (m u m' u' : List ℕ) : Type 0 where
      pub trees : List (PTree d)
      pub row : Row d k c trees
      pub proper : Held c trees
      pub places : Marked m m' (λ p. sum_of (places_at d p) trees)
      pub groups : Marked u u' (λ g. sum_of (groups_at d g) trees)
      pub last : fin ≡ true

    -- the answer r of the test of these children; `fin` is what it says after the last
    pub record Kids (c : ℕ) (fin : Bool) (m u m' u' : List ℕ) (r : Bool) : Type 0 where
      pub sure : r ≡ true → Rowed c fin m u m' u'
      pub only : (ts : List (PTree d)) → Row d k c ts → Held c ts → Fresh m (λ p. sum_of (places_at d p) ts) → Fresh u (λ g. sum_of (groups_at d g) ts) → fin ≡ true → r ≡ true

    unfoldable pub Rows : (c : ℕ) → Bool → (m u m' u' : List ℕ) → Bool → Type 0
    Rows c fin m u m' u' r = Sized m u → 4 * kid ways k ways ≤ length n → Kids c fin m u m' u' r

    pub rows_end : (c : ℕ) (m u : List ℕ) (r : Bool) → c ≡ ways → Rows c r m u m u r
    unfolding Rows
    rows_end c m u r e sz room = record {
      sure = λ t. record { trees = []; row = e; proper = tt; places = marked_none m sz.low_m; groups = marked_none u sz.low_u; last = t };
      only = λ ts q p f g t. t;
    }

    pub rows_not : (c j : ℕ) (fin : Bool) (b' : List Side) (a' : List Bound) (m u m1 u1 m' u' : List ℕ) → c < ways → j ≡ kid ways k c → b' ≡ part b c → a' ≡ narrowed b a c → Checks d b' a' j m u m1 u1 false → Rows c fin m u m' u' false
    unfolding Rows Checks
    rows_not c j fin b' a' m u m1 u1 m' u' lc ej eb ea w sz room = record { sure = λ t. no_true t; only = only }
      where
        only : (ts : List (PTree d)) → Row d k c ts → Held c ts → Fresh m (λ p. sum_of (places_at d p) ts) → Fresh u (λ g. sum_of (groups_at d g) ts) → fin ≡ true → false ≡ true
        only [] q p f g t = absurd (omega (arith, lc, q))
        only (s ∷ ts) q p f g t = (w sz (omega (arith, ej, lc, room))).only s (subst (λ (i : ℕ). Rep d ways n x i s) (sym ej) q.1)
            (subst (λ (v : List Side). Proper d v a' s) (sym eb) (subst (λ (v : List Bound). Proper d (part b c) v s) (sym ea) p.0))
            (λ i. omega (arith, f i)) (λ i. omega (arith, g i))

    pub rows_step : (c j c' : ℕ) (fin : Bool) (b' : List Side) (a' : List Bound) (m u m1 u1 m' u' : List ℕ) (r : Bool) → c < ways → j ≡ kid ways k c → b' ≡ part b c → a' ≡ narrowed b a c → c' ≡ suc c
        → Checks d b' a' j m u m1 u1 true → Rows c' fin m1 u1 m' u' r → Rows c fin m u m' u' r
    unfolding Rows Checks
    rows_step c j c' fin b' a' m u m1 u1 m' u' r lc ej eb ea ec w v sz room =
        step ((w sz (omega (arith, ej, lc, room))).sure refl)
      where
        step : Found d b' a' j m u m1 u1 → Kids c fin m u m' u' r
        step q =
            let rep : Rep d ways n x (kid ways k c) q.tree = subst (λ (i : ℕ). Rep d ways n x i q.tree) ej q.rep in
            let z = subst (λ (i : ℕ). Kids i fin m1 u1 m' u' r) ec (v (sized_after m u m1 u1 _ _ sz q.places q.groups) room) in
            record {
              sure = λ t. let y = z.sure t in record {
                trees = q.tree ∷ y.trees;
                row = (lc, rep, y.row);
                proper = (subst (λ (i : List Side). Proper d i (narrowed b a c) q.tree) eb (subst (λ (i : List Bound). Proper d b' i q.tree) ea q.proper), y.proper);
                places = marked_then m m1 m' _ _ _ q.places y.places (λ p. refl);
                groups = marked_then u u1 u' _ _ _ q.groups y.groups (λ p. refl);
                last = y.last;
              };
              only = only z.only rep;
            }
          where
            only : ((ts : List (PTree d)) → Row d k (suc c) ts → Held (suc c) ts → Fresh m1 (λ p. sum_of (places_at d p) ts) → Fresh u1 (λ g. sum_of (groups_at d g) ts) → fin ≡ true → r ≡ true) → Rep d ways n x (kid ways k c) q.tree
                → (ts : List (PTree d)) → Row d k c ts → Held c ts → Fresh m (λ p. sum_of (places_at d p) ts) → Fresh u (λ g. sum_of (groups_at d g) ts) → fin ≡ true → r ≡ true
            only go rep [] y p f g t = absurd (omega (arith, lc, y))
            only go rep (s ∷ ts) y p f g t =
                let e : q.tree ≡ s = rep_unique d ways n x (kid ways k c) q.tree s rep (λ i. omega (arith, q.places.sums i, q.places.low i)) y.1 (λ i. omega (arith, f i)) in
                go ts y.2 p.1 (λ i. omega (arith, f i, q.places.sums i, ap (places_at d i) e)) (λ i. omega (arith, g i, q.groups.sums i, ap (groups_at d i) e)) t

  -- ---- the divided node
  check_kids : (d : ℕ) (b : List Side) (a : List Bound) (i : ℕ) (m u u1 m' u' : List ℕ) (g v : ℕ) (fin r : Bool) → 0 < ways → g ≡ get_or n (4 * i) 0 → v ≡ get_or n (4 * i + 3) 0 → g ≢ 0 → d ≢ 0 → cap < v → Claims u u1 g true
      → fin ≡ eqb (counts ways n g 0 ways) v → Rows (d - 1) b a g 0 fin m u1 m' u' r → Checks d b a i m u m' u' r
  unfolding Checks Rows
  check_kids zero b a i m u u1 m' u' g v fin r lw eg ev nz nd h c ef w sz room = absurd (nd refl)
  check_kids (suc d) b a i m u u1 m' u' g v fin r lw eg ev nz nd h c ef w sz room =
      by (claims_mark u u1 g sz.low_u c)
    where
      by : Marked u u1 (λ q. is q g) → Checked (suc d) b a i m u m' u' r
      by mk = record { sure = λ t. found (z.sure t); only = only }
        where
          z : Kids d b a g 0 fin m u1 m' u' r
          z = subst (λ (e : ℕ). Sized m u1 → 4 * kid ways g ways ≤ length n → Kids e b a g 0 fin m u1 m' u' r) (sub-one (suc d)) w (sized_after m u m u1 _ _ sz (marked_none m sz.low_m) mk) (sz.inside g (c.sure refl).0)

          found : Rowed d b a g 0 fin m u1 m' u' → Found (suc d) b a i m u m' u'
          found y =
              let e : counts ways n g 0 ways ≡ v = eqb-true (counts ways n g 0 ways) v (sym ef ∙ y.last) in
              let l : length y.trees ≡ ways = omega (arith, row_length d g 0 y.trees y.row) in
              let s : sum_of (size d) y.trees ≡ v = sym (row_counts d g 0 y.trees y.row) ∙ ap (counts ways n g 0) l ∙ e in
              record {
                tree = branch g y.trees;
                rep = (room, sym eg, nz, sym ev ∙ sym s, l, row_all d g y.trees y.row);
                proper = (omega (arith, h, s), y.proper);
                places = y.places;
                groups = marked_then u u1 u' _ _ _ mk y.groups (λ p. refl);
              }

          only : (t : PTree (suc d)) → Rep (suc d) ways n x i t → Proper (suc d) b a t → Fresh m (λ p. places_at (suc d) p t) → Fresh u (λ g. groups_at (suc d) g t) → r ≡ true
          only (leaf l) q p f k = absurd (nz (eg ∙ q.1))
          only (branch j ts) q p f k =
              let e : g ≡ j = eg ∙ q.1 in
              let row : Row d g 0 ts = all_row d g ts q.4 (λ y l. subst (λ (o : ℕ). Rep d ways n x (kid ways o y) (get_or ts y (none d))) (sym e) (q.5 y l)) in
              z.only ts row p.1 f (λ o. omega (arith, k o, mk.sums o, ap (is o) e)) (ef ∙ eq-eqb (counts ways n g 0 ways) v (ap (counts ways n g 0) (sym q.4) ∙ row_counts d g 0 ts row ∙ sym q.3 ∙ sym ev))

  -- ---- the loop over the children: what is left leads to the whole
  module _ (d : ℕ) (b : List Side) (a : List Bound) (g : ℕ) (fin : Bool) (m u : List ℕ) where
    pub record Descending (c : ℕ) (nm nu : List ℕ) : Type 0 where
      pub same_m : length nm ≡ length m
      pub same_u : length nu ≡ length u
      pub most : c ≤ ways
      pub on : (m' u' : List ℕ) (r : Bool) → Rows d b a g c fin nm nu m' u' r → Rows d b a g 0 fin m u m' u' r

    pub descending_start : Descending 0 m u
    descending_start = record { same_m = refl; same_u = refl; most = omega arith; on = λ m' u' r w. w }

    module _ (c : ℕ) (nm nu : List ℕ) (w : Descending c nm nu) where
      pub descending_step : (j : ℕ) (b' : List Side) (a' : List Bound) (nm' nu' : List ℕ) (t : Bool) → c < ways → j ≡ kid ways g c → b' ≡ part b c → a' ≡ narrowed b a c → length nm' ≡ length nm → length nu' ≡ length nu → Checks d b' a' j nm nu nm' nu' t → not t ≡ false
          → Descending (c + 1) nm' nu'
      descending_step j b' a' nm' nu' t lc ej eb ea em eu k e = record {
        same_m = em ∙ w.same_m;
        same_u = eu ∙ w.same_u;
        most = omega (arith, lc);
        on = λ m' u' r v. w.on m' u' r (rows_step d b a g c j (c + 1) fin b' a' nm nu nm' nu' m' u' r lc ej eb ea (add-one c) (subst (λ (y : Bool). Checks d b' a' j nm nu nm' nu' y) (not-false t e) k) v);
      }

      pub descending_not : (j : ℕ) (b' : List Side) (a' : List Bound) (nm' nu' m' u' : List ℕ) (t : Bool) → c < ways → j ≡ kid ways g c → b' ≡ part b c → a' ≡ narrowed b a c → Checks d b' a' j nm nu nm' nu' t → not t ≡ true → Rows d b a g 0 fin m u m' u' false
      descending_not j b' a' nm' nu' m' u' t lc ej eb ea k e = w.on m' u' false (rows_not d b a g c j fin b' a' nm nu nm' nu' m' u' lc ej eb ea (subst (λ (y : Bool). Checks d b' a' j nm nu nm' nu' y) (not-true t e) k))

      pub descending_end : (r : Bool) → ways ≤ c → r ≡ fin → Rows d b a g 0 fin m u nm nu r
      descending_end r h e = subst (λ (y : Bool). Rows d b a g 0 fin m u nm nu y) (sym e) (w.on nm nu fin (rows_end d b a g c nm nu fin (omega (arith, h, w.most))))

  -- ---- the divided node, as the code tests it
  pub check_divided : (d : ℕ) (b : List Side) (a : List Bound) (i : ℕ) (m u u1 m' u' : List ℕ) (g v : ℕ) (t r : Bool) → 0 < ways → g ≡ get_or n (4 * i) 0 → v ≡ get_or n (4 * i + 3) 0 → g ≢ 0 → d ≢ 0 → cap < v → Claims u u1 g t → not t ≡ false
      → Rows (d - 1) b a g 0 (eqb (counts ways n g 0 ways) v) m u1 m' u' r → Checks d b a i m u m' u' r
  check_divided d b a i m u u1 m' u' g v t r lw eg ev nz nd h c e w =
      check_kids d b a i m u u1 m' u' g v (eqb (counts ways n g 0 ways) v) r lw eg ev nz nd h (subst (λ (k : Bool). Claims u u1 g k) (not-false t e) c) refl w

  pub check_taken : (d : ℕ) (b : List Side) (a : List Bound) (i : ℕ) (m u u1 m' u' : List ℕ) (g v : ℕ) (t : Bool) → 0 < ways → g ≡ get_or n (4 * i) 0 → v ≡ get_or n (4 * i + 3) 0 → g ≢ 0 → Claims u u1 g t → not t ≡ true → Checks d b a i m u m' u' false
  check_taken d b a i m u u1 m' u' g v t lw eg ev nz c e = check_met d b a i m u u1 m' u' g v lw eg ev nz (subst (λ (k : Bool). Claims u u1 g k) (not-true t e) c)

  -- ---- an undivided node as the code tests it: its box is not looked at, and no group is marked
  unfoldable pub LeafChecks : (d : ℕ) → List Bound → ℕ → (m m' : List ℕ) → Bool → Type 0
  LeafChecks d a i m m' r = (b : List Side) (u : List ℕ) → get_or n (4 * i) 0 ≡ 0 → Checks d b a i m u m' u r

  pub leaf_over : (d : ℕ) (a : List Bound) (i : ℕ) (m m' : List ℕ) (v : ℕ) → v ≡ get_or n (4 * i + 3) 0 → ltb 0 d && ltb cap v ≡ true → LeafChecks d a i m m' false
  unfolding LeafChecks
  leaf_over d a i m m' v ev t b u z =
      let e = both (ltb 0 d) (ltb cap v) t in
      check_many d b a i m u m' u (get_or n (4 * i) 0) v refl ev z (λ k. absurd (omega (arith, k, ltb-true 0 d e.0))) (ltb-true cap v e.1)

  pub leaf_places : (d : ℕ) (a : List Bound) (i : ℕ) (m m' : List ℕ) (r : Bool) (v h last : ℕ) → v ≡ get_or n (4 * i + 3) 0 → ltb 0 d && ltb cap v ≡ false → h ≡ get_or n (4 * i + 1) 0 → last ≡ get_or n (4 * i + 2) 0
      → ListChecks pt x a h last v m m' r → LeafChecks d a i m m' r
  unfolding LeafChecks
  leaf_places d a i m m' r v h last ev t eh el w b u z = check_list d b a i m u m' r (get_or n (4 * i) 0) v h last refl ev z (few (ltb 0 d) (ltb cap v) t (ltb-false 0 d) (ltb-false cap v)) eh el w
    where
      few : (s t : Bool) → s && t ≡ false → (s ≡ false → d ≤ 0) → (t ≡ false → v ≤ cap) → ((d ≡ 0) ⊎ (v ≤ cap))
      few true t e f g = inr (g e)
      few false t e f g = inl (omega (arith, f refl))

  pub leaf_checked : (d : ℕ) (b : List Side) (a : List Bound) (i : ℕ) (m u m' : List ℕ) (r : Bool) (g : ℕ) → g ≡ get_or n (4 * i) 0 → g ≡ 0 → LeafChecks d a i m m' r → Checks d b a i m u m' u r
  unfolding LeafChecks
  leaf_checked d b a i m u m' r g eg z w = w b u (sym eg ∙ z)
