-- Lists, free places and free groups of a tree in the pool. Assumes nothing.
use mathlib.Core.Path.{◌≡◌, refl, ap, sym, subst, ◌∙◌}
use mathlib.Core.Logic.{◌≢◌}
use mathlib.Core.Bool.{false}
use mathlib.Core.List.{List, [], ◌∷◌, ◌++◌}
use Prim.Native.Nat.{ℕ, zero, suc, ◌+◌, ◌*◌, ◌<◌, ◌≤◌}
use native.Mathlib.Omega.{arith}
use lib.Dec.{leb, leb-zero, leb-suc-zero, leb-suc-suc}
use lib.ListN.{length, get_or, set, length-set}
use lib.Seq.{get_or-set_same, get_or-set_other, lt-length-set, set-get_or}
use Rattle.pool.specs.Lists.{ifz, occ, sum_of, Chain}
use Rattle.pool.specs.Writes.{Pool, both, kid, appended, cut_out, popped, pushed, taken, given, enough}
use Rattle.pool.specs.Trees.{leaf, branch, PTree, flat, none, groups_at, places_at}
use Rattle.pool.specs.Worlds.{RepLeaf, Rep, Free, World, Same, Frame}
use Rattle.pool.specs.Meanings.{Appends, Cuts, TakesPlace, GivesPlace, TakesGroup, GivesGroup, Tells}
use Rattle.pool.proofs.Lists.{by-eq, pos, ifz-yes, ifz-no, is_other, is_eq, occ_append}
use Rattle.pool.proofs.Chains.{chain_agree, chain_set, no_zero}
use Rattle.pool.proofs.Trees.{groups_flat, places_flat, size_flat, kid_inj, kid_low}
use Rattle.pool.proofs.Frames.{rep_flat, flat_rep, same_set, same_refl, same_then, rep_agree, free_agree}
use Rattle.pool.proofs.Leaves.{Listed, app_is, cut_is}

-- ---- a new list in node i
listed_world : (d ways : ℕ) (s r : Pool) (i : ℕ) (l m fl fp ps : List ℕ) (own : ℕ → ℕ) → 0 < ways → World d ways s i (flat d l) fl fp → Listed s r i m own
    → ((q : ℕ) → occ q fp ≢ 0 → own q ≡ 0) → own 0 ≡ 0 → ((q : ℕ) → occ q m + occ q fp ≤ 1) → ((q : ℕ) → occ q l + occ q ps ≡ 0 → own q ≡ 0)
    → World d ways r i (flat d m) fl fp × Frame d ways s r i (flat d l) fl ps
listed_world d ways s r i l m fl fp ps own lw w k of o0 om ol = (
  record {
    rep = rep_flat d ways _ _ i m k.rep;
    free = subst (λ h. Free ways r.nodes h fl) (sym (k.nodes 0 (λ z. w.low (sym z))).group)
        (free_agree ways s.nodes r.nodes (get_or s.nodes 0 0) fl k.len_n (λ h z. (k.nodes (kid ways h 0) (λ e. z (omega (arith, w.apart h 0 lw (sym e))))).group) w.free);
    spare = subst (λ h. Chain r.links h fp) (sym (k.links 0 o0)) (chain_agree fp s.links r.links (get_or s.links 0 0) k.len_x (λ q z. k.links q (of q z)) w.spare);
    low = w.low;
    groups = λ h. omega (arith, w.groups h, groups_flat d h l, groups_flat d h m);
    places = λ q. omega (arith, om q, places_flat d q m);
    apart = λ h c lc e. omega (arith, w.apart h c lc e, groups_flat d h l, groups_flat d h m);
  },
  record {
    len_n = k.len_n;
    len_x = k.len_x;
    nodes = λ q o. k.nodes q o.1;
    links = λ q z. k.links q (ol q (omega (arith, z, places_flat d q l)));
  },
)

pub append_world : (s : Pool) (i p : ℕ) → Appends s (appended s i p) i p
unfolding Appends
append_world s i p d ways l fl fp lw w r =
    listed_world d ways s (appended s i p) i l (l ++ (p ∷ [])) fl fp (p ∷ []) (λ q. occ q l + occ q (p ∷ [])) lw w
    (app_is s i l p q (λ v. omega (arith, w.places v, places_flat d v l)) (omega (arith, r.out, places_flat d p l)) r.nonzero r.inside (omega (arith, r.few, size_flat d l)))
    (λ v z. by-eq v p (λ e. absurd (z (ap (λ u. occ u fp) e ∙ omega (arith, r.out)))) (λ e. omega (arith, is_other v p e, w.places v, places_flat d v l, pos _ z)))
    (omega (arith, no_zero l s.links (get_or s.nodes (4 * i + 1) 0) q.2, is_other 0 p (λ e. r.nonzero (sym e))))
    once (λ v z. z)
  where
    q : RepLeaf s.nodes s.links i l
    q = flat_rep d ways s.nodes s.links i l w.rep

    once : (v : ℕ) → occ v (l ++ (p ∷ [])) + occ v fp ≤ 1
    once v = by-eq v p
        (λ e. omega (arith, occ_append v l (p ∷ []), is_eq v p e, ap (λ u. places_at d u (flat d l) + occ u fp) e ∙ r.out, places_flat d v l))
        (λ e. omega (arith, occ_append v l (p ∷ []), is_other v p e, w.places v, places_flat d v l))

pub cut_world : (s : Pool) (i p b : ℕ) → Cuts s (cut_out s i p b) i p b
unfolding Cuts
cut_world s i p b d ways l m fl fp lw w eb =
    listed_world d ways s (cut_out s i p b) i (l ++ (p ∷ m)) (l ++ m) fl fp [] (λ q. occ q (l ++ (p ∷ m))) lw w
    (cut_is l m s i p b q eb (λ v. omega (arith, w.places v, places_flat d v (l ++ (p ∷ m)))))
    (λ v z. omega (arith, w.places v, places_flat d v (l ++ (p ∷ m)), pos _ z))
    (no_zero (l ++ (p ∷ m)) s.links (get_or s.nodes (4 * i + 1) 0) q.2)
    (λ v. omega (arith, w.places v, places_flat d v (l ++ (p ∷ m)), occ_append v l (p ∷ m), occ_append v l m)) (λ v z. omega (arith, z))
  where
    q : RepLeaf s.nodes s.links i (l ++ (p ∷ m))
    q = flat_rep d ways s.nodes s.links i (l ++ (p ∷ m)) w.rep

-- ---- the numbers that no tree has
sum_zero : {K : Type 0} (f : K → ℕ) (ts : List K) (z : K) → ((c : ℕ) → c < length ts → f (get_or ts c z) ≡ 0) → sum_of f ts ≡ 0
sum_zero f [] z h = refl
sum_zero f (t ∷ ts) z h = omega (arith, h 0 (omega arith), sum_zero f ts z (λ c lt. h (suc c) (omega arith)))

pub no_place_zero : (d ways : ℕ) (n x : List ℕ) (i : ℕ) (t : PTree d) → Rep d ways n x i t → places_at d 0 t ≡ 0
no_place_zero zero ways n x i l r = no_zero l x (get_or n (4 * i + 1) 0) r.2
no_place_zero (suc d) ways n x i (leaf l) r = no_zero l x (get_or n (4 * i + 1) 0) r.2
no_place_zero (suc d) ways n x i (branch k ts) r = sum_zero (places_at d 0) ts (none d) (λ c lt. no_place_zero d ways n x (kid ways k c) (get_or ts c (none d)) (r.5 c (omega (arith, lt, r.4))))

pub no_group_zero : (d ways : ℕ) (n x : List ℕ) (i : ℕ) (t : PTree d) → Rep d ways n x i t → groups_at d 0 t ≡ 0
no_group_zero zero ways n x i l r = refl
no_group_zero (suc d) ways n x i (leaf l) r = refl
no_group_zero (suc d) ways n x i (branch k ts) r =
    omega (arith, is_other 0 k (λ e. r.2 (sym e)), sum_zero (groups_at d 0) ts (none d) (λ c lt. no_group_zero d ways n x (kid ways k c) (get_or ts c (none d)) (r.5 c (omega (arith, lt, r.4)))))

pub no_free_zero : (ways : ℕ) (n : List ℕ) (h : ℕ) (fl : List ℕ) → Free ways n h fl → occ 0 fl ≡ 0
no_free_zero ways n h [] f = refl
no_free_zero ways n h (k ∷ fl) f = omega (arith, is_other 0 k (λ e. f.1 (sym e)), no_free_zero ways n (get_or n (4 * kid ways k 0) 0) fl f.3)

-- a node of a group that the tree has, or that is free, is not the header
pub kid_nonzero : (d ways : ℕ) (s : Pool) (i : ℕ) (t : PTree d) (fl fp : List ℕ) (g c : ℕ) → 0 < ways → World d ways s i t fl fp → groups_at d g t + occ g fl ≢ 0 → kid ways g c ≢ 0
kid_nonzero d ways s i t fl fp g c lw w z e =
    absurd (omega (arith, e, kid_low ways g c lw (λ v. z (ap (λ u. groups_at d u t + occ u fl) v ∙ omega (arith, no_group_zero d ways s.nodes s.links i t w.rep, no_free_zero ways s.nodes (get_or s.nodes 0 0) fl w.free)))))

-- ---- free places
abbrev LinksKept : (d ways : ℕ) (n x y : List ℕ) (i : ℕ) (t : PTree d) (fl fp fq : List ℕ) → Type 0
LinksKept d ways n x y i t fl fp fq = World d ways (both n x) i t fl fp → World d ways (both n y) i t fl fq

relink : (d ways : ℕ) (n x y : List ℕ) (i : ℕ) (t : PTree d) (fl fp fq : List ℕ) → length y ≡ length x → ((q : ℕ) → places_at d q t ≢ 0 → get_or y q 0 ≡ get_or x q 0) → Chain y (get_or y 0 0) fq
    → ((q : ℕ) → places_at d q t + occ q fq ≤ 1) → LinksKept d ways n x y i t fl fp fq
relink d ways n x y i t fl fp fq ex a c o w = record {
  rep = rep_agree d ways t n n x y i refl ex (same_refl n i) (λ g c lt z. same_refl n (kid ways g c)) a w.rep;
  free = w.free;
  spare = c;
  low = w.low;
  groups = w.groups;
  places = o;
  apart = w.apart;
}

pub pop_world : (d ways : ℕ) (n x : List ℕ) (i : ℕ) (t : PTree d) (fl : List ℕ) (p : ℕ) (fp : List ℕ) → LinksKept d ways n x (popped x) i t fl (p ∷ fp) fp
unfolding popped
pop_world d ways n x i t fl p fp w =
    relink d ways n x (popped x) i t fl (p ∷ fp) fp (length-set x 0 v)
    (λ q z. get_or-set_other x 0 q v 0 (λ e. z (ap (λ u. places_at d u t) e ∙ no_place_zero d ways n x i t w.rep)))
    (subst (λ h. Chain (set x 0 v) h fp) (sym (get_or-set_same x 0 v 0 (omega (arith, w.spare.2)) ∙ ap (λ u. get_or x u 0) w.spare.0))
    (chain_set fp x (get_or x p 0) 0 v (omega (arith, no_zero (p ∷ fp) x (get_or x 0 0) w.spare)) w.spare.3))
    (λ q. omega (arith, w.places q)) w
  where
    v : ℕ
    v = get_or x (get_or x 0 0) 0

-- a place comes to the front of a chain that begins at word 0
pub push_chain : (x : List ℕ) (p : ℕ) (fp : List ℕ) → Chain x (get_or x 0 0) fp → p ≢ 0 → p < length x → occ p fp ≡ 0 → Chain (pushed x p) (get_or (pushed x p) 0 0) (p ∷ fp)
unfolding pushed
push_chain x p fp c nz lt o = (
  get_or-set_same x1 0 p 0 (lt-length-set x p h (omega (arith, lt))),
  nz,
  lt-length-set x1 0 p (lt-length-set x p h lt),
  subst (λ a. Chain (set x1 0 p) a fp) (sym (get_or-set_other x1 0 p p 0 nz ∙ get_or-set_same x p h 0 lt)) (chain_set fp x1 h 0 p (no_zero fp x h c) (chain_set fp x h p h o c)),
)
  where
    h : ℕ
    h = get_or x 0 0

    x1 : List ℕ
    x1 = set x p (get_or x 0 0)

pub pushed_length : (x : List ℕ) (p : ℕ) → length (pushed x p) ≡ length x
unfolding pushed
pushed_length x p = length-set (set x p (get_or x 0 0)) 0 p ∙ length-set x p (get_or x 0 0)

pushed_other : (x : List ℕ) (p q : ℕ) → q ≢ 0 → q ≢ p → get_or (pushed x p) q 0 ≡ get_or x q 0
unfolding pushed
pushed_other x p q a b = get_or-set_other (set x p (get_or x 0 0)) 0 q p 0 a ∙ get_or-set_other x p q (get_or x 0 0) 0 b

pub push_world : (x : List ℕ) (p : ℕ) → GivesPlace x (pushed x p) p
unfolding GivesPlace
push_world x p d ways n i t fl fp w nz lt o =
    relink d ways n x (pushed x p) i t fl fp (p ∷ fp) (pushed_length x p) (λ q z. kept q z) (push_chain x p fp w.spare nz lt (omega (arith, o)))
    (λ q. by-eq q p (λ e. omega (arith, is_eq q p e, ap (λ u. places_at d u t + occ u fp) e ∙ o)) (λ e. omega (arith, is_other q p e, w.places q))) w
  where
    kept : (q : ℕ) → places_at d q t ≢ 0 → get_or (pushed x p) q 0 ≡ get_or x q 0
    kept q z = pushed_other x p q (λ e. z (ap (λ u. places_at d u t) e ∙ no_place_zero d ways n x i t w.rep)) (λ e. z (ap (λ u. places_at d u t) e ∙ omega (arith, o)))

pub take_place_world : (x : List ℕ) → TakesPlace x (popped x) (get_or x 0 0)
unfolding TakesPlace popped
take_place_world x d ways n i t fl fp w = (none_left fp w, some_left fp w)
  where
    none_left : (fp : List ℕ) → World d ways (both n x) i t fl fp → fp ≡ [] → (get_or x 0 0 ≡ 0) × (popped x ≡ x)
    none_left [] w e = (w.spare, ap (set x 0) (ap (λ v. get_or x v 0) w.spare) ∙ set-get_or x 0 0)
    none_left (q ∷ fp) w e = absurd (let z : ◌≡◌ {A = ℕ} 0 1 = ap (λ l. ifz (length l) 0 1) (sym e) in omega arith)

    some_left : (fp : List ℕ) → World d ways (both n x) i t fl fp → (q : ℕ) (rest : List ℕ) → fp ≡ q ∷ rest → (get_or x 0 0 ≡ q) × World d ways (both n (popped x)) i t fl rest
    some_left fp w q rest e = let v : World d ways (both n x) i t fl (q ∷ rest) = subst (World d ways (both n x) i t fl) e w in (v.spare.0, pop_world d ways n x i t fl q rest v)

-- ---- free groups
regroup : (d ways : ℕ) (n m x : List ℕ) (i : ℕ) (t : PTree d) (fl fm fp : List ℕ) → length m ≡ length n → Same m n i → ((g c : ℕ) → c < ways → groups_at d g t ≢ 0 → Same m n (kid ways g c)) → Free ways m (get_or m 0 0) fm
    → ((g : ℕ) → groups_at d g t + occ g fm ≤ 1) → ((g c : ℕ) → c < ways → i ≡ kid ways g c → groups_at d g t + occ g fm ≡ 0) → World d ways (both n x) i t fl fp → World d ways (both m x) i t fm fp
regroup d ways n m x i t fl fm fp en si sg f o a w = record {
  rep = rep_agree d ways t n m x x i en refl si sg (λ p z. refl) w.rep;
  free = f;
  spare = w.spare;
  low = w.low;
  groups = o;
  places = w.places;
  apart = a;
}

pub take_world : (d ways : ℕ) (n x : List ℕ) (i : ℕ) (t : PTree d) (g : ℕ) (fl fp : List ℕ) → 0 < ways → World d ways (both n x) i t (g ∷ fl) fp → World d ways (both (taken ways n) x) i t fl fp
unfolding taken
take_world d ways n x i t g fl fp lw w =
    regroup d ways n (taken ways n) x i t (g ∷ fl) fl fp (length-set n 0 v) (header i w.low)
    (λ h c lc z. header (kid ways h c) (kid_nonzero d ways (both n x) i t (g ∷ fl) fp h c lw w (λ e. z (omega (arith, e)))))
    (subst (λ h. Free ways (set n 0 v) h fl) (sym (get_or-set_same n 0 v 0 (omega (arith, w.free.2, kid_low ways g ways lw w.free.1)) ∙ ap (λ k. get_or n (4 * kid ways k 0) 0) w.free.0))
    (free_agree ways n (set n 0 v) (get_or n (4 * kid ways g 0) 0) fl (length-set n 0 v) (λ h z. (header (kid ways h 0) (kid_nonzero d ways (both n x) i t (g ∷ fl) fp h 0 lw w (λ e. z (omega (arith, e))))).group) w.free.3))
    (λ h. omega (arith, w.groups h)) (λ h c lc e. omega (arith, w.apart h c lc e)) w
  where
    v : ℕ
    v = get_or n (4 * kid ways (get_or n 0 0) 0) 0

    header : (q : ℕ) → q ≢ 0 → Same (set n 0 v) n q
    header q nz = same_set n 0 v q (λ e. nz (omega arith))

pub given_length : (ways : ℕ) (n : List ℕ) (k : ℕ) → length (given ways n k) ≡ length n
unfolding given
given_length ways n k = length-set (set n (4 * kid ways k 0) (get_or n 0 0)) 0 k ∙ length-set n (4 * kid ways k 0) (get_or n 0 0)

pub given_same : (ways : ℕ) (n : List ℕ) (k q : ℕ) → q ≢ 0 → q ≢ kid ways k 0 → Same (given ways n k) n q
unfolding given
given_same ways n k q a b = same_then (same_set (set n (4 * kid ways k 0) (get_or n 0 0)) 0 k q (λ e. a (omega arith))) (same_set n (4 * kid ways k 0) (get_or n 0 0) q (λ e. b (omega arith)))

-- a group comes to the front of the free ones
pub give_free : (ways : ℕ) (n : List ℕ) (k : ℕ) (fl : List ℕ) → 0 < ways → Free ways n (get_or n 0 0) fl → k ≢ 0 → 4 * kid ways k ways ≤ length n → occ k fl ≡ 0
    → Free ways (given ways n k) (get_or (given ways n k) 0 0) (k ∷ fl)
unfolding given
give_free ways n k fl lw f nz room o = (
  get_or-set_same n1 0 k 0 (lt-length-set n (4 * kid ways k 0) h (omega (arith, room, kid_low ways k ways lw nz))),
  nz,
  omega (arith, room, given_length ways n k),
  subst (λ a. Free ways (set n1 0 k) a fl) (sym (get_or-set_other n1 0 (4 * kid ways k 0) k 0 (λ e. absurd (omega (arith, e, kid_low ways k 0 lw nz))) ∙ get_or-set_same n (4 * kid ways k 0) h 0 (omega (arith, room, lw))))
      (free_agree ways n (set n1 0 k) h fl (given_length ways n k) (λ g z. (given_same ways n k (kid ways g 0) (nonzero g z) (λ e. z (ap (λ u. occ u fl) (kid_inj ways g k 0 0 lw lw e) ∙ o))).group) f),
)
  where
    h : ℕ
    h = get_or n 0 0

    n1 : List ℕ
    n1 = set n (4 * kid ways k 0) (get_or n 0 0)

    nonzero : (g : ℕ) → occ g fl ≢ 0 → kid ways g 0 ≢ 0
    nonzero g z e = absurd (omega (arith, e, kid_low ways g 0 lw (λ v. z (ap (λ u. occ u fl) v ∙ no_free_zero ways n h fl f))))

pub give_world : (ways : ℕ) (n : List ℕ) (k : ℕ) → GivesGroup ways n (given ways n k) k
unfolding GivesGroup
give_world ways n k d x i t fl fp lw w nz room o far =
    regroup d ways n (given ways n k) x i t fl (k ∷ fl) fp (given_length ways n k) (given_same ways n k i w.low (far 0 lw))
    (λ g c lc z. given_same ways n k (kid ways g c) (kid_nonzero d ways (both n x) i t fl fp g c lw w (λ e. z (omega (arith, e)))) (λ e. z (ap (λ u. groups_at d u t) (kid_inj ways g k c 0 lc lw e) ∙ omega (arith, o))))
    (give_free ways n k fl lw w.free nz room (omega (arith, o)))
    (λ g. by-eq g k (λ e. omega (arith, is_eq g k e, ap (λ u. groups_at d u t + occ u fl) e ∙ o)) (λ e. omega (arith, is_other g k e, w.groups g)))
    (λ g c lc e. omega (arith, w.apart g c lc e, is_other g k (λ z. far c lc (e ∙ ap (λ u. kid ways u c) z)))) w

pub take_group_world : (ways : ℕ) (n : List ℕ) → TakesGroup ways n (taken ways n) (get_or n 0 0)
unfolding TakesGroup taken
take_group_world ways n d x i t fl fp lw w = (none_left fl w, some_left fl w)
  where
    none_left : (fl : List ℕ) → World d ways (both n x) i t fl fp → fl ≡ [] → (get_or n 0 0 ≡ 0) × (taken ways n ≡ n)
    none_left [] w e = (w.free, ap (set n 0) (ap (λ k. get_or n (4 * kid ways k 0) 0) w.free ∙ ap (λ u. get_or n u 0) (omega arith)) ∙ set-get_or n 0 0)
    none_left (q ∷ fp) w e = absurd (let z : ◌≡◌ {A = ℕ} 0 1 = ap (λ l. ifz (length l) 0 1) (sym e) in omega arith)

    some_left : (fl : List ℕ) → World d ways (both n x) i t fl fp → (g : ℕ) (rest : List ℕ) → fl ≡ g ∷ rest → (get_or n 0 0 ≡ g) × World d ways (both (taken ways n) x) i t rest fp
    some_left fl w g rest e = let v : World d ways (both n x) i t (g ∷ rest) fp = subst (λ l. World d ways (both n x) i t l fp) e w in (v.free.0, take_world d ways n x i t g rest fp lw v)

-- ---- how many groups are free
enough_is : (ways : ℕ) (n : List ℕ) (m h : ℕ) (fl : List ℕ) → Free ways n h fl → enough ways n m h ≡ leb m (length fl)
unfolding enough
enough_is ways n zero h fl f = sym (leb-zero (length fl))
enough_is ways n (suc m) h [] f = ifz-yes h false (enough ways n m (get_or n (4 * kid ways h 0) 0)) f ∙ sym (leb-suc-zero m)
enough_is ways n (suc m) h (g ∷ fl) f =
    ifz-no h false (enough ways n m (get_or n (4 * kid ways h 0) 0)) (λ z. f.1 (sym f.0 ∙ z))
    ∙ ap (λ k. enough ways n m (get_or n (4 * kid ways k 0) 0)) f.0 ∙ enough_is ways n m (get_or n (4 * kid ways g 0) 0) fl f.3 ∙ sym (leb-suc-suc m (length fl))

pub enough_tells : (ways : ℕ) (n : List ℕ) (m : ℕ) → Tells ways n m (enough ways n m (get_or n 0 0))
unfolding Tells
enough_tells ways n m d x i t fl fp w = enough_is ways n m (get_or n 0 0) fl w.free
