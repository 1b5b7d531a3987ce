-- Empty nodes, and a pool in which everything is free. Assumes nothing.
use mathlib.Core.Path.{◌≡◌, refl, sym, subst, ◌∙◌}
use mathlib.Core.Logic.{◌≢◌}
use mathlib.Core.List.{List, []}
use Prim.Native.Nat.{ℕ, zero, suc, ◌+◌, ◌-◌, ◌*◌, ◌/◌, ◌<◌, ◌≤◌}
use native.Mathlib.Omega.{arith}
use native.Mathlib.Nat.{div-add-mod'}
use lib.ListN.{length, get_or, set, length-set}
use lib.Seq.{get_or-set_same, get_or-set_other}
use Rattle.pool.specs.Lists.{occ, Chain}
use Rattle.pool.specs.Writes.{Pool, kid, pushed, given, pushed_down, given_down, named, cleared, cleared_from, emptied}
use Rattle.pool.specs.Worlds.{RepLeaf, Free, Same}
use Rattle.pool.specs.Meanings.{up_from, Empties}
use Rattle.pool.proofs.Lists.{by-eq, is_other, is_eq}
use Rattle.pool.proofs.Trees.{groups_flat, places_flat, kid_low}
use Rattle.pool.proofs.Frames.{rep_flat, same_set, same_refl, same_then, leaf_agree, free_agree}
use Rattle.pool.proofs.Worlds.{push_chain, pushed_length, give_free, given_length}

-- ---- empty nodes
pub cleared_length : (n : List ℕ) (i : ℕ) → length (cleared n i) ≡ length n
unfolding cleared
cleared_length n i = simp length-set

pub cleared_same : (n : List ℕ) (i q : ℕ) → q ≢ i → Same (cleared n i) n q
unfolding cleared
cleared_same n i q h =
    let n1 = set n (4 * i) 0 in
    let n2 = set n1 (4 * i + 1) 0 in
    let n3 = set n2 (4 * i + 2) 0 in
    same_then (same_set n3 (4 * i + 3) 0 q (λ e. h (omega arith))) (same_then (same_set n2 (4 * i + 2) 0 q (λ e. h (omega arith)))
    (same_then (same_set n1 (4 * i + 1) 0 q (λ e. h (omega arith))) (same_set n (4 * i) 0 q (λ e. h (omega arith)))))

pub cleared_is : (n x : List ℕ) (i : ℕ) → 4 * i + 3 < length n → RepLeaf (cleared n i) x i []
unfolding cleared
cleared_is n x i h =
    let n1 = set n (4 * i) 0 in
    let n2 = set n1 (4 * i + 1) 0 in
    let n3 = set n2 (4 * i + 2) 0 in
    let l1 : length n1 ≡ length n = length-set n (4 * i) 0 in
    let l2 : length n2 ≡ length n = length-set n1 (4 * i + 1) 0 ∙ l1 in
    let l3 : length n3 ≡ length n = length-set n2 (4 * i + 2) 0 ∙ l2 in (
      omega (arith, h, l3, length-set n3 (4 * i + 3) 0),
      get_or-set_other n3 (4 * i + 3) (4 * i) 0 0 (λ e. absurd (omega arith)) ∙ get_or-set_other n2 (4 * i + 2) (4 * i) 0 0 (λ e. absurd (omega arith)) ∙ get_or-set_other n1 (4 * i + 1) (4 * i) 0 0 (λ e. absurd (omega arith)) ∙ get_or-set_same n (4 * i) 0 0 (omega arith),
      get_or-set_other n3 (4 * i + 3) (4 * i + 1) 0 0 (λ e. absurd (omega arith)) ∙ get_or-set_other n2 (4 * i + 2) (4 * i + 1) 0 0 (λ e. absurd (omega arith)) ∙ get_or-set_same n1 (4 * i + 1) 0 0 (omega (arith, l1)),
      get_or-set_other n3 (4 * i + 3) (4 * i + 2) 0 0 (λ e. absurd (omega arith)) ∙ get_or-set_same n2 (4 * i + 2) 0 0 (omega (arith, l2)),
      get_or-set_same n3 (4 * i + 3) 0 0 (omega (arith, l3)),
    )

pub clear_length : (k : ℕ) (n : List ℕ) (i : ℕ) → length (cleared_from k n i) ≡ length n
unfolding cleared_from
clear_length zero n i = refl
clear_length (suc k) n i = clear_length k (cleared n i) (suc i) ∙ cleared_length n i

pub clear_same : (k : ℕ) (n : List ℕ) (i q : ℕ) → ((c : ℕ) → c < k → q ≢ i + c) → Same (cleared_from k n i) n q
unfolding cleared_from
clear_same zero n i q h = same_refl n q
clear_same (suc k) n i q h = same_then (clear_same k (cleared n i) (suc i) q (λ c lt e. h (suc c) (omega arith) (omega arith))) (cleared_same n i q (λ e. h 0 (omega arith) (omega arith)))

pub clear_is : (k : ℕ) (n x : List ℕ) (i c : ℕ) → c < k → 4 * (i + k) ≤ length n → RepLeaf (cleared_from k n i) x (i + c) []
unfolding cleared_from
clear_is zero n x i c lt h = absurd (omega arith)
clear_is (suc k) n x i zero lt h =
    subst (λ j. RepLeaf (cleared_from k (cleared n i) (suc i)) x j []) (omega arith)
    (leaf_agree (cleared n i) (cleared_from k (cleared n i) (suc i)) x x i [] (clear_length k (cleared n i) (suc i)) refl (clear_same k (cleared n i) (suc i) i (λ c lt e. absurd (omega arith))) (λ p z. refl) (cleared_is n x i (omega arith)))
clear_is (suc k) n x i (suc c) lt h =
    subst (λ j. RepLeaf (cleared_from k (cleared n i) (suc i)) x j []) (omega arith) (clear_is k (cleared n i) x (suc i) c (omega arith) (omega (arith, h, cleared_length n i)))

-- ---- the numbers from a on
up_below : (m a q : ℕ) → q < a → occ q (up_from a m) ≡ 0
up_below zero a q h = refl
up_below (suc m) a q h = omega (arith, is_other q a (λ e. absurd (omega (arith, e))), up_below m (suc a) q (omega arith))

up_once : (m a q : ℕ) → occ q (up_from a m) ≤ 1
up_once zero a q = omega arith
up_once (suc m) a q = by-eq q a
    (λ e. omega (arith, is_eq q a e, up_below m (suc a) q (omega (arith, e))))
    (λ e. omega (arith, is_other q a e, up_once m (suc a) q))

-- ---- every place
all_pushed : (m k : ℕ) (x : List ℕ) → m < length x → Chain x (get_or x 0 0) (up_from (suc m) k) → Chain (pushed_down m x) (get_or (pushed_down m x) 0 0) (up_from 1 (m + k))
unfolding pushed_down
all_pushed zero k x lt c = let e : k ≡ 0 + k = omega arith in subst (λ j. Chain x (get_or x 0 0) (up_from 1 j)) e c
all_pushed (suc m) k x lt c =
    let e : m + suc k ≡ suc m + k = omega arith in
    subst (λ j. Chain (pushed_down m (pushed x (suc m))) (get_or (pushed_down m (pushed x (suc m))) 0 0) (up_from 1 j)) e
    (all_pushed m (suc k) (pushed x (suc m)) (omega (arith, lt, pushed_length x (suc m)))
    (push_chain x (suc m) (up_from (suc (suc m)) k) c (λ e. absurd (omega (arith, e))) lt (up_below k (suc (suc m)) (suc m) (omega arith))))

pushed_down_length : (m : ℕ) (x : List ℕ) → length (pushed_down m x) ≡ length x
unfolding pushed_down
pushed_down_length zero x = refl
pushed_down_length (suc m) x = pushed_down_length m (pushed x (suc m)) ∙ pushed_length x (suc m)

-- ---- every group that there is room for
all_given : (ways m k : ℕ) (n : List ℕ) → 0 < ways → 4 * kid ways m ways ≤ length n → Free ways n (get_or n 0 0) (up_from (suc m) k) → Free ways (given_down ways m n) (get_or (given_down ways m n) 0 0) (up_from 1 (m + k))
unfolding given_down
all_given ways zero k n lw room f = let e : k ≡ 0 + k = omega arith in subst (λ j. Free ways n (get_or n 0 0) (up_from 1 j)) e f
all_given ways (suc m) k n lw room f =
    let e : m + suc k ≡ suc m + k = omega arith in
    subst (λ j. Free ways (given_down ways m (given ways n (suc m))) (get_or (given_down ways m (given ways n (suc m))) 0 0) (up_from 1 j)) e
    (all_given ways m (suc k) (given ways n (suc m)) lw (omega (arith, room, given_length ways n (suc m)))
    (give_free ways n (suc m) (up_from (suc (suc m)) k) lw f (λ e. absurd (omega (arith, e))) room (up_below k (suc (suc m)) (suc m) (omega arith))))

given_down_length : (ways m : ℕ) (n : List ℕ) → length (given_down ways m n) ≡ length n
unfolding given_down
given_down_length ways zero n = refl
given_down_length ways (suc m) n = given_down_length ways m (given ways n (suc m)) ∙ given_length ways n (suc m)

given_none : (ways : ℕ) (n : List ℕ) → given_down ways 0 n ≡ n
unfolding given_down
given_none ways n = refl

-- the last group still lies within the nodes
rows_room : (ways len m : ℕ) → 0 < ways → suc m ≤ len / ways → kid ways m ways ≤ len
rows_room ways len m lw h = omega (arith, grow (suc m) (len / ways) h, div-add-mod' len ways)
  where
    grow : (a b : ℕ) → a ≤ b → a * ways ≤ b * ways
    grow a b h = omega (arith, up_to b a h)
      where
        up_to : (b a : ℕ) → a ≤ b → a * ways ≤ b * ways
        up_to zero zero h = omega arith
        up_to zero (suc a) h = absurd (omega arith)
        up_to (suc b) zero h = omega arith
        up_to (suc b) (suc a) h = omega (arith, up_to b a (omega arith))

pub emptied_world : (ways : ℕ) (s : Pool) (i : ℕ) → Empties ways s (emptied ways s i) i
unfolding Empties emptied
emptied_world ways s i d nz li room rx = (
  record {
    rep = rep_flat d ways (cleared n1 i) x1 i [] (cleared_is n1 x1 i (omega (arith, room, l1)));
    free = subst (λ h. Free ways (cleared n1 i) h (up_from 1 m)) (sym (cleared_same n1 i 0 (λ e. nz (sym e))).group)
        (free_agree ways n1 (cleared n1 i) (get_or n1 0 0) (up_from 1 m) (cleared_length n1 i) (λ g z. (cleared_same n1 i (kid ways g 0) (far g 0 z)).group) f1);
    spare = c1;
    low = nz;
    groups = λ g. omega (arith, groups_flat d g [], up_once m 1 g);
    places = λ p. omega (arith, places_flat d p [], up_once k 1 p);
    apart = λ g c lc e. omega (arith, groups_flat d g [], by-eq (occ g (up_from 1 m)) 0 (λ z. z) (λ z. absurd (far g c z (sym e))));
  },
  cleared_length n1 i ∙ l1,
  lx,
)
  where
    m : ℕ
    m = named (length s.nodes / 4 / ways) - 1

    k : ℕ
    k = named (length s.links) - 1

    lw : 0 < ways
    lw = omega arith

    n0 : List ℕ
    n0 = set s.nodes 0 0

    x0 : List ℕ
    x0 = set s.links 0 0

    n1 : List ℕ
    n1 = given_down ways (named (length s.nodes / 4 / ways) - 1) (set s.nodes 0 0)

    x1 : List ℕ
    x1 = pushed_down (named (length s.links) - 1) (set s.links 0 0)

    l1 : length n1 ≡ length s.nodes
    l1 = given_down_length ways m n0 ∙ length-set s.nodes 0 0

    lx : length x1 ≡ length s.links
    lx = pushed_down_length k x0 ∙ length-set s.links 0 0

    plain : (a : ℕ) → a + 0 ≡ a
    plain a = omega arith

    f0 : Free ways n0 (get_or n0 0 0) []
    f0 = get_or-set_same s.nodes 0 0 0 (omega (arith, room))

    roomy : (a : ℕ) → a ≡ named (length s.nodes / 4 / ways) - 1 → Free ways (given_down ways a n0) (get_or (given_down ways a n0) 0 0) (up_from 1 a)
    roomy zero e = subst (λ s. Free ways s (get_or s 0 0) []) (sym (given_none ways n0)) f0
    roomy (suc a) e = subst (λ j. Free ways (given_down ways (suc a) n0) (get_or (given_down ways (suc a) n0) 0 0) (up_from 1 j)) (plain (suc a))
        (all_given ways (suc a) 0 n0 lw (omega (arith, rows_room ways (length s.nodes / 4) (suc a) lw (omega (arith, e)), length-set s.nodes 0 0)) f0)

    f1 : Free ways n1 (get_or n1 0 0) (up_from 1 m)
    f1 = roomy (named (length s.nodes / 4 / ways) - 1) refl

    c1 : Chain x1 (get_or x1 0 0) (up_from 1 k)
    c1 = subst (λ j. Chain x1 (get_or x1 0 0) (up_from 1 j)) (plain k) (all_pushed k 0 x0 (omega (arith, rx, length-set s.links 0 0)) (get_or-set_same s.links 0 0 0 (omega (arith, rx))))

    far : (g c : ℕ) → occ g (up_from 1 m) ≢ 0 → kid ways g c ≢ i
    far g c z e = absurd (omega (arith, li, e, kid_low ways g c lw (λ v. z (up_below m 1 g (omega (arith, v))))))
