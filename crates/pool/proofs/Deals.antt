-- A list dealt out to the children of a group, and the split of a node. Assumes nothing.
use mathlib.Core.Path.{◌≡◌, refl, ap, sym, subst, ◌∙◌}
use mathlib.Core.Logic.{◌≢◌}
use mathlib.Core.Bool.{Bool, true, false, cond}
use mathlib.Core.List.{List, [], ◌∷◌, ◌++◌}
use Prim.Native.Nat.{ℕ, zero, suc, ◌+◌, ◌*◌, ◌<◌, ◌≤◌}
use native.Mathlib.Omega.{arith}
use lib.Dec.{ltb}
use borrow.Author.Tests.{ltb-true}
use lib.ListN.{length, get_or, set, replicate, length-set, length-map, length-replicate, get_or-replicate, length-append}
use lib.Seq.{get_or-set_same, get_or-set_other}
use Rattle.pool.specs.Lists.{occ, sum_of, Chain}
use Rattle.pool.specs.Writes.{Pool, both, kid, appended, taken, cleared_from, turn_at, dealing, parted}
use Rattle.pool.specs.Trees.{leaf, branch, flat, flats, dealt_from, dealt}
use Rattle.pool.specs.Worlds.{RepLeaf, Rep, Free, World, Same, Frame}
use Rattle.pool.specs.Meanings.{Splits}
use Rattle.pool.proofs.Lists.{by-eq, pos, ifz-yes, ifz-no, is_same, is_other, is_eq, occ_append, sum_at, sum_two, sum_set, sum_none}
use Rattle.pool.proofs.Chains.{chain_agree, chain_short, no_zero}
use Rattle.pool.proofs.Trees.{flats_groups, flats_places, flats_size, flats_at, kid_inj, kid_same}
use Rattle.pool.proofs.Frames.{rep_flat, same_set, same_refl, same_then, leaf_agree, free_agree}
use Rattle.pool.proofs.Leaves.{Listed, app_is}
use Rattle.pool.proofs.Worlds.{take_world, kid_nonzero}
use Rattle.pool.proofs.Clears.{clear_length, clear_same, clear_is}

-- ---- a turn is a child
pub turn_lt : (ways : ℕ) (ts : List ℕ) (j : ℕ) → 0 < ways → turn_at ways ts j < ways
unfolding turn_at
turn_lt ways ts j h = go (ltb (get_or ts j 0) ways) (ltb-true (get_or ts j 0) ways)
  where
    go : (b : Bool) → (b ≡ true → get_or ts j 0 < ways) → cond b (get_or ts j 0) 0 < ways
    go true f = f refl
    go false f = h

-- ---- as many of everything as in the list
pub dealt_length : (ways : ℕ) (ts : List ℕ) (j : ℕ) (l : List ℕ) (ls : List (List ℕ)) → length (dealt_from ways ts j l ls) ≡ length ls
unfolding dealt_from
dealt_length ways ts j [] ls = refl
dealt_length ways ts j (p ∷ l) ls =
    let c = turn_at ways ts j in
    dealt_length ways ts (suc j) l (set ls c (get_or ls c [] ++ (p ∷ []))) ∙ length-set ls c (get_or ls c [] ++ (p ∷ []))

-- f is a number of a list that adds up
pub dealt_sum : (ways : ℕ) (ts : List ℕ) (f : List ℕ → ℕ) → f [] ≡ 0 → ((a b : List ℕ) → f (a ++ b) ≡ f a + f b) → 0 < ways → (j : ℕ) (l : List ℕ) (ls : List (List ℕ)) → length ls ≡ ways → sum_of f (dealt_from ways ts j l ls) ≡ sum_of f ls + f l
unfolding dealt_from
dealt_sum ways ts f f0 fa lw j [] ls e = omega (arith, f0)
dealt_sum ways ts f f0 fa lw j (p ∷ l) ls e =
    let c = turn_at ways ts j in
    let a = get_or ls (turn_at ways ts j) [] in
    omega (arith, dealt_sum ways ts f f0 fa lw (suc j) l (set ls c (a ++ (p ∷ []))) (length-set ls c (a ++ (p ∷ [])) ∙ e), sum_set f ls c (a ++ (p ∷ [])) [] (omega (arith, turn_lt ways ts j lw, e)), fa a (p ∷ []), fa (p ∷ []) l)

pub dealt_long : (ways : ℕ) (ts l : List ℕ) → length (dealt ways ts l) ≡ ways
unfolding dealt
dealt_long ways ts l = dealt_length ways ts 0 l (replicate ways []) ∙ length-replicate {A = List ℕ} ways []

pub dealt_occ : (ways : ℕ) (ts l : List ℕ) (q : ℕ) → 0 < ways → sum_of (occ q) (dealt ways ts l) ≡ occ q l
unfolding dealt
dealt_occ ways ts l q lw = omega (arith, dealt_sum ways ts (occ q) refl (occ_append q) lw 0 l (replicate ways []) (length-replicate {A = List ℕ} ways []), sum_none (occ q) ways [] refl)

pub dealt_size : (ways : ℕ) (ts l : List ℕ) → 0 < ways → sum_of (λ s. length s) (dealt ways ts l) ≡ length l
unfolding dealt
dealt_size ways ts l lw = omega (arith, dealt_sum ways ts (λ s. length s) refl (λ a b. length-append a b) lw 0 l (replicate ways []) (length-replicate {A = List ℕ} ways []), sum_none (λ s. length {A = ℕ} s) ways [] refl)

-- ---- in words
-- the nodes of group k have the lists ls, and `rest` is still to come
pub record Kids (ways : ℕ) (s : Pool) (k : ℕ) (ls : List (List ℕ)) (rest : List ℕ) : Type 0 where
  pub long : length ls ≡ ways
  pub kids : (c : ℕ) → c < ways → RepLeaf s.nodes s.links (kid ways k c) (get_or ls c [])
  pub once : (q : ℕ) → sum_of (occ q) ls + occ q rest ≤ 1
  pub few : sum_of (λ s. length s) ls + length rest + 1 < 4294967296

pub record Dealt (ways : ℕ) (s r : Pool) (k : ℕ) (ls ls' : List (List ℕ)) (rest : List ℕ) : Type 0 where
  pub kids : Kids ways r k ls' []
  pub len_n : length r.nodes ≡ length s.nodes
  pub len_x : length r.links ≡ length s.links
  pub nodes : (q : ℕ) → ((c : ℕ) → c < ways → q ≢ kid ways k c) → Same r.nodes s.nodes q
  pub links : (q : ℕ) → sum_of (occ q) ls + occ q rest ≡ 0 → get_or r.links q 0 ≡ get_or s.links q 0

-- one place goes to child c
module _ (ways : ℕ) (s : Pool) (k : ℕ) (ls : List (List ℕ)) (rest : List ℕ) (c p : ℕ) (lc : c < ways) (nz : p ≢ 0) (lt : p < length s.links) (w : Kids ways s k ls (p ∷ rest)) where
  lls : c < length ls
  lls = omega (arith, lc, w.long)

  one_listed : Listed s (appended s (kid ways k c) p) (kid ways k c) (get_or ls c [] ++ (p ∷ [])) (λ q. occ q (get_or ls c []) + occ q (p ∷ []))
  one_listed = app_is s (kid ways k c) (get_or ls c []) p (w.kids c lc) (λ q. omega (arith, w.once q, sum_at (occ q) ls c [] lls)) (omega (arith, w.once p, is_same p, sum_at (occ p) ls c [] lls)) nz lt (omega (arith, w.few, sum_at (λ s. length s) ls c [] lls))

  one_other : (q : ℕ) → sum_of (occ q) ls ≡ 0 → q ≢ p → get_or (appended s (kid ways k c) p).links q 0 ≡ get_or s.links q 0
  one_other q z ne = one_listed.links q (omega (arith, z, is_other q p ne, sum_at (occ q) ls c [] lls))

  deal_one : Kids ways (appended s (kid ways k c) p) k (set ls c (get_or ls c [] ++ (p ∷ []))) rest
  deal_one = record {
    long = length-set ls c (get_or ls c [] ++ (p ∷ [])) ∙ w.long;
    kids = each;
    once = λ q. omega (arith, w.once q, sum_set (occ q) ls c (get_or ls c [] ++ (p ∷ [])) [] lls, occ_append q (get_or ls c []) (p ∷ []));
    few = omega (arith, w.few, sum_set (λ s. length s) ls c (get_or ls c [] ++ (p ∷ [])) [] lls, length-append (get_or ls c []) (p ∷ []));
  }
    where
      r : Pool
      r = appended s (kid ways k c) p

      each : (e : ℕ) → e < ways → RepLeaf r.nodes r.links (kid ways k e) (get_or (set ls c (get_or ls c [] ++ (p ∷ []))) e [])
      each e le = by-eq e c
          (λ z. subst (λ j. RepLeaf r.nodes r.links (kid ways k j) (get_or (set ls c (get_or ls c [] ++ (p ∷ []))) j [])) (sym z)
          (subst (RepLeaf r.nodes r.links (kid ways k c)) (sym (get_or-set_same ls c (get_or ls c [] ++ (p ∷ [])) [] lls)) one_listed.rep))
          (λ z. subst (RepLeaf r.nodes r.links (kid ways k e)) (sym (get_or-set_other ls c e (get_or ls c [] ++ (p ∷ [])) [] z))
          (leaf_agree s.nodes r.nodes s.links r.links (kid ways k e) (get_or ls e []) one_listed.len_n one_listed.len_x
          (one_listed.nodes (kid ways k e) (λ v. z (kid_same ways k k e c le lc v)))
          (λ q o. one_listed.links q (omega (arith, w.once q, pos _ o, sum_two (occ q) ls e c [] z (omega (arith, le, w.long)) lls)))
          (w.kids e le)))

pub deal_good : (l : List ℕ) (ways k : ℕ) (ts : List ℕ) (f j : ℕ) (s : Pool) (q : ℕ) (ls : List (List ℕ)) → 0 < ways → Kids ways s k ls l → Chain s.links q l → length l ≤ f
    → Dealt ways s (dealing ways k ts f j s q) k ls (dealt_from ways ts j l ls) l
unfolding dealing dealt_from
deal_good [] ways k ts zero j s q ls lw w c le =
    record { kids = w; len_n = refl; len_x = refl; nodes = λ q o. same_refl s.nodes q; links = λ q o. refl }
deal_good [] ways k ts (suc f) j s q ls lw w c le =
    rw (ifz-yes q s _ c) (record { kids = w; len_n = refl; len_x = refl; nodes = λ q o. same_refl s.nodes q; links = λ q o. refl })
deal_good (p ∷ l) ways k ts zero j s q ls lw w c le = absurd (omega arith)
deal_good (p ∷ l) ways k ts (suc f) j s q ls lw w c le =
    rw (c.0, ifz-no p s _ c.1)
    (go (deal_good l ways k ts f (suc j) s1 (get_or s.links p 0) ls1 lw (deal_one ways s k ls l e p lc c.1 c.2 w)
    (chain_agree l s.links s1.links (get_or s.links p 0) one.len_x (λ v z. one_other ways s k ls l e p lc c.1 c.2 w v (omega (arith, w.once v, pos _ z)) (λ u. z (omega (arith, w.once v, is_eq v p u)))) c.3)
    (omega arith)))
  where
    e : ℕ
    e = turn_at ways ts j

    lc : turn_at ways ts j < ways
    lc = turn_lt ways ts j lw

    s1 : Pool
    s1 = appended s (kid ways k (turn_at ways ts j)) p

    ls1 : List (List ℕ)
    ls1 = set ls (turn_at ways ts j) (get_or ls (turn_at ways ts j) [] ++ (p ∷ []))

    one : Listed s (appended s (kid ways k (turn_at ways ts j)) p) (kid ways k (turn_at ways ts j)) (get_or ls (turn_at ways ts j) [] ++ (p ∷ [])) (λ q. occ q (get_or ls (turn_at ways ts j) []) + occ q (p ∷ []))
    one = one_listed ways s k ls l (turn_at ways ts j) p lc c.1 c.2 w

    go : {r : Pool} → Dealt ways s1 r k ls1 (dealt_from ways ts (suc j) l ls1) l → Dealt ways s r k ls (dealt_from ways ts (suc j) l ls1) (p ∷ l)
    go r = record {
      kids = r.kids;
      len_n = r.len_n ∙ one.len_n;
      len_x = r.len_x ∙ one.len_x;
      nodes = λ v o. same_then (r.nodes v o) (one.nodes v (o (turn_at ways ts j) lc));
      links = λ v z. r.links v (omega (arith, z, sum_set (occ v) ls (turn_at ways ts j) (get_or ls (turn_at ways ts j) [] ++ (p ∷ [])) [] (omega (arith, lc, w.long)), occ_append v (get_or ls (turn_at ways ts j) []) (p ∷ [])))
          ∙ one_other ways s k ls l (turn_at ways ts j) p lc c.1 c.2 w v (omega (arith, z)) (λ u. absurd (omega (arith, z, is_eq v p u)));
    }

-- ---- the split of a node: what is written, one after the other
module _ (d ways : ℕ) (ts : List ℕ) (s : Pool) (i : ℕ) (l : List ℕ) (g : ℕ) (fl fp : List ℕ) (lw : 0 < ways) (few : length l + 1 < 4294967296) (w : World (suc d) ways s i (leaf l) (g ∷ fl) fp) where
  n1 : List ℕ
  n1 = taken ways s.nodes

  n2 : List ℕ
  n2 = cleared_from ways n1 (kid ways g 0)

  n3 : List ℕ
  n3 = set n2 (4 * i) g

  -- what the group was taken from
  w1 : World (suc d) ways (both n1 s.links) i (leaf l) fl fp
  unfolding n1
  w1 = take_world (suc d) ways s.nodes s.links i (leaf l) g fl fp lw w

  l1 : length n1 ≡ length s.nodes
  unfolding n1 taken
  l1 = length-set s.nodes 0 _

  l2 : length n2 ≡ length s.nodes
  unfolding n2
  l2 = clear_length ways n1 (kid ways g 0) ∙ l1

  l3 : length n3 ≡ length s.nodes
  unfolding n3
  l3 = length-set n2 (4 * i) g ∙ l2

  i_out : (c : ℕ) → c < ways → i ≢ kid ways g c
  i_out c lc e = absurd (omega (arith, w.apart g c lc e, is_same g))

  one : (q : ℕ) → q ≢ 0 → Same n1 s.nodes q
  unfolding n1 taken
  one q nz = same_set s.nodes 0 _ q (λ e. nz (omega arith))

  plain : (q : ℕ) → ((c : ℕ) → c < ways → q ≢ kid ways g c) → (c : ℕ) → c < ways → q ≢ kid ways g 0 + c
  plain q o c lc e = o c lc (omega (arith, e))

  two : (q : ℕ) → ((c : ℕ) → c < ways → q ≢ kid ways g c) → Same n2 n1 q
  unfolding n2
  two q o = clear_same ways n1 (kid ways g 0) q (plain q o)

  three : (q : ℕ) → q ≢ i → Same n3 n2 q
  unfolding n3
  three q ne = same_set n2 (4 * i) g q (λ e. ne (omega arith))

  leaves : Kids ways (both n3 s.links) g (replicate ways []) l
  unfolding n2
  leaves = record {
    long = length-replicate {A = List ℕ} ways [];
    kids = λ c lc. subst (RepLeaf n3 s.links (kid ways g c)) (sym (get_or-replicate {A = List ℕ} ways c [] [] lc))
        (leaf_agree n2 n3 s.links s.links (kid ways g c) [] (l3 ∙ sym l2) refl (three (kid ways g c) (λ e. i_out c lc (sym e))) (λ p z. refl)
        (subst (λ j. RepLeaf n2 s.links j []) (at c) (clear_is ways n1 s.links (kid ways g 0) c lc (omega (arith, l1, w.free.2)))));
    once = λ q. omega (arith, w.places q, sum_none (occ q) ways [] refl);
    few = omega (arith, few, sum_none (λ s. length {A = ℕ} s) ways [] refl);
  }
    where
      at : (c : ℕ) → kid ways g 0 + c ≡ kid ways g c
      at c = omega arith

  split_pool : Pool
  split_pool = dealing ways g ts (length s.links) 0 (both n3 s.links) (get_or s.nodes (4 * i + 1) 0)

  dealt_out : Dealt ways (both n3 s.links) split_pool g (replicate ways []) (dealt ways ts l) l
  unfolding split_pool dealt
  dealt_out = deal_good l ways g ts (length s.links) 0 (both n3 s.links) (get_or s.nodes (4 * i + 1) 0) (replicate ways []) lw leaves w.rep.2
      (chain_short l s.links (get_or s.nodes (4 * i + 1) 0) w.rep.2 (λ p. omega (arith, w.places p)))

  to1 : (q : ℕ) → q ≢ i → ((c : ℕ) → c < ways → q ≢ kid ways g c) → Same split_pool.nodes n1 q
  to1 q ne o = same_then (dealt_out.nodes q o) (same_then (three q ne) (two q o))

  lm : length split_pool.nodes ≡ length s.nodes
  lm = dealt_out.len_n ∙ l3

  not_free : (h : ℕ) → occ h fl ≢ 0 → (c : ℕ) → c < ways → kid ways h 0 ≢ kid ways g c
  not_free h z c lc e = z (omega (arith, w.groups h, is_eq h g (kid_inj ways h g 0 c lw lc e)))

  kept : (q : ℕ) → occ q l ≡ 0 → get_or split_pool.links q 0 ≡ get_or s.links q 0
  kept q z = dealt_out.links q (omega (arith, z, sum_none (occ q) ways [] refl))

  split_world : World (suc d) ways split_pool i (branch g (flats d (dealt ways ts l))) fl fp
  unfolding n3
  split_world = record {
    rep = (
      omega (arith, w.rep.0, lm),
      self.group ∙ get_or-set_same n2 (4 * i) g 0 (omega (arith, w.rep.0, l2)),
      w.free.1,
      self.count ∙ get_or-set_other n2 (4 * i) (4 * i + 3) g 0 (λ e. absurd (omega arith)) ∙ (two i i_out).count ∙ (one i w.low).count ∙ w.rep.4 ∙ sym (flats_size d (dealt ways ts l) ∙ dealt_size ways ts l lw),
      length-map (dealt ways ts l) (flat d) ∙ dealt_long ways ts l,
      λ c lc. subst (Rep d ways split_pool.nodes split_pool.links (kid ways g c)) (sym (flats_at d (dealt ways ts l) c)) (rep_flat d ways _ _ (kid ways g c) (get_or (dealt ways ts l) c []) (dealt_out.kids.kids c lc)),
    );
    free = subst (λ h. Free ways split_pool.nodes h fl) (sym (to1 0 (λ e. w.low (sym e)) header).group)
        (free_agree ways n1 split_pool.nodes (get_or n1 0 0) fl (lm ∙ sym l1) (λ h z. (to1 (kid ways h 0) (λ e. z (omega (arith, w.apart h 0 lw (sym e)))) (not_free h z)).group) w1.free);
    spare = subst (λ h. Chain split_pool.links h fp) (sym (kept 0 zero_out))
        (chain_agree fp s.links split_pool.links (get_or s.links 0 0) dealt_out.len_x (λ q z. kept q (omega (arith, w.places q, pos _ z))) w.spare);
    low = w.low;
    groups = λ h. omega (arith, w.groups h, flats_groups d h (dealt ways ts l));
    places = λ q. omega (arith, w.places q, flats_places d q (dealt ways ts l), dealt_occ ways ts l q lw);
    apart = λ h c lc e. omega (arith, w.apart h c lc e, flats_groups d h (dealt ways ts l));
  }
    where
      self : Same split_pool.nodes n3 i
      self = dealt_out.nodes i i_out

      header : (c : ℕ) → c < ways → 0 ≢ kid ways g c
      header c lc e = kid_nonzero (suc d) ways s i (leaf l) (g ∷ fl) fp g c lw w (λ z. absurd (omega (arith, z, is_same g))) (sym e)

      zero_out : occ 0 l ≡ 0
      zero_out = no_zero l s.links (get_or s.nodes (4 * i + 1) 0) w.rep.2

  split_frame : Frame (suc d) ways s split_pool i (leaf l) (g ∷ fl) []
  split_frame = record {
    len_n = lm;
    len_x = dealt_out.len_x;
    nodes = λ q o. same_then (to1 q o.1 (λ c lc e. absurd (omega (arith, o.2 g c lc e, is_same g)))) (one q o.0);
    links = λ q z. kept q (omega (arith, z));
  }

  split_is : parted ways ts s i ≡ split_pool
  unfolding parted split_pool n3 n2 n1
  split_is =
      ifz-no (get_or s.nodes 0 0) _ _ (λ z. w.free.1 (sym w.free.0 ∙ z))
      ∙ ap (λ k. dealing ways k ts (length s.links) 0 (both (set (cleared_from ways (taken ways s.nodes) (kid ways k 0)) (4 * i) k) s.links) (get_or s.nodes (4 * i + 1) 0)) w.free.0

pub parted_world : (ways : ℕ) (ts : List ℕ) (s : Pool) (i : ℕ) → Splits ways ts s (parted ways ts s i) i (get_or s.nodes 0 0)
unfolding Splits
parted_world ways ts s i d l g fl fp lw w few = (
  w.free.0,
  subst (λ r. World (suc d) ways r i (branch g (flats d (dealt ways ts l))) fl fp) (sym (split_is d ways ts s i l g fl fp lw few w)) (split_world d ways ts s i l g fl fp lw few w),
  subst (λ r. Frame (suc d) ways s r i (leaf l) (g ∷ fl) []) (sym (split_is d ways ts s i l g fl fp lw few w)) (split_frame d ways ts s i l g fl fp lw few w),
)
