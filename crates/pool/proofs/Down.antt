-- One step down from a divided node to a child, and back up. Assumes nothing.
use mathlib.Core.Path.{◌≡◌, refl, ap, sym, subst, ◌∙◌}
use mathlib.Core.Logic.{◌≢◌}
use mathlib.Core.List.{List}
use Prim.Native.Nat.{ℕ, suc, ◌+◌, ◌*◌, ◌<◌, ◌≤◌}
use native.Mathlib.Omega.{arith}
use lib.ListN.{length, get_or, set, length-set}
use lib.Seq.{get_or-set_same, get_or-set_other}
use Rattle.pool.specs.Lists.{occ, sum_of}
use Rattle.pool.specs.Writes.{Pool, both, kid}
use Rattle.pool.specs.Trees.{branch, PTree, none, groups_at, places_at, size}
use Rattle.pool.specs.Worlds.{Rep, World, Same, Off, Frame}
use Rattle.pool.proofs.Lists.{by-eq, pos, is_same, is_eq, sum_at, sum_two, sum_set}
use Rattle.pool.proofs.Trees.{kid_inj, kid_same, kid_low}
use Rattle.pool.proofs.Frames.{same_set, same_then, rep_agree, world_agree}
use Rattle.pool.proofs.Worlds.{no_group_zero}

module _ (d ways : ℕ) (s : Pool) (i k : ℕ) (ts : List (PTree d)) (fl fp : List ℕ) (w : World (suc d) ways s i (branch k ts) fl fp) where
  in_row : (c : ℕ) → c < ways → c < length ts
  in_row c lt = omega (arith, lt, w.rep.4)

  at_g : (h c : ℕ) → c < ways → groups_at d h (get_or ts c (none d)) ≤ sum_of (groups_at d h) ts
  at_g h c lt = sum_at (groups_at d h) ts c (none d) (in_row c lt)

  at_p : (q c : ℕ) → c < ways → places_at d q (get_or ts c (none d)) ≤ sum_of (places_at d q) ts
  at_p q c lt = sum_at (places_at d q) ts c (none d) (in_row c lt)

  kid_high : (c : ℕ) → c < ways → kid ways k c ≢ 0
  kid_high c lt e = absurd (omega (arith, lt, e, kid_low ways k c (omega arith) w.rep.2))

  -- a child of the node
  pub down : (c : ℕ) → c < ways → World d ways s (kid ways k c) (get_or ts c (none d)) fl fp
  down c lt = record {
    rep = w.rep.5 c lt;
    free = w.free;
    spare = w.spare;
    low = kid_high c lt;
    groups = λ h. omega (arith, w.groups h, at_g h c lt);
    places = λ q. omega (arith, w.places q, at_p q c lt);
    apart = λ h e le q. omega (arith, w.groups h, at_g h c lt, is_eq h k (sym (kid_inj ways k h c e lt le q)));
  }

  -- the node itself is off its child
  self_off : (c : ℕ) → c < ways → Off d ways i (kid ways k c) (get_or ts c (none d)) fl
  self_off c lt = (w.low, (λ e. absurd (omega (arith, w.apart k c lt e, is_same k))), λ h e le q. omega (arith, w.apart h e le q, at_g h c lt))

  -- a node off the tree is off the child
  off_child : (c q : ℕ) → c < ways → Off (suc d) ways q i (branch k ts) fl → Off d ways q (kid ways k c) (get_or ts c (none d)) fl
  off_child c q lt o = (o.0, (λ e. absurd (omega (arith, o.2 k c lt e, is_same k))), λ h e le z. omega (arith, o.2 h e le z, at_g h c lt))

  -- a sibling is off the child
  sibling_off : (c e : ℕ) → c < ways → e < ways → e ≢ c → Off d ways (kid ways k e) (kid ways k c) (get_or ts c (none d)) fl
  sibling_off c e lc le ne =
      (kid_high e le, (λ z. ne (kid_same ways k k e c le lc z)), λ h f lf q. omega (arith, w.groups h, at_g h c lc, is_eq h k (sym (kid_inj ways k h e f le lf q))))

  -- what is below a sibling is off the child
  below_off : (c e h f : ℕ) → c < ways → e < ways → e ≢ c → f < ways → groups_at d h (get_or ts e (none d)) ≢ 0 → Off d ways (kid ways h f) (kid ways k c) (get_or ts c (none d)) fl
  below_off c e h f lc le ne lf z = (
    below_high,
    (λ q. z (omega (arith, w.groups h, at_g h e le, is_eq h k (kid_inj ways h k f c lf lc q)))),
    λ g j lj q. subst (λ v. groups_at d v (get_or ts c (none d)) + occ v fl ≡ 0) (kid_inj ways h g f j lf lj q) two,
  )
    where
      two : groups_at d h (get_or ts c (none d)) + occ h fl ≡ 0
      two = omega (arith, w.groups h, pos _ z, sum_two (groups_at d h) ts e c (none d) ne (in_row e le) (in_row c lc))

      below_high : kid ways h f ≢ 0
      below_high q = absurd (omega (arith, q, lf, kid_low ways h f (omega arith) (λ v. z (ap (λ u. groups_at d u (get_or ts e (none d))) v ∙ no_zero_group))))
        where
          no_zero_group : groups_at d 0 (get_or ts e (none d)) ≡ 0
          no_zero_group = no_group_zero d ways s.nodes s.links (kid ways k e) (get_or ts e (none d)) (w.rep.5 e le)

  -- the count of the node is written: the child is as it was
  pub down_counted : (n : List ℕ) (c v : ℕ) → c < ways → n ≡ set s.nodes (4 * i + 3) v → World d ways (both n s.links) (kid ways k c) (get_or ts c (none d)) fl fp
  down_counted n c v lc e = subst (λ m. World d ways (both m s.links) (kid ways k c) (get_or ts c (none d)) fl fp) (sym e)
      (world_agree d ways s.nodes (set s.nodes (4 * i + 3) v) s.links s.links (kid ways k c) (get_or ts c (none d)) fl fp (omega arith)
      (length-set s.nodes (4 * i + 3) v) refl (get_or-set_other s.nodes (4 * i + 3) 0 v 0 (λ z. absurd (omega arith))) refl
      (same_set s.nodes (4 * i + 3) v (kid ways k c) (λ z. absurd (omega (arith, w.apart k c lc (omega arith), is_same k))))
      (λ h f lf z. same_set s.nodes (4 * i + 3) v (kid ways h f) (λ q. z (omega (arith, w.apart h f lf (omega arith), at_g h c lc)))) (λ p z. refl) (down c lc))

  -- child c is now t, and the count of the node was written before
  pub back : (n : List ℕ) (r : Pool) (c v : ℕ) (t : PTree d) (fm fq ps : List ℕ) → c < ways → n ≡ set s.nodes (4 * i + 3) v → v ≡ sum_of (size d) (set ts c t)
      → ((h : ℕ) → groups_at d h t + occ h fm ≡ groups_at d h (get_or ts c (none d)) + occ h fl)
      → ((q : ℕ) → places_at d q t + occ q fq ≤ places_at d q (get_or ts c (none d)) + occ q fp + occ q ps) → ((q : ℕ) → sum_of (places_at d q) ts + occ q fp + occ q ps ≤ 1)
      → World d ways r (kid ways k c) t fm fq → Frame d ways (both n s.links) r (kid ways k c) (get_or ts c (none d)) fl ps
      → World (suc d) ways r i (branch k (set ts c t)) fm fq × Frame (suc d) ways s r i (branch k ts) fl ps
  back n r c v t fm fq ps lc e1 ev eg ep op w' f = (
    record {
      rep = (omega (arith, w.rep.0, lm), self.group ∙ g0 ∙ w.rep.1, w.rep.2, self.count ∙ c0 ∙ ev, length-set ts c t ∙ w.rep.4, kids);
      free = w'.free;
      spare = w'.spare;
      low = w.low;
      groups = λ h. omega (arith, w.groups h, eg h, sg h);
      places = λ q. omega (arith, op q, ep q, sp q);
      apart = λ h e le z. omega (arith, w.apart h e le z, eg h, sg h);
    },
    record {
      len_n = lm;
      len_x = f.len_x;
      nodes = λ q o. same_then (f.nodes q (off_child c q lc o)) (s1 q o.1);
      links = λ q z. f.links q (omega (arith, z, at_p q c lc));
    },
  )
    where
      l1 : length n ≡ length s.nodes
      l1 = ap (λ m. length m) e1 ∙ length-set s.nodes (4 * i + 3) v

      lm : length r.nodes ≡ length s.nodes
      lm = f.len_n ∙ l1

      s1 : (q : ℕ) → q ≢ i → Same n s.nodes q
      s1 q ne = subst (λ m. Same m s.nodes q) (sym e1) (same_set s.nodes (4 * i + 3) v q (λ z. ne (omega arith)))

      self : Same r.nodes n i
      self = f.nodes i (self_off c lc)

      g0 : get_or n (4 * i) 0 ≡ get_or s.nodes (4 * i) 0
      g0 = ap (λ m. get_or m (4 * i) 0) e1 ∙ get_or-set_other s.nodes (4 * i + 3) (4 * i) v 0 (λ z. absurd (omega arith))

      c0 : get_or n (4 * i + 3) 0 ≡ v
      c0 = ap (λ m. get_or m (4 * i + 3) 0) e1 ∙ get_or-set_same s.nodes (4 * i + 3) v 0 w.rep.0

      lt : c < length ts
      lt = in_row c lc

      sg : (h : ℕ) → sum_of (groups_at d h) (set ts c t) + groups_at d h (get_or ts c (none d)) ≡ sum_of (groups_at d h) ts + groups_at d h t
      sg h = sum_set (groups_at d h) ts c t (none d) lt

      sp : (q : ℕ) → sum_of (places_at d q) (set ts c t) + places_at d q (get_or ts c (none d)) ≡ sum_of (places_at d q) ts + places_at d q t
      sp q = sum_set (places_at d q) ts c t (none d) lt

      ne_i : (e : ℕ) → e < ways → kid ways k e ≢ i
      ne_i e le z = absurd (omega (arith, w.apart k e le (sym z), is_same k))

      ne_below : (e h j : ℕ) → e < ways → j < ways → groups_at d h (get_or ts e (none d)) ≢ 0 → kid ways h j ≢ i
      ne_below e h j le lj z q = z (omega (arith, w.apart h j lj (sym q), at_g h e le))

      kids : (e : ℕ) → e < ways → Rep d ways r.nodes r.links (kid ways k e) (get_or (set ts c t) e (none d))
      kids e le = by-eq e c
          (λ z. subst (λ j. Rep d ways r.nodes r.links (kid ways k j) (get_or (set ts c t) j (none d))) (sym z) (subst (Rep d ways r.nodes r.links (kid ways k c)) (sym (get_or-set_same ts c t (none d) lt)) w'.rep))
          (λ z. subst (Rep d ways r.nodes r.links (kid ways k e)) (sym (get_or-set_other ts c e t (none d) z))
          (rep_agree d ways (get_or ts e (none d)) s.nodes r.nodes s.links r.links (kid ways k e) lm f.len_x
          (same_then (f.nodes (kid ways k e) (sibling_off c e lc le z)) (s1 (kid ways k e) (ne_i e le)))
          (λ h j lj o. same_then (f.nodes (kid ways h j) (below_off c e h j lc le z lj o)) (s1 (kid ways h j) (ne_below e h j le lj o)))
          (λ q o. f.links q (omega (arith, pos _ o, op q, sum_two (places_at d q) ts e c (none d) z (in_row e le) lt)))
          (w.rep.5 e le)))
