-- Words that agree where a tree has its places hold the same tree. Assumes nothing.
use mathlib.Core.Path.{◌≡◌, refl, sym, subst, ◌∙◌}
use mathlib.Core.Logic.{◌≢◌}
use mathlib.Core.List.{List, [], ◌∷◌}
use Prim.Native.Nat.{ℕ, zero, suc, ◌+◌, ◌*◌, ◌/◌, ◌<◌}
use native.Mathlib.Omega.{arith}
use lib.ListN.{length, get_or, set}
use lib.Seq.{get_or-set_other}
use Rattle.pool.specs.Lists.{occ, Chain}
use Rattle.pool.specs.Writes.{both, kid}
use Rattle.pool.specs.Trees.{leaf, branch, PTree, flat, none, groups_at, places_at}
use Rattle.pool.specs.Worlds.{RepLeaf, Rep, Free, World, Same}
use Rattle.pool.proofs.Lists.{is_same, sum_at}
use Rattle.pool.proofs.Chains.{chain_agree}
use Rattle.pool.proofs.Trees.{Full}

pub rep_flat : (d ways : ℕ) (n x : List ℕ) (i : ℕ) (l : List ℕ) → RepLeaf n x i l → Rep d ways n x i (flat d l)
rep_flat zero ways n x i l r = r
rep_flat (suc d) ways n x i l r = r

pub flat_rep : (d ways : ℕ) (n x : List ℕ) (i : ℕ) (l : List ℕ) → Rep d ways n x i (flat d l) → RepLeaf n x i l
flat_rep zero ways n x i l r = r
flat_rep (suc d) ways n x i l r = r

pub rep_full : (d ways : ℕ) (n x : List ℕ) (i : ℕ) (t : PTree d) → Rep d ways n x i t → Full d ways t
rep_full zero ways n x i l r = tt
rep_full (suc d) ways n x i (leaf l) r = tt
rep_full (suc d) ways n x i (branch k ts) r = (r.4, λ c lt. rep_full d ways n x (kid ways k c) (get_or ts c (none d)) (r.5 c lt))

-- ---- nodes
pub same_set : (n : List ℕ) (w v i : ℕ) → w / 4 ≢ i → Same (set n w v) n i
same_set n w v i h = record {
  group = get_or-set_other n w (4 * i) v 0 (λ e. h (omega arith));
  first = get_or-set_other n w (4 * i + 1) v 0 (λ e. h (omega arith));
  last = get_or-set_other n w (4 * i + 2) v 0 (λ e. h (omega arith));
  count = get_or-set_other n w (4 * i + 3) v 0 (λ e. h (omega arith));
}

pub same_refl : (n : List ℕ) (i : ℕ) → Same n n i
same_refl n i = record { group = refl; first = refl; last = refl; count = refl }

pub same_then : {n m l : List ℕ} {i : ℕ} → Same l m i → Same m n i → Same l n i
same_then a b = record { group = a.group ∙ b.group; first = a.first ∙ b.first; last = a.last ∙ b.last; count = a.count ∙ b.count }

-- ---- trees
pub leaf_agree : (n m x y : List ℕ) (i : ℕ) (l : List ℕ) → length m ≡ length n → length y ≡ length x → Same m n i → ((p : ℕ) → occ p l ≢ 0 → get_or y p 0 ≡ get_or x p 0)
    → RepLeaf n x i l → RepLeaf m y i l
leaf_agree n m x y i l en ex s gx r =
    (omega (arith, r.0, en), s.group ∙ r.1, subst (λ h. Chain y h l) (sym s.first) (chain_agree l x y (get_or n (4 * i + 1) 0) ex gx r.2), s.last ∙ r.3, s.count ∙ r.4)

pub rep_agree : (d ways : ℕ) (t : PTree d) (n m x y : List ℕ) (i : ℕ) → length m ≡ length n → length y ≡ length x
    → Same m n i → ((g c : ℕ) → c < ways → groups_at d g t ≢ 0 → Same m n (kid ways g c)) → ((p : ℕ) → places_at d p t ≢ 0 → get_or y p 0 ≡ get_or x p 0)
    → Rep d ways n x i t → Rep d ways m y i t
rep_agree zero ways l n m x y i en ex s gn gx r = leaf_agree n m x y i l en ex s gx r
rep_agree (suc d) ways (leaf l) n m x y i en ex s gn gx r = leaf_agree n m x y i l en ex s gx r
rep_agree (suc d) ways (branch g ts) n m x y i en ex s gn gx r = (
  omega (arith, r.0, en),
  s.group ∙ r.1,
  r.2,
  s.count ∙ r.3,
  r.4,
  λ c lt. rep_agree d ways (get_or ts c (none d)) n m x y (kid ways g c) en ex
      (gn g c lt (λ z. absurd (omega (arith, is_same g))))
      (λ h e le z. gn h e le (λ v. z (omega (arith, sum_at (groups_at d h) ts c (none d) (omega (arith, lt, r.4))))))
      (λ p z. gx p (λ v. z (omega (arith, sum_at (places_at d p) ts c (none d) (omega (arith, lt, r.4))))))
      (r.5 c lt),
)

-- ---- free groups
pub free_agree : (ways : ℕ) (n m : List ℕ) (h : ℕ) (fl : List ℕ) → length m ≡ length n → ((g : ℕ) → occ g fl ≢ 0 → get_or m (4 * kid ways g 0) 0 ≡ get_or n (4 * kid ways g 0) 0)
    → Free ways n h fl → Free ways m h fl
free_agree ways n m h [] e a f = f
free_agree ways n m h (g ∷ fl) e a f =
    (f.0, f.1, omega (arith, f.2, e), subst (λ k. Free ways m k fl) (sym (a g (λ z. absurd (omega (arith, is_same g))))) (free_agree ways n m (get_or n (4 * kid ways g 0) 0) fl e (λ k z. a k (λ v. z (omega arith))) f.3))

-- ---- the whole
pub world_agree : (d ways : ℕ) (n m x y : List ℕ) (i : ℕ) (t : PTree d) (fl fp : List ℕ) → 0 < ways → length m ≡ length n → length y ≡ length x → get_or m 0 0 ≡ get_or n 0 0 → get_or y 0 0 ≡ get_or x 0 0
    → Same m n i → ((g c : ℕ) → c < ways → groups_at d g t + occ g fl ≢ 0 → Same m n (kid ways g c)) → ((p : ℕ) → places_at d p t + occ p fp ≢ 0 → get_or y p 0 ≡ get_or x p 0)
    → World d ways (both n x) i t fl fp → World d ways (both m y) i t fl fp
world_agree d ways n m x y i t fl fp lw en ex e0 x0 s a b w = record {
  rep = rep_agree d ways t n m x y i en ex s (λ g c lt z. a g c lt (λ v. z (omega arith))) (λ p z. b p (λ v. z (omega arith))) w.rep;
  free = subst (λ h. Free ways m h fl) (sym e0) (free_agree ways n m (get_or n 0 0) fl en (λ g z. (a g 0 lw (λ v. z (omega arith))).group) w.free);
  spare = subst (λ h. Chain y h fp) (sym x0) (chain_agree fp x y (get_or x 0 0) ex (λ p z. b p (λ v. z (omega arith))) w.spare);
  low = w.low;
  groups = w.groups;
  places = w.places;
  apart = w.apart;
}
