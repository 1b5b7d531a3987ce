-- Laws of trees with place numbers, without any words. Assumes nothing.
use mathlib.Core.Path.{◌≡◌, refl, ap}
use mathlib.Core.Logic.{◌≢◌}
use mathlib.Core.List.{List, [], ◌∷◌}
use Prim.Native.Nat.{ℕ, zero, suc, ◌*◌, ◌<◌, ◌≤◌}
use native.Mathlib.Omega.{arith}
use lib.ListN.{length, get_or, get_or-map}
use Rattle.pool.specs.Lists.{occ, sum_of}
use Rattle.pool.specs.Writes.{kid}
use Rattle.pool.specs.Trees.{leaf, branch, PTree, flat, flats, none, groups_at, places_at, size}

pub groups_flat : (d g : ℕ) (l : List ℕ) → groups_at d g (flat d l) ≡ 0
groups_flat zero g l = refl
groups_flat (suc d) g l = refl

pub places_flat : (d p : ℕ) (l : List ℕ) → places_at d p (flat d l) ≡ occ p l
places_flat zero p l = refl
places_flat (suc d) p l = refl

pub size_flat : (d : ℕ) (l : List ℕ) → size d (flat d l) ≡ length l
size_flat zero l = refl
size_flat (suc d) l = refl

-- ---- sums over undivided children
pub flats_groups : (d h : ℕ) (ls : List (List ℕ)) → sum_of (groups_at d h) (flats d ls) ≡ 0
flats_groups d h [] = refl
flats_groups d h (l ∷ ls) = omega (arith, groups_flat d h l, flats_groups d h ls)

pub flats_places : (d q : ℕ) (ls : List (List ℕ)) → sum_of (places_at d q) (flats d ls) ≡ sum_of (occ q) ls
flats_places d q [] = refl
flats_places d q (l ∷ ls) = omega (arith, places_flat d q l, flats_places d q ls)

pub flats_size : (d : ℕ) (ls : List (List ℕ)) → sum_of (size d) (flats d ls) ≡ sum_of (λ s. length s) ls
flats_size d [] = refl
flats_size d (l ∷ ls) = omega (arith, size_flat d l, flats_size d ls)

pub flats_at : (d : ℕ) (ls : List (List ℕ)) (c : ℕ) → get_or (flats d ls) c (none d) ≡ flat d (get_or ls c [])
flats_at d ls c = get_or-map (flat d) ls c []

-- ---- every divided node has all its children
abbrev pub Full : (d : ℕ) → ℕ → PTree d → Type 0
Full zero ways l = Unit {0}
Full (suc d) ways (leaf l) = Unit {0}
Full (suc d) ways (branch k ts) = (length ts ≡ ways) × ((c : ℕ) → c < ways → Full d ways (get_or ts c (none d)))

pub flat_full : (d ways : ℕ) (l : List ℕ) → Full d ways (flat d l)
flat_full zero ways l = tt
flat_full (suc d) ways l = tt

-- how many groups a tree has
abbrev pub group_count : (d : ℕ) → PTree d → ℕ
group_count zero l = 0
group_count (suc d) (leaf l) = 0
group_count (suc d) (branch k ts) = suc (sum_of (group_count d) ts)

pub count_flat : (d : ℕ) (l : List ℕ) → group_count d (flat d l) ≡ 0
count_flat zero l = refl
count_flat (suc d) l = refl

-- ---- the nodes of a group
pub kid_inj : (ways g h c e : ℕ) → c < ways → e < ways → kid ways g c ≡ kid ways h e → g ≡ h
kid_inj ways zero zero c e lc le q = refl
kid_inj ways zero (suc h) c e lc le q = absurd (omega arith)
kid_inj ways (suc g) zero c e lc le q = absurd (omega arith)
kid_inj ways (suc g) (suc h) c e lc le q = ap suc (kid_inj ways g h c e lc le (omega arith))

pub kid_same : (ways g h c e : ℕ) → c < ways → e < ways → kid ways g c ≡ kid ways h e → c ≡ e
kid_same ways g h c e lc le q = omega (arith, q, ap (λ v. ways * v) (kid_inj ways g h c e lc le q))

pub kid_low : (ways g c : ℕ) → 0 < ways → g ≢ 0 → ways ≤ kid ways g c
kid_low ways zero c lw nz = absurd (nz refl)
kid_low ways (suc g) c lw nz = omega arith
