-- What a tree crate and a reader ask of the pool. Assumes nothing.
use mathlib.Core.Path.{◌≡◌, refl, ap, ap₂, sym, ◌∙◌}
use mathlib.Core.Logic.{◌≢◌}
use mathlib.Core.List.{List, [], ◌∷◌}
use Prim.Native.Nat.{ℕ, zero, suc, ◌+◌, ◌-◌, ◌*◌, ◌<◌, ◌≤◌}
use native.Mathlib.Nat.{mul-le-mul_left}
use native.Mathlib.Omega.{arith}
use lib.ListN.{length, get_or, set, length-set}
use lib.Seq.{get_or-set_same}
use Rattle.pool.specs.Lists.{is, occ, sum_of, Chain}
use Rattle.pool.specs.Writes.{Pool, both, kid, pushed, given}
use Rattle.pool.specs.Trees.{leaf, branch, PTree, none, groups_at, places_at, size}
use Rattle.pool.specs.Worlds.{Free, Rep, World}
use Rattle.pool.proofs.Lists.{by-eq, by_lt, is_eq, is_other}
use Rattle.pool.proofs.Trees.{group_count}
use Rattle.pool.proofs.Worlds.{no_free_zero, no_group_zero, no_place_zero}
use Rattle.pool.proofs.Chains.{no_zero}

-- ---- freed places and groups are used again: the next one that is taken
pub freed_place_next : (x : List ℕ) (p : ℕ) → 0 < length x → get_or (pushed x p) 0 0 ≡ p
unfolding pushed
freed_place_next x p h = get_or-set_same (set x p (get_or x 0 0)) 0 p 0 (omega (arith, h, length-set x p (get_or x 0 0)))

pub freed_group_next : (ways : ℕ) (n : List ℕ) (k : ℕ) → 0 < length n → get_or (given ways n k) 0 0 ≡ k
unfolding given
freed_group_next ways n k h = get_or-set_same (set n (4 * kid ways k 0) (get_or n 0 0)) 0 k 0 (omega (arith, h, length-set n (4 * kid ways k 0) (get_or n 0 0)))

-- ---- sums over the numbers below m
over : ℕ → (ℕ → ℕ) → ℕ
over zero f = 0
over (suc m) f = f m + over m f

over_le : (m : ℕ) (f : ℕ → ℕ) → f 0 ≡ 0 → ((q : ℕ) → f q ≤ 1) → over (suc m) f ≤ m
unfolding over
over_le zero f z h = omega (arith, z)
over_le (suc m) f z h = omega (arith, h (suc m), over_le m f z h)

over_all : (m : ℕ) (f : ℕ → ℕ) → f 0 ≡ 0 → ((q : ℕ) → q ≢ 0 → q < suc m → f q ≡ 1) → over (suc m) f ≡ m
unfolding over
over_all zero f z h = omega (arith, z)
over_all (suc m) f z h = omega (arith, h (suc m) (λ e. absurd (omega (arith, e))) (omega arith), over_all m f z (λ q nz lt. h q nz (omega (arith, lt))))

over_add : (m : ℕ) (f g : ℕ → ℕ) → over m (λ q. f q + g q) ≡ over m f + over m g
unfolding over
over_add zero f g = refl
over_add (suc m) f g = omega (arith, over_add m f g)

over_zero : (m : ℕ) → over m (λ q. 0) ≡ 0
unfolding over
over_zero zero = refl
over_zero (suc m) = omega (arith, over_zero m)

over_past : (m p : ℕ) → m ≤ p → over m (λ q. is q p) ≡ 0
unfolding over
over_past zero p h = refl
over_past (suc m) p h = omega (arith, is_other m p (λ e. absurd (omega (arith, e, h))), over_past m p (omega (arith, h)))

over_one : (m p : ℕ) → p < m → over m (λ q. is q p) ≡ 1
unfolding over
over_one zero p h = absurd (omega arith)
over_one (suc m) p h = by-eq m p (λ e. omega (arith, is_eq m p e, over_past m p (omega (arith, e)))) (λ e. omega (arith, is_other m p e, over_one m p (omega arith)))

kids_over : {K : Type 0} (m : ℕ) (f : ℕ → K → ℕ) (g : K → ℕ) (ts : List K) (z : K) → ((c : ℕ) → c < length ts → over m (λ q. f q (get_or ts c z)) ≡ g (get_or ts c z)) → over m (λ q. sum_of (f q) ts) ≡ sum_of g ts
kids_over m f g [] z h = over_zero m
kids_over m f g (t ∷ ts) z h = omega (arith, h 0 (omega arith), kids_over m f g ts z (λ c lt. h (suc c) (omega arith)), over_add m (λ q. f q t) (λ q. sum_of (f q) ts))

-- ---- the tree and its free places are no more than there are places
chain_over : (l x : List ℕ) (h : ℕ) → Chain x h l → over (length x) (λ q. occ q l) ≡ length l
chain_over [] x h c = over_zero (length x)
chain_over (p ∷ l) x h c = omega (arith, over_add (length x) (λ q. is q p) (λ q. occ q l), over_one (length x) p c.2, chain_over l x (get_or x p 0) c.3)

tree_over : (d ways : ℕ) (n x : List ℕ) (i : ℕ) (t : PTree d) → Rep d ways n x i t → over (length x) (λ q. places_at d q t) ≡ size d t
tree_over zero ways n x i l r = chain_over l x (get_or n (4 * i + 1) 0) r.2
tree_over (suc d) ways n x i (leaf l) r = chain_over l x (get_or n (4 * i + 1) 0) r.2
tree_over (suc d) ways n x i (branch k ts) r = kids_over (length x) (places_at d) (size d) ts (none d) (λ c lt. tree_over d ways n x (kid ways k c) (get_or ts c (none d)) (r.5 c (omega (arith, lt, r.4))))

module _ (d ways : ℕ) (s : Pool) (i : ℕ) (t : PTree d) (fl fp : List ℕ) (w : World d ways s i t fl fp) where
  abbrev place_in : ℕ → ℕ
  place_in q = places_at d q t + occ q fp

  none_zero : places_at d 0 t + occ 0 fp ≡ 0
  none_zero = omega (arith, no_place_zero d ways s.nodes s.links i t w.rep, no_zero fp s.links (get_or s.links 0 0) w.spare)

  places_over : over (length s.links) place_in ≡ size d t + length fp
  places_over = over_add (length s.links) (λ q. places_at d q t) (λ q. occ q fp) ∙ ap₂ (λ (a b : ℕ). a + b) (tree_over d ways s.nodes s.links i t w.rep) (chain_over fp s.links (get_or s.links 0 0) w.spare)

  -- place 0 is no place, so 513 words have room for 512 points
  pub places_enough : (m : ℕ) → length s.links ≡ suc m → size d t + length fp ≤ m
  places_enough m e = omega (arith, places_over, ap (λ k. over k place_in) e, over_le m place_in none_zero w.places)

  -- and where each place is in the tree or free, they are as many
  pub places_all : (m : ℕ) → length s.links ≡ suc m → ((p : ℕ) → p ≢ 0 → p < suc m → places_at d p t + occ p fp ≡ 1) → size d t + length fp ≡ m
  places_all m e h = sym places_over ∙ ap (λ k. over k place_in) e ∙ over_all m place_in none_zero h

-- ---- so are the groups
rep_low : (d ways : ℕ) (n x : List ℕ) (i : ℕ) (t : PTree d) → Rep d ways n x i t → 4 * i + 3 < length n
rep_low zero ways n x i l r = r.0
rep_low (suc d) ways n x i (leaf l) r = r.0
rep_low (suc d) ways n x i (branch k ts) r = r.0

last_room : (d ways : ℕ) (n x : List ℕ) (k : ℕ) (t : PTree d) → 0 < ways → Rep d ways n x (kid ways k (ways - 1)) t → 4 * kid ways k ways ≤ length n
last_room d ways n x k t lw r = omega (arith, lw, rep_low d ways n x (kid ways k (ways - 1)) t r)

module _ (ways m : ℕ) (n : List ℕ) (lw : 0 < ways) (e : length n ≡ 4 * (ways * suc m)) where
  pub group_low : (g : ℕ) → 4 * kid ways g ways ≤ length n → g < suc m
  group_low g h = by_lt g (suc m) (λ lt. lt) (λ le. absurd (omega (arith, e, h, lw, mul-le-mul_left ways le)))

  group_high : (g : ℕ) → g < suc m → 4 * kid ways g ways ≤ length n
  group_high g h = let up : suc g ≤ suc m = omega (arith, h) in omega (arith, e, mul-le-mul_left ways up)

  free_over : (h : ℕ) (fl : List ℕ) → Free ways n h fl → over (suc m) (λ q. occ q fl) ≡ length fl
  free_over h [] f = over_zero (suc m)
  free_over h (k ∷ fl) f = omega (arith, over_add (suc m) (λ q. is q k) (λ q. occ q fl), over_one (suc m) k (group_low k f.2), free_over (get_or n (4 * kid ways k 0) 0) fl f.3)

  groups_over : (d : ℕ) (x : List ℕ) (i : ℕ) (t : PTree d) → Rep d ways n x i t → over (suc m) (λ q. groups_at d q t) ≡ group_count d t
  groups_over zero x i l r = over_zero (suc m)
  groups_over (suc d) x i (leaf l) r = over_zero (suc m)
  groups_over (suc d) x i (branch k ts) r =
      omega (
        arith,
        over_add (suc m) (λ q. is q k) (λ q. sum_of (groups_at d q) ts),
        over_one (suc m) k (group_low k (last_room d ways n x k (get_or ts (ways - 1) (none d)) lw (r.5 (ways - 1) (omega (arith, lw))))),
        kids_over (suc m) (groups_at d) (group_count d) ts (none d) (λ c lt. groups_over d x (kid ways k c) (get_or ts c (none d)) (r.5 c (omega (arith, lt, r.4)))),
      )

  pub groups_all : (d : ℕ) (x : List ℕ) (i : ℕ) (t : PTree d) (fl fp : List ℕ) → World d ways (both n x) i t fl fp → ((g : ℕ) → g ≢ 0 → 4 * kid ways g ways ≤ length n → groups_at d g t + occ g fl ≡ 1) → group_count d t + length fl ≡ m
  groups_all d x i t fl fp w h =
      omega (
        arith,
        over_add (suc m) (λ q. groups_at d q t) (λ q. occ q fl),
        groups_over d x i t w.rep,
        free_over (get_or n 0 0) fl w.free,
        over_all m (λ q. groups_at d q t + occ q fl) (omega (arith, no_group_zero d ways n x i t w.rep, no_free_zero ways n (get_or n 0 0) fl w.free)) (λ g nz lt. h g nz (group_high g lt)),
      )
