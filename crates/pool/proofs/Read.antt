-- Reading a tree from any words finds the one that they hold. Assumes nothing.
use mathlib.Core.Path.{◌≡◌, refl, ap, sym, ◌∙◌}
use mathlib.Core.List.{List, [], ◌∷◌}
use Prim.Native.Nat.{ℕ, zero, suc, ◌+◌, ◌*◌, ◌<◌, ◌≤◌}
use native.Mathlib.Omega.{arith}
use lib.ListN.{length, get_or}
use Rattle.pool.specs.Lists.{occ, Chain}
use Rattle.pool.specs.Writes.{Pool, kid}
use Rattle.pool.specs.Trees.{leaf, branch, PTree, none, places_at}
use Rattle.pool.specs.Worlds.{RepLeaf, Rep, World}
use Rattle.pool.specs.Read.{chain, up_to, read}
use Rattle.pool.proofs.Lists.{ifz-yes, ifz-no, sum_at}
use Rattle.pool.proofs.Chains.{chain_short}

chain_is : (l x : List ℕ) (f h : ℕ) → Chain x h l → length l ≤ f → chain f x h ≡ l
unfolding chain
chain_is [] x zero h c le = refl
chain_is [] x (suc f) h c le = ap (chain (suc f) x) c
chain_is (p ∷ l) x zero h c le = absurd (omega arith)
chain_is (zero ∷ l) x (suc f) h c le = absurd (c.1 refl)
chain_is (suc p ∷ l) x (suc f) h c le = ap (chain (suc f) x) c.0 ∙ ap (λ m. suc p ∷ m) (chain_is l x f (get_or x (suc p) 0) c.3 (omega arith))

up_to_is : {K : Type 0} (ts : List K) (z : K) (f : ℕ → K) → ((c : ℕ) → c < length ts → f c ≡ get_or ts c z) → up_to (length ts) f ≡ ts
unfolding up_to
up_to_is [] z f h = refl
up_to_is (t ∷ ts) z f h = ap (λ s. s ∷ up_to (length ts) (λ c. f (suc c))) (h 0 (omega arith)) ∙ ap (λ s. t ∷ s) (up_to_is ts z (λ c. f (suc c)) (λ c lt. h (suc c) (omega arith)))

pub list_is : (n x : List ℕ) (i : ℕ) (l : List ℕ) → RepLeaf n x i l → ((p : ℕ) → occ p l ≤ 1) → chain (length x) x (get_or n (4 * i + 1) 0) ≡ l
list_is n x i l r o = chain_is l x (length x) (get_or n (4 * i + 1) 0) r.2 (chain_short l x (get_or n (4 * i + 1) 0) r.2 o)

pub read_is : (d ways : ℕ) (n x : List ℕ) (i : ℕ) (t : PTree d) → Rep d ways n x i t → ((p : ℕ) → places_at d p t ≤ 1) → read d ways n x i ≡ t
unfolding read
read_is zero ways n x i l r o = list_is n x i l r o
read_is (suc d) ways n x i (leaf l) r o = ifz-yes (get_or n (4 * i) 0) _ _ r.1 ∙ ap leaf (list_is n x i l r o)
read_is (suc d) ways n x i (branch k ts) r o =
    ifz-no (get_or n (4 * i) 0) _ _ (λ z. r.2 (sym r.1 ∙ z))
    ∙ ap (λ g. branch g (up_to ways (λ c. read d ways n x (kid ways g c)))) r.1
    ∙ ap (λ m. branch k (up_to m (λ c. read d ways n x (kid ways k c)))) (sym r.4)
    ∙ ap (branch k) (up_to_is ts (none d) (λ c. read d ways n x (kid ways k c))
    (λ c lt. read_is d ways n x (kid ways k c) (get_or ts c (none d)) (r.5 c (omega (arith, lt, r.4))) (λ p. omega (arith, o p, sum_at (places_at d p) ts c (none d) lt))))

-- the words hold one tree only
pub rep_unique : (d ways : ℕ) (n x : List ℕ) (i : ℕ) (t u : PTree d) → Rep d ways n x i t → ((p : ℕ) → places_at d p t ≤ 1) → Rep d ways n x i u → ((p : ℕ) → places_at d p u ≤ 1) → t ≡ u
rep_unique d ways n x i t u rt ot ru ou = sym (read_is d ways n x i t rt ot) ∙ read_is d ways n x i u ru ou

pub world_read : (d ways : ℕ) (s : Pool) (i : ℕ) (t : PTree d) (fl fp : List ℕ) → World d ways s i t fl fp → read d ways s.nodes s.links i ≡ t
world_read d ways s i t fl fp w = read_is d ways s.nodes s.links i t w.rep (λ p. omega (arith, w.places p))
