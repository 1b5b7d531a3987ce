-- The tree that any words say. Definitions only.
use Rattle.std.specs.Prelude.{List, [], ◌∷◌, ℕ, zero, suc, ◌+◌, ◌*◌, length, get_or}
use Rattle.pool.specs.Lists.{ifz}
use Rattle.pool.specs.Writes.{kid}
use Rattle.pool.specs.Trees.{leaf, branch, PTree}

-- the chain from h on, at most f places
unfoldable pub chain : ℕ → List ℕ → ℕ → List ℕ
chain zero x h = []
chain (suc f) x zero = []
chain (suc f) x (suc p) = suc p ∷ chain f x (get_or x (suc p) 0)

-- the first k of what f says
unfoldable pub up_to : {K : Type 0} → ℕ → (ℕ → K) → List K
up_to zero f = []
up_to (suc k) f = f 0 ∷ up_to k (λ c. f (suc c))

-- the tree at node i, by levels: any words are read as some tree
unfoldable pub read : (d ways : ℕ) → List ℕ → List ℕ → ℕ → PTree d
unfolding chain up_to
read zero ways n x i = chain (length x) x (get_or n (4 * i + 1) 0)
read (suc d) ways n x i =
    ifz (get_or n (4 * i) 0) (leaf (chain (length x) x (get_or n (4 * i + 1) 0))) (branch (get_or n (4 * i) 0) (up_to ways (λ c. read d ways n x (kid ways (get_or n (4 * i) 0) c))))
