-- When words hold a tree, with its free groups and places, and what a change leaves alone. Definitions only.
use Rattle.std.specs.Prelude.{◌≡◌, ◌≢◌, List, [], ◌∷◌, ℕ, zero, suc, ◌+◌, ◌*◌, ◌<◌, ◌≤◌, length, get_or}
use Rattle.pool.specs.Lists.{occ, sum_of, last_or, Chain}
use Rattle.pool.specs.Writes.{Pool, kid}
use Rattle.pool.specs.Trees.{leaf, branch, PTree, none, groups_at, places_at, size}

-- node i is undivided and has this list
abbrev pub RepLeaf : List ℕ → List ℕ → ℕ → List ℕ → Type 0
RepLeaf n x i l =
    (4 * i + 3 < length n) × (get_or n (4 * i) 0 ≡ 0) × Chain x (get_or n (4 * i + 1) 0) l × (get_or n (4 * i + 2) 0 ≡ last_or 0 l) × (get_or n (4 * i + 3) 0 ≡ length l)

-- node i is the root of this tree
abbrev pub Rep : (d ways : ℕ) → List ℕ → List ℕ → ℕ → PTree d → Type 0
Rep zero ways n x i l = RepLeaf n x i l
Rep (suc d) ways n x i (leaf l) = RepLeaf n x i l
Rep (suc d) ways n x i (branch k ts) =
    (4 * i + 3 < length n) × (get_or n (4 * i) 0 ≡ k) × (k ≢ 0) × (get_or n (4 * i + 3) 0 ≡ sum_of (size d) ts) × (length ts ≡ ways)
    × ((c : ℕ) → c < ways → Rep d ways n x (kid ways k c) (get_or ts c (none d)))

-- the groups from h on are these, and there is room for each
abbrev pub Free : ℕ → List ℕ → ℕ → List ℕ → Type 0
Free ways n h [] = h ≡ 0
Free ways n h (k ∷ fl) = (h ≡ k) × (k ≢ 0) × (4 * kid ways k ways ≤ length n) × Free ways n (get_or n (4 * kid ways k 0) 0) fl

-- a tree at node i, the free groups fl and the free places fp: each group and each place once at most, node i is not the header and in none of the groups.
-- That no place and no group is missing is not said here: it belongs to a tree's soundness
pub record World (d ways : ℕ) (s : Pool) (i : ℕ) (t : PTree d) (fl fp : List ℕ) : Type 0 where
  pub rep : Rep d ways s.nodes s.links i t
  pub free : Free ways s.nodes (get_or s.nodes 0 0) fl
  pub spare : Chain s.links (get_or s.links 0 0) fp
  pub low : i ≢ 0
  pub groups : (g : ℕ) → groups_at d g t + occ g fl ≤ 1
  pub places : (p : ℕ) → places_at d p t + occ p fp ≤ 1
  pub apart : (g c : ℕ) → c < ways → i ≡ kid ways g c → groups_at d g t + occ g fl ≡ 0

-- the words of node i are the same in both
pub record Same (m n : List ℕ) (i : ℕ) : Type 0 where
  pub group : get_or m (4 * i) 0 ≡ get_or n (4 * i) 0
  pub first : get_or m (4 * i + 1) 0 ≡ get_or n (4 * i + 1) 0
  pub last : get_or m (4 * i + 2) 0 ≡ get_or n (4 * i + 2) 0
  pub count : get_or m (4 * i + 3) 0 ≡ get_or n (4 * i + 3) 0

-- node q is neither the header, nor node i, nor in a group of the tree or of the free ones
abbrev pub Off : (d ways : ℕ) → ℕ → ℕ → PTree d → List ℕ → Type 0
Off d ways q i t fl = (q ≢ 0) × (q ≢ i) × ((g c : ℕ) → c < ways → q ≡ kid ways g c → groups_at d g t + occ g fl ≡ 0)

-- a change from s to r of the tree t at node i, of its free groups and of the links of ps: every other node and every other link is as it was
pub record Frame (d ways : ℕ) (s r : Pool) (i : ℕ) (t : PTree d) (fl ps : List ℕ) : Type 0 where
  pub len_n : length r.nodes ≡ length s.nodes
  pub len_x : length r.links ≡ length s.links
  pub nodes : (q : ℕ) → Off d ways q i t fl → Same r.nodes s.nodes q
  pub links : (q : ℕ) → places_at d q t + occ q ps ≡ 0 → get_or r.links q 0 ≡ get_or s.links q 0

-- place p is in neither the tree nor the free places, and one more can be counted
pub record Ready (d : ℕ) (s : Pool) (t : PTree d) (fp : List ℕ) (p : ℕ) : Type 0 where
  pub out : places_at d p t + occ p fp ≡ 0
  pub nonzero : p ≢ 0
  pub inside : p < length s.links
  pub few : size d t + 1 < 4294967296
