-- What each function does to a tree in the pool, and what it leaves alone. Definitions only.
use Rattle.std.specs.Prelude.{◌≡◌, ◌≢◌, Bool, List, [], ◌∷◌, ◌++◌, ℕ, zero, suc, ◌+◌, ◌-◌, ◌*◌, ◌/◌, ◌<◌, ◌≤◌, leb, length}
use Rattle.pool.specs.Lists.{occ, sum_of, last_or}
use Rattle.pool.specs.Writes.{Pool, both, kid, named}
use Rattle.pool.specs.Trees.{leaf, branch, PTree, flat, flats, none, groups_at, places_at, dealt, joined_in}
use Rattle.pool.specs.Worlds.{World, Frame, Ready}

-- the undivided node i has place p at the end of its list
unfoldable pub Appends : Pool → Pool → ℕ → ℕ → Type 0
Appends s r i p =
    (d ways : ℕ) (l fl fp : List ℕ) → 0 < ways → World d ways s i (flat d l) fl fp → Ready d s (flat d l) fp p
    → World d ways r i (flat d (l ++ (p ∷ []))) fl fp × Frame d ways s r i (flat d l) fl (p ∷ [])

-- the undivided node i has its list without place p, where b is the place before it, or 0
unfoldable pub Cuts : Pool → Pool → ℕ → ℕ → ℕ → Type 0
Cuts s r i p b =
    (d ways : ℕ) (l m fl fp : List ℕ) → 0 < ways → World d ways s i (flat d (l ++ (p ∷ m))) fl fp → b ≡ last_or 0 l
    → World d ways r i (flat d (l ++ m)) fl fp × Frame d ways s r i (flat d (l ++ (p ∷ m))) fl []

-- p is the first free place, or 0 where there is none; it is free no more
unfoldable pub TakesPlace : List ℕ → List ℕ → ℕ → Type 0
TakesPlace x y p =
    (d ways : ℕ) (n : List ℕ) (i : ℕ) (t : PTree d) (fl fp : List ℕ) → World d ways (both n x) i t fl fp
    → (fp ≡ [] → (p ≡ 0) × (y ≡ x)) × ((q : ℕ) (rest : List ℕ) → fp ≡ q ∷ rest → (p ≡ q) × World d ways (both n y) i t fl rest)

-- place p, which was in neither, is the first free place
unfoldable pub GivesPlace : List ℕ → List ℕ → ℕ → Type 0
GivesPlace x y p =
    (d ways : ℕ) (n : List ℕ) (i : ℕ) (t : PTree d) (fl fp : List ℕ) → World d ways (both n x) i t fl fp → p ≢ 0 → p < length x
    → places_at d p t + occ p fp ≡ 0 → World d ways (both n y) i t fl (p ∷ fp)

-- k is the first free group, or 0 where there is none; it is free no more
unfoldable pub TakesGroup : ℕ → List ℕ → List ℕ → ℕ → Type 0
TakesGroup ways n m k =
    (d : ℕ) (x : List ℕ) (i : ℕ) (t : PTree d) (fl fp : List ℕ) → 0 < ways → World d ways (both n x) i t fl fp
    → (fl ≡ [] → (k ≡ 0) × (m ≡ n)) × ((g : ℕ) (rest : List ℕ) → fl ≡ g ∷ rest → (k ≡ g) × World d ways (both m x) i t rest fp)

-- group k, which was in neither and does not hold node i, is the first free group
unfoldable pub GivesGroup : ℕ → List ℕ → List ℕ → ℕ → Type 0
GivesGroup ways n m k =
    (d : ℕ) (x : List ℕ) (i : ℕ) (t : PTree d) (fl fp : List ℕ) → 0 < ways → World d ways (both n x) i t fl fp → k ≢ 0 → 4 * kid ways k ways ≤ length n
    → groups_at d k t + occ k fl ≡ 0 → ((c : ℕ) → c < ways → i ≢ kid ways k c) → World d ways (both m x) i t (k ∷ fl) fp

-- whether at least m groups are free
unfoldable pub Tells : ℕ → List ℕ → ℕ → Bool → Type 0
Tells ways n m r = (d : ℕ) (x : List ℕ) (i : ℕ) (t : PTree d) (fl fp : List ℕ) → World d ways (both n x) i t fl fp → r ≡ leb m (length fl)

-- the numbers from a on, m of them
abbrev pub up_from : ℕ → ℕ → List ℕ
up_from a zero = []
up_from a (suc m) = a ∷ up_from (suc a) m

-- node i, before the first group, is an empty tree, and every group and place that there is room for is free
unfoldable pub Empties : ℕ → Pool → Pool → ℕ → Type 0
Empties ways s r i =
    (d : ℕ) → i ≢ 0 → i < ways → 4 * i + 3 < length s.nodes → 1 ≤ length s.links
    → World d ways r i (none d) (up_from 1 (named (length s.nodes / 4 / ways) - 1)) (up_from 1 (named (length s.links) - 1))
    × (length r.nodes ≡ length s.nodes) × (length r.links ≡ length s.links)

-- the undivided node i is divided: it has the first free group, and its places are dealt out to the children by their turns
unfoldable pub Splits : ℕ → List ℕ → Pool → Pool → ℕ → ℕ → Type 0
Splits ways ts s r i k =
    (d : ℕ) (l : List ℕ) (g : ℕ) (fl fp : List ℕ) → 0 < ways → World (suc d) ways s i (leaf l) (g ∷ fl) fp → length l + 1 < 4294967296
    → (k ≡ g) × World (suc d) ways r i (branch g (flats d (dealt ways ts l))) fl fp × Frame (suc d) ways s r i (leaf l) (g ∷ fl) []

-- sums over the order are sums over the numbers below `ways`: it has each of them once
abbrev pub Once : ℕ → List ℕ → Type 0
Once ways order = (f : ℕ → ℕ) → sum_of f order ≡ sum_of f (up_from 0 ways)

-- the divided node i of undivided children is undivided: it has their lists, joined in the order given, and its group is the first free one
unfoldable pub Merges : ℕ → List ℕ → Pool → Pool → ℕ → ℕ → Type 0
Merges ways order s r i k =
    (d : ℕ) (ls : List (List ℕ)) (fl fp : List ℕ) → 0 < ways → Once ways order → World (suc d) ways s i (branch k (flats d ls)) fl fp
    → World (suc d) ways r i (leaf (joined_in order ls)) (k ∷ fl) fp × Frame (suc d) ways s r i (branch k (flats d ls)) fl []
