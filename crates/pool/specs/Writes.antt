-- What each function writes, word by word, for any words. Definitions only.
-- Node i has the words 4i, its group of children or 0; 4i + 1 and 4i + 2, the first and the last place of its list or 0; 4i + 3, how many points are in it
-- and below. Node 0 is the header: its word 0 is the first free group. A free group is linked on by word 0 of its first node. Word p of the links is
-- the place after p; word 0 is the first free place.
use Rattle.std.specs.Prelude.{Bool, true, false, cond, List, [], ◌∷◌, ℕ, zero, suc, ◌+◌, ◌-◌, ◌*◌, ◌/◌, ◌%◌, min, ltb, length, get_or, set}
use Rattle.words.specs.Words.{words}
use Rattle.pool.specs.Lists.{ifz}

-- the words of both pieces
pub record Pool : Type 0 where
  pub nodes : List ℕ
  pub links : List ℕ

abbrev pub both : List ℕ → List ℕ → Pool
both n x = record { nodes = n; links = x }

-- the pool that two slices of bytes hold
abbrev pub pool : List ℕ → List ℕ → Pool
pool nodes links = both (words nodes) (words links)

-- the node of child c of group k
abbrev pub kid : ℕ → ℕ → ℕ → ℕ
kid ways k c = ways * k + c

-- ---- a node's count, one more as a word of 32 bits, and one less or 0
unfoldable pub counted : List ℕ → ℕ → List ℕ
counted n i = set n (4 * i + 3) ((get_or n (4 * i + 3) 0 + 1) % 4294967296)

unfoldable pub lowered : List ℕ → ℕ → List ℕ
lowered n i = set n (4 * i + 3) (get_or n (4 * i + 3) 0 - 1)

-- ---- lists
-- place p is the last of node i, which has one point more
unfoldable pub ended : List ℕ → ℕ → ℕ → List ℕ
unfolding counted
ended n i p = counted (set n (4 * i + 2) p) i

-- place p at the end of the list of node i
unfoldable pub appended : Pool → ℕ → ℕ → Pool
unfolding ended
appended s i p =
    let last = get_or s.nodes (4 * i + 2) 0 in
    ifz last (both (ended (set s.nodes (4 * i + 1) p) i p) (set s.links p 0)) (both (ended s.nodes i p) (set (set s.links p 0) last p))

-- where `next` is 0, b is the last of node i
unfoldable pub relasted : List ℕ → ℕ → ℕ → ℕ → List ℕ
relasted n i next b = ifz next (set n (4 * i + 2) b) n

-- place p out of the list of node i, where b stands before it, or 0
unfoldable pub cut_out : Pool → ℕ → ℕ → ℕ → Pool
unfolding relasted lowered
cut_out s i p b =
    let next = get_or s.links p 0 in
    let n = relasted (lowered s.nodes i) i next b in
    ifz b (both (set n (4 * i + 1) next) s.links) (both n (set s.links b next))

-- ---- free places and free groups: the first one leaves, or one comes to the front
unfoldable pub popped : List ℕ → List ℕ
popped x = set x 0 (get_or x (get_or x 0 0) 0)

unfoldable pub pushed : List ℕ → ℕ → List ℕ
pushed x p = set (set x p (get_or x 0 0)) 0 p

unfoldable pub taken : ℕ → List ℕ → List ℕ
taken ways n = set n 0 (get_or n (4 * kid ways (get_or n 0 0) 0) 0)

unfoldable pub given : ℕ → List ℕ → ℕ → List ℕ
given ways n k = set (set n (4 * kid ways k 0) (get_or n 0 0)) 0 k

-- whether there are m free groups from h on
unfoldable pub enough : ℕ → List ℕ → ℕ → ℕ → Bool
enough ways n zero h = true
enough ways n (suc m) h = ifz h false (enough ways n m (get_or n (4 * kid ways h 0) 0))

-- ---- nothing but free places: the numbers from p down to 1 come to the front, so that 1 is the first
unfoldable pub pushed_down : ℕ → List ℕ → List ℕ
unfolding pushed
pushed_down zero x = x
pushed_down (suc p) x = pushed_down p (pushed x (suc p))

unfoldable pub given_down : ℕ → ℕ → List ℕ → List ℕ
unfolding given
given_down ways zero n = n
given_down ways (suc k) n = given_down ways k (given ways n (suc k))

-- a number, or the largest of 32 bits
abbrev pub named : ℕ → ℕ
named m = min m 4294967295

-- an empty undivided node
unfoldable pub cleared : List ℕ → ℕ → List ℕ
cleared n i = set (set (set (set n (4 * i) 0) (4 * i + 1) 0) (4 * i + 2) 0) (4 * i + 3) 0

unfoldable pub cleared_from : ℕ → List ℕ → ℕ → List ℕ
unfolding cleared
cleared_from zero n i = n
cleared_from (suc k) n i = cleared_from k (cleared n i) (suc i)

-- places and groups are all free, and node i is empty
unfoldable pub emptied : ℕ → Pool → ℕ → Pool
unfolding pushed_down given_down cleared
emptied ways s i =
    both (cleared (given_down ways (named (length s.nodes / 4 / ways) - 1) (set s.nodes 0 0)) i) (pushed_down (named (length s.links) - 1) (set s.links 0 0))

-- ---- a split
-- the j-th turn; a number that is no child's, and a turn that is not there, is 0
unfoldable pub turn_at : ℕ → List ℕ → ℕ → ℕ
turn_at ways ts j = cond (ltb (get_or ts j 0) ways) (get_or ts j 0) 0

-- the chain from q on, at most f places: each goes to the end of the child's list that its turn says
unfoldable pub dealing : (ways k : ℕ) → List ℕ → ℕ → ℕ → Pool → ℕ → Pool
unfolding appended turn_at
dealing ways k ts zero j s q = s
dealing ways k ts (suc f) j s q = ifz q s (dealing ways k ts f (suc j) (appended s (kid ways k (turn_at ways ts j)) q) (get_or s.links q 0))

-- node i gets the first free group, and the places of its list are dealt out; nothing changes where no group is free
unfoldable pub parted : ℕ → List ℕ → Pool → ℕ → Pool
unfolding taken cleared_from dealing
parted ways ts s i =
    let k = get_or s.nodes 0 0 in
    let n = set (cleared_from ways (taken ways s.nodes) (kid ways k 0)) (4 * i) k in
    ifz k s (dealing ways k ts (length s.links) 0 (both n s.links) (get_or s.nodes (4 * i + 1) 0))

-- ---- a merge
-- lists joined so far: the links, the first place and the last
pub record Row : Type 0 where
  pub links : List ℕ
  pub first : ℕ
  pub last : ℕ

abbrev pub row : List ℕ → ℕ → ℕ → Row
row x a b = record { links = x; first = a; last = b }

-- the link of b, where both are not 0
unfoldable pub hooked : List ℕ → ℕ → ℕ → List ℕ
hooked x b f = ifz b x (ifz f x (set x b f))

-- the first of two that is not 0
unfoldable pub either : ℕ → ℕ → ℕ
either a b = ifz a b a

-- the lists of the children of group k, in the order given
unfoldable pub joining : ℕ → List ℕ → ℕ → List ℕ → Row → Row
unfolding hooked either
joining ways n k [] r = r
joining ways n k (c ∷ o) r =
    let f = get_or n (4 * kid ways k c + 1) 0 in
    let t = get_or n (4 * kid ways k c + 2) 0 in
    joining ways n k o (row (hooked r.links r.last f) (either r.first f) (either t r.last))

-- node i is undivided, with the list from a to b
unfoldable pub laid : List ℕ → ℕ → ℕ → ℕ → List ℕ
laid n i a b = set (set (set n (4 * i) 0) (4 * i + 1) a) (4 * i + 2) b

unfoldable pub merged : ℕ → List ℕ → Pool → ℕ → ℕ → Pool
unfolding joining laid given
merged ways order s i k =
    let r = joining ways s.nodes k order (row s.links 0 0) in
    both (given ways (laid s.nodes i r.first r.last) k) r.links
