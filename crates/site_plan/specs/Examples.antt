-- The site-plan examples that document 01 marks P: what the definitions give, and what the document says. Boundary (0,0,8,8), payloads distinct. Definitions only.
use Rattle.std.specs.Prelude.{ℕ, zero, suc, List, [], ◌∷◌, ◌++◌, map, get_or, Float}
use Rattle.std.specs.Float.{binary64}
use Rattle.std.specs.Float.Ieee.{mul, of_bits, to_bits}
use Rattle.floats.specs.Span.{span}
use Rattle.model.specs.Boxes.{Side}
use Rattle.model.specs.Trees.{Point, leaf, branch, Tree, bag, held, nodes}
use Rattle.model.specs.Calls.{number, quadtree, octree, State, misfit, broken, tree, Call, Create, Insert, Delete, Ask, Radius, Box, Nearest, step}
use Rattle.model.specs.History.{run}

-- ---- numbers by their bits
abbrev pub f64 : ℕ → Float
f64 n = of_bits binary64 n

abbrev pub minus_one : ℕ
minus_one = 0xbff0_0000_0000_0000

abbrev pub zero_bits : ℕ
zero_bits = 0

abbrev pub one : ℕ
one = 0x3ff0_0000_0000_0000

abbrev pub three : ℕ
three = 0x4008_0000_0000_0000

abbrev pub four : ℕ
four = 0x4010_0000_0000_0000

abbrev pub five : ℕ
five = 0x4014_0000_0000_0000

abbrev pub eight : ℕ
eight = 0x4020_0000_0000_0000

abbrev pub eight_and_half : ℕ
eight_and_half = 0x4021_0000_0000_0000

abbrev pub minus_zero : ℕ
minus_zero = 0x8000_0000_0000_0000

abbrev pub not_a_number : ℕ
not_a_number = 0x7ff8_0000_0000_0000

-- 2^500, and 2^−540 and 2^−600
abbrev pub largest : ℕ
largest = 0x5f30_0000_0000_0000

abbrev pub tiny : ℕ
tiny = 0x1e30_0000_0000_0000

abbrev pub tinier : ℕ
tinier = 0x1a70_0000_0000_0000

-- ---- the plan, its points, and calls on it
abbrev pub side : ℕ → ℕ → Side
side c e = record { corner = f64 c; extent = f64 e }

abbrev pub plan : List Side
plan = side zero_bits eight ∷ side zero_bits eight ∷ []

abbrev pub place : ℕ → ℕ → List Float
place x y = f64 x ∷ f64 y ∷ []

abbrev pub point : ℕ → ℕ → ℕ → Point
point x y n = record { at = place x y; payload = n }

abbrev pub a : Point
a = point one one 1

abbrev pub b : Point
b = point five one 2

abbrev pub c : Point
c = point one five 3

abbrev pub p41 : Point
p41 = point four one 41

abbrev pub p11 : Point
p11 = point one one 11

abbrev pub p00 : Point
p00 = point zero_bits zero_bits 5

-- the state after a creation with this capacity, and these calls
unfoldable pub after : ℕ → List Call → State
after cap cs = run quadtree broken (Create plan cap ∷ cs)

unfoldable pub payloads : List Point → List ℕ
payloads ps = map (λ (p : Point). p.payload) ps

-- a row of the table: numbers, or what a call gives: its reply number, its count or yes or no, and the points of its answer
pub data Row : Type 0 where
  numbers : List ℕ → Row
  answer : ℕ → ℕ → List Point → Row

unfoldable pub gives : State → Call → Row
gives s k = let o = step quadtree s k in answer (number o.reply) o.figure o.points

-- the number of nodes and the payloads held; and the payloads held in the child with the number i
unfoldable pub shape : State → List ℕ
unfolding payloads
shape misfit = []
shape broken = []
shape (tree t) = nodes 32 t.root ∷ payloads (held 32 t.root)

unfoldable pub child : ℕ → Tree 32 → List ℕ
unfolding payloads
child i (leaf ps) = []
child i (branch ts) = payloads (held 31 (get_or ts i (bag 31 [])))

unfoldable pub quadrant : ℕ → State → List ℕ
unfolding child
quadrant i misfit = []
quadrant i broken = []
quadrant i (tree t) = child i t.root

-- n points in one place, "payloads distinct"
unfoldable pub many : ℕ → List Point
many zero = []
many (suc n) = many n ++ (point one one n ∷ [])

-- n points held
unfoldable pub holding : ℕ → State
unfolding many
holding n = tree (record { boundary = plan; capacity = 512; root = leaf (many n) })

-- and the calls that store them
unfoldable pub filling : ℕ → List Call
unfolding many
filling n = map Insert (many n)

unfoldable pub full : State
unfolding holding
full = holding 512

-- ---- the table: what the definitions give
unfoldable pub given : List Row
unfolding after gives shape quadrant full
given =
    -- "`span`(−3·2^−55, 1) is 1 + 2^−52; `span`(0, 0) is 0; `span`(1, 0) is −1."
    numbers (to_bits binary64 (span binary64 (f64 0xbc98_0000_0000_0000) (f64 one)) ∷ to_bits binary64 (span binary64 (f64 zero_bits) (f64 zero_bits)) ∷ to_bits binary64 (span binary64 (f64 one) (f64 zero_bits)) ∷ [])
    -- "(8,8) is inside; (8,8.5) gets 1, also with 512 held."
    ∷ gives (after 1 []) (Insert (point eight eight 1))
    ∷ gives (after 1 []) (Insert (point eight eight_and_half 1))
    ∷ gives full (Insert (point eight eight_and_half 512))
    -- and inside with 512 held it gets 5
    ∷ gives full (Insert (point eight eight 512))
    -- "Extent 0 is accepted, −1 gets 4; 2^500 is accepted, the next double gets 4. Capacity 0 with a NaN boundary gets 3."
    ∷ gives broken (Create (side zero_bits zero_bits ∷ side zero_bits eight ∷ []) 1)
    ∷ gives broken (Create (side zero_bits minus_one ∷ side zero_bits eight ∷ []) 1)
    ∷ gives broken (Create (side largest largest ∷ side zero_bits eight ∷ []) 1)
    ∷ gives broken (Create (side zero_bits (suc largest) ∷ side zero_bits eight ∷ []) 1)
    ∷ gives broken (Create (side not_a_number eight ∷ side zero_bits eight ∷ []) 0)
    -- "Capacity 1, (4,1) then (1,1): 5 nodes, (4,1) in NE."
    ∷ numbers (shape (after 1 (Insert p41 ∷ Insert p11 ∷ [])))
    ∷ numbers (quadrant 1 (after 1 (Insert p41 ∷ Insert p11 ∷ [])))
    -- "Capacity 2, a(1,1), b(5,1), c(1,5); delete c: one node with list b, a. Nearest 1 to (3,1) is then b; before c came it was a."
    ∷ numbers (shape (after 2 (Insert a ∷ Insert b ∷ Insert c ∷ Delete c ∷ [])))
    ∷ gives (after 2 (Insert a ∷ Insert b ∷ Insert c ∷ Delete c ∷ [])) (Ask (Nearest (place three one) 1 512))
    ∷ gives (after 2 (Insert a ∷ Insert b ∷ [])) (Ask (Nearest (place three one) 1 512))
    -- "Radius −1 and NaN give nothing; −0 at (1,1) gives a."
    ∷ gives (after 2 (Insert a ∷ Insert b ∷ Insert c ∷ [])) (Ask (Radius (place one one) (f64 minus_one) 512))
    ∷ gives (after 2 (Insert a ∷ Insert b ∷ Insert c ∷ [])) (Ask (Radius (place one one) (f64 not_a_number) 512))
    ∷ gives (after 2 (Insert a ∷ Insert b ∷ Insert c ∷ [])) (Ask (Radius (place one one) (f64 minus_zero) 512))
    -- "k = 0 gives nothing. Capacity 3, a, b, c, NaN centre, k = 2: a, c."
    ∷ gives (after 3 (Insert a ∷ Insert b ∷ Insert c ∷ [])) (Ask (Nearest (place one one) 0 512))
    ∷ gives (after 3 (Insert a ∷ Insert b ∷ Insert c ∷ [])) (Ask (Nearest (place not_a_number one) 2 512))
    -- "With (4,1) and (1,1) held, box (4,0,0,8) gives (4,1)."
    ∷ gives (after 1 (Insert p41 ∷ Insert p11 ∷ [])) (Ask (Box (side four zero_bits ∷ side zero_bits eight ∷ []) 512))
    -- "Centre (2^−540, 0), radius 2^−600: (0,0) is given, as both squares compute to 0."
    ∷ gives (after 1 (Insert p00 ∷ [])) (Ask (Radius (place tiny zero_bits) (f64 tinier) 512))
    ∷ numbers (to_bits binary64 (mul binary64 (f64 tiny) (f64 tiny)) ∷ to_bits binary64 (mul binary64 (f64 tinier) (f64 tinier)) ∷ [])
    ∷ []

-- ---- and what the document says
unfoldable pub said : List Row
said =
    numbers (0x3ff0_0000_0000_0001 ∷ 0 ∷ minus_one ∷ [])
    ∷ answer 0 0 []
    ∷ answer 1 0 []
    ∷ answer 1 0 []
    ∷ answer 5 0 []
    ∷ answer 0 0 []
    ∷ answer 4 0 []
    ∷ answer 0 0 []
    ∷ answer 4 0 []
    ∷ answer 3 0 []
    ∷ numbers (5 ∷ 11 ∷ 41 ∷ [])
    ∷ numbers (41 ∷ [])
    ∷ numbers (1 ∷ 2 ∷ 1 ∷ [])
    ∷ answer 0 1 (b ∷ [])
    ∷ answer 0 1 (a ∷ [])
    ∷ answer 0 0 []
    ∷ answer 0 0 []
    ∷ answer 0 1 (a ∷ [])
    ∷ answer 0 0 []
    ∷ answer 0 2 (a ∷ c ∷ [])
    ∷ answer 0 1 (p41 ∷ [])
    ∷ answer 0 1 (p00 ∷ [])
    ∷ numbers (0 ∷ 0 ∷ [])
    ∷ []

-- ---- the examples that are not marked, some of which go down to depth 32
-- two equal places, and two pairs of them
abbrev pub twins : List Call
twins = Insert (point one one 1) ∷ Insert (point one one 2) ∷ []

abbrev pub pairs : List Call
pairs = Insert (point one one 1) ∷ Insert (point one one 2) ∷ Insert (point five five 3) ∷ Insert (point five five 4) ∷ []

abbrev pub cube : List Side
cube = side zero_bits eight ∷ side zero_bits eight ∷ side zero_bits eight ∷ []

abbrev pub point3 : ℕ → ℕ → Point
point3 x n = record { at = f64 x ∷ f64 x ∷ f64 x ∷ []; payload = n }

unfoldable pub after3 : ℕ → List Call → State
after3 cap cs = run octree broken (Create cube cap ∷ cs)
