-- The site-plan examples that document 01 marks P, said of calls: for any pieces of the right length, and any replies, counts, answer slices and pieces afterwards that meet the contracts. Definitions only.
use Rattle.std.specs.Prelude.{◌≡◌, List, [], ◌∷◌, ℕ, suc, ◌≤◌, length, Float}
use Rattle.std.proofs.lemmas.List.Edits.{sets}
use Rattle.std.specs.Float.{binary64}
use Rattle.std.specs.Float.Ieee.{mul, to_bits}
use Rattle.floats.specs.Span.{span}
use Rattle.model.specs.Boxes.{Side}
use Rattle.model.specs.Trees.{Point}
use Rattle.model.specs.Calls.{quadtree, State, Call, Create, Insert, Delete, Query, Radius, Box, Nearest}
use Rattle.site_plan.specs.Examples.{f64, minus_one, zero_bits, one, three, four, eight, eight_and_half, minus_zero, not_a_number, largest, tiny, tinier, side, plan, place, point, a, b, c, p41, p11, p00, filling, shape, quadrant}
use Rattle.trees.specs.Pieces.{Pieces, Fits, Says, Does, Searches, coordinates, payloads, room_for}
use Rattle.sequences.specs.Runs.{Made, calls, Runs, finally}

-- these pieces are what a creation on the plan with this capacity, and then these calls, left of pieces of the right length
pub record Left (capacity : ℕ) (before : List Call) (s : Pieces) : Type 0 where
  pub lent : Pieces
  pub fits : Fits quadtree lent
  pub made : List Made
  pub these : calls made ≡ Create plan capacity ∷ before
  pub runs : Runs quadtree lent made
  pub last : s ≡ finally lent made

-- a creation on any pieces of the right length gets this reply
abbrev pub Creates : List Side → ℕ → ℕ → Type 0
Creates boundary capacity reply = (s s' : Pieces) (r n : ℕ) → Fits quadtree s → Does quadtree (Create boundary capacity) s s' r n → (r ≡ reply) × (n ≡ 0)

-- after these calls, a call gets this reply
abbrev pub Replies : ℕ → List Call → Call → ℕ → Type 0
Replies capacity before asked reply = (s s' : Pieces) (r n : ℕ) → Left capacity before s → Does quadtree asked s s' r n → (r ≡ reply) × (n ≡ 0)

-- after these calls, a search that is lent room for these points is done, counts them, and writes them into the slices
abbrev pub Finds : ℕ → List Call → (ℕ → Query) → List Point → Type 0
Finds capacity before asked found = (s : Pieces) (cs ms cs' ms' : List ℕ) (r n : ℕ) → Left capacity before s → length found ≤ room_for 2 cs ms → Searches quadtree (asked (room_for 2 cs ms)) s cs ms cs' ms' r n
    → (r ≡ 0) × (n ≡ length found) × (cs' ≡ sets cs 0 (coordinates found)) × (ms' ≡ sets ms 0 (payloads found))

-- after these calls, the pieces are in a state of which f says these numbers
abbrev pub Stands : ℕ → List Call → (State → List ℕ) → List ℕ → Type 0
Stands capacity before f numbers = (s : Pieces) → Left capacity before s → (x : State) → Says quadtree s x → f x ≡ numbers

-- a number that meets the contract of `span` has these bits
abbrev pub Spans : ℕ → ℕ → ℕ → Type 0
Spans lo hi bits = (r : Float) → r ≡ span binary64 (f64 lo) (f64 hi) → to_bits binary64 r ≡ bits

pub record Examples : Type 0 where
  -- "`span`(−3·2^−55, 1) is 1 + 2^−52; `span`(0, 0) is 0; `span`(1, 0) is −1."
  pub span_steps : Spans 0xbc98_0000_0000_0000 one 0x3ff0_0000_0000_0001
  pub span_zero : Spans zero_bits zero_bits 0
  pub span_back : Spans one zero_bits minus_one
  -- "(8,8) is inside; (8,8.5) gets 1, also with 512 held."
  pub inside : Replies 1 [] (Insert (point eight eight 1)) 0
  pub outside : Replies 1 [] (Insert (point eight eight_and_half 1)) 1
  pub outside_when_full : Replies 512 (filling 512) (Insert (point eight eight_and_half 512)) 1
  -- and inside with 512 held it gets 5
  pub inside_when_full : Replies 512 (filling 512) (Insert (point eight eight 512)) 5
  -- "Extent 0 is accepted, −1 gets 4; 2^500 is accepted, the next double gets 4. Capacity 0 with a NaN boundary gets 3."
  pub extent_zero : Creates (side zero_bits zero_bits ∷ side zero_bits eight ∷ []) 1 0
  pub extent_negative : Creates (side zero_bits minus_one ∷ side zero_bits eight ∷ []) 1 4
  pub extent_largest : Creates (side largest largest ∷ side zero_bits eight ∷ []) 1 0
  pub extent_larger : Creates (side zero_bits (suc largest) ∷ side zero_bits eight ∷ []) 1 4
  pub without_capacity : Creates (side not_a_number eight ∷ side zero_bits eight ∷ []) 0 3
  -- "Capacity 1, (4,1) then (1,1): 5 nodes, (4,1) in NE."
  pub five_nodes : Stands 1 (Insert p41 ∷ Insert p11 ∷ []) shape (5 ∷ 11 ∷ 41 ∷ [])
  pub in_north_east : Stands 1 (Insert p41 ∷ Insert p11 ∷ []) (quadrant 1) (41 ∷ [])
  -- "Capacity 2, a(1,1), b(5,1), c(1,5); delete c: one node with list b, a. Nearest 1 to (3,1) is then b; before c came it was a."
  pub merged : Stands 2 (Insert a ∷ Insert b ∷ Insert c ∷ Delete c ∷ []) shape (1 ∷ 2 ∷ 1 ∷ [])
  pub nearest_then : Finds 2 (Insert a ∷ Insert b ∷ Insert c ∷ Delete c ∷ []) (λ m. Nearest (place three one) 1 m) (b ∷ [])
  pub nearest_before : Finds 2 (Insert a ∷ Insert b ∷ []) (λ m. Nearest (place three one) 1 m) (a ∷ [])
  -- "Radius −1 and NaN give nothing; −0 at (1,1) gives a."
  pub radius_negative : Finds 2 (Insert a ∷ Insert b ∷ Insert c ∷ []) (λ m. Radius (place one one) (f64 minus_one) m) []
  pub radius_nan : Finds 2 (Insert a ∷ Insert b ∷ Insert c ∷ []) (λ m. Radius (place one one) (f64 not_a_number) m) []
  pub radius_zero : Finds 2 (Insert a ∷ Insert b ∷ Insert c ∷ []) (λ m. Radius (place one one) (f64 minus_zero) m) (a ∷ [])
  -- "k = 0 gives nothing. Capacity 3, a, b, c, NaN centre, k = 2: a, c."
  pub nearest_none : Finds 3 (Insert a ∷ Insert b ∷ Insert c ∷ []) (λ m. Nearest (place one one) 0 m) []
  pub nearest_of_nan : Finds 3 (Insert a ∷ Insert b ∷ Insert c ∷ []) (λ m. Nearest (place not_a_number one) 2 m) (a ∷ c ∷ [])
  -- "With (4,1) and (1,1) held, box (4,0,0,8) gives (4,1)."
  pub on_midplane : Finds 1 (Insert p41 ∷ Insert p11 ∷ []) (λ m. Box (side four zero_bits ∷ side zero_bits eight ∷ []) m) (p41 ∷ [])
  -- "Centre (2^−540, 0), radius 2^−600: (0,0) is given, as both squares compute to 0."
  pub squares_vanish : Finds 1 (Insert p00 ∷ []) (λ m. Radius (place tiny zero_bits) (f64 tinier) m) (p00 ∷ [])
  pub both_squares : (to_bits binary64 (mul binary64 (f64 tiny) (f64 tiny)) ≡ 0) × (to_bits binary64 (mul binary64 (f64 tinier) (f64 tinier)) ≡ 0)
