-- What an answer says, and its line. Definitions only.
use Rattle.std.specs.Prelude.{ℕ, ◌+◌, ◌%◌, Bool, cond, List, [], ◌∷◌, ◌++◌, map, ltb, Float, length, Option, None, Some}
use Rattle.model.specs.Boxes.{Side}
use Rattle.geometry.specs.Sides.{sides2, sides3}
use Rattle.record.specs.Numbers.{hex}
use Rattle.geometry_answers.specs.declared.Answer.{Answer}
use Rattle.geometry_answers.specs.declared.Answer.TheVariants.{Number, Yes, Child, Quadrant, Octant}

-- numbers, or one character
pub data Said : Type 0 where
  Floats : List Float → Said
  Mark : ℕ → Said

abbrev pub number : Float → Said
number x = Floats (x ∷ [])

abbrev pub yes : Bool → Said
yes t = Mark (cond t 49 48)

-- the digit of a child's number, which is below 8
abbrev pub child : ℕ → Said
child i = Mark (48 + i % 8)

-- a box: its corners and then its extents
unfoldable pub boxed : List Side → Said
boxed b = Floats (map (λ s. s.corner) b ++ map (λ s. s.extent) b)

-- a question mark
abbrev pub unknown : Said
unknown = Mark 63

-- what an answer says, and a question mark where there is none
unfoldable pub said_in : Option Answer → Said
unfolding boxed
said_in None = unknown
said_in (Some (Number x)) = number x
said_in (Some (Yes t)) = yes t
said_in (Some (Child i)) = child i
said_in (Some (Quadrant r)) = boxed (sides2 r)
said_in (Some (Octant c)) = boxed (sides3 c)

-- the hex digits of each float: a comma stands after each but the last, and after that one the line ends
unfoldable pub fields : List Float → List ℕ
unfolding hex
fields [] = []
fields (x ∷ []) = hex x ++ (10 ∷ [])
fields (x ∷ y ∷ l) = (hex x ++ (44 ∷ [])) ++ fields (y ∷ l)

unfoldable pub shown : Said → List ℕ
unfolding fields
shown (Floats l) = fields l
shown (Mark b) = b ∷ 10 ∷ []

-- the line at the front of the bytes, where these are at least 128, which is more than any line has; otherwise nothing
unfoldable pub line : List ℕ → Said → List ℕ
unfolding shown
line out s = cond (ltb (length out) 128) [] (shown s)
