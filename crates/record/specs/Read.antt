-- What the code's answers say, and where the fields after a word stand. Definitions only.
use Rattle.std.specs.Prelude.{ℕ, zero, suc, ◌≡◌, Bool, cond, List, [], ◌∷◌, leb, length, Float, Option, None, Some}
use Rattle.std.proofs.lemmas.List.Edits.{sets}
use Rattle.record.specs.Text.{split}
use Rattle.record.specs.Numbers.{number_of}
use Rattle.record.specs.Commands.{Numbers, numbers_of}

-- the fields after the first, given what stands after the first: nothing, or a comma and the others. Its first byte is taken for the comma, whatever it is
unfoldable pub rest : List ℕ → List (List ℕ)
unfolding split
rest [] = []
rest (b ∷ s) = split 44 s

-- the floats at the front of the fields, n at most: up to the first field that is none
unfoldable pub read_up : ℕ → List (List ℕ) → List Float
unfolding number_of
read_up zero fs = []
read_up (suc n) [] = []
read_up (suc n) (f ∷ fs) = elim (number_of f) [ None ↦ [] | Some x ↦ x ∷ read_up n fs ]

-- the whole number of a word's numbers, if they are understood
unfoldable pub whole_among : Option Numbers → Option ℕ
whole_among None = None
whole_among (Some m) = Some m.whole

-- the fields that are read: none where n floats have no room
unfoldable pub readable : (room n : ℕ) → List (List ℕ) → List (List ℕ)
readable room n fs = cond (leb n room) fs []

-- what reading n floats and, where it is due, a whole number leaves: the whole number, and the floats at the front of an array
pub record Reads (n : ℕ) (due : Bool) (fs : List (List ℕ)) (r : Option ℕ) (before after : List Float) : Type 0 where
  pub answer : r ≡ whole_among (numbers_of n due (readable (length before) n fs))
  pub array : after ≡ sets before 0 (read_up n (readable (length before) n fs))
