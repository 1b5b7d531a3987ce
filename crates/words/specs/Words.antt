-- A list of bytes read as words, and words read in twos. What is left past the last whole one is passed over. Definitions only.
use Rattle.std.specs.Prelude.{List, [], ◌∷◌, ℕ, zero, suc, ◌+◌, ◌*◌, ◌/◌, ◌%◌}

-- the number that four bytes stand for, low byte first
abbrev pub le4 : ℕ → ℕ → ℕ → ℕ → ℕ
le4 a b c d = a + 256 * b + 65536 * c + 16777216 * d

-- the words of a list of bytes
unfoldable pub words : List ℕ → List ℕ
words [] = []
words (a ∷ []) = []
words (a ∷ b ∷ []) = []
words (a ∷ b ∷ c ∷ []) = []
words (a ∷ b ∷ c ∷ d ∷ s) = le4 a b c d ∷ words s

-- the numbers of 64 bits that a list of words holds, low word first
unfoldable pub pairs : List ℕ → List ℕ
pairs [] = []
pairs (a ∷ []) = []
pairs (a ∷ b ∷ w) = (a + 4294967296 * b) ∷ pairs w

-- number i of them is set: two words, or none where the list is too short for both
unfoldable pub set_pair : List ℕ → ℕ → ℕ → List ℕ
set_pair [] i v = []
set_pair (a ∷ []) i v = a ∷ []
set_pair (a ∷ b ∷ w) zero v = (v % 4294967296) ∷ (v / 4294967296) ∷ w
set_pair (a ∷ b ∷ w) (suc i) v = a ∷ b ∷ set_pair w i v
