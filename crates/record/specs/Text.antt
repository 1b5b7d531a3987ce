-- Bytes cut into parts, and bytes compared. Definitions only.
use Rattle.std.specs.Prelude.{ℕ, Bool, true, false, ◌&&◌, ◌||◌, List, [], ◌∷◌, eqb}

-- the parts with one byte more at the front of the first
unfoldable pub grow : ℕ → List (List ℕ) → List (List ℕ)
grow b [] = (b ∷ []) ∷ []
grow b (p ∷ ps) = (b ∷ p) ∷ ps

-- the parts with one byte more in front, which is the separator or not
unfoldable pub split_step : Bool → ℕ → List (List ℕ) → List (List ℕ)
unfolding grow
split_step true b ps = [] ∷ ps
split_step false b ps = grow b ps

-- the parts between the separators c: always one more than there are separators
unfoldable pub split : ℕ → List ℕ → List (List ℕ)
unfolding split_step
split c [] = [] ∷ []
split c (b ∷ s) = split_step (eqb b c) b (split c s)

-- whether two byte strings are the same
unfoldable pub same : List ℕ → List ℕ → Bool
same [] [] = true
same [] (b ∷ t) = false
same (a ∷ s) [] = false
same (a ∷ s) (b ∷ t) = eqb a b && same s t

-- whether c occurs
unfoldable pub has : ℕ → List ℕ → Bool
has c [] = false
has c (b ∷ s) = eqb b c || has c s
