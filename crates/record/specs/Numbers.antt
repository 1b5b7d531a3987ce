-- The numbers of a record, read and printed: document 01, "Records of the command program". Definitions only.
use Rattle.std.specs.Prelude.{ℕ, zero, suc, ◌+◌, ◌-◌, ◌*◌, ◌/◌, ◌%◌, Bool, true, false, not, cond, ◌&&◌, List, [], ◌∷◌, ◌++◌, length, eqb, ltb, leb, Float, Option, None, Some}
use Rattle.std.specs.Float.{binary64}
use Rattle.std.specs.Float.Ieee.{of_bits, to_bits}

-- ---- read
-- what a byte is worth as an upper-case digit, and 16 where it is none
unfoldable pub digit : ℕ → ℕ
digit b =
    cond (leb 48 b && leb b 57) (b - 48)
    (cond (leb 65 b && leb b 70) (b - 55) 16)

-- whether every byte is a digit of the base
unfoldable pub digits : ℕ → List ℕ → Bool
unfolding digit
digits base [] = true
digits base (b ∷ s) = ltb (digit b) base && digits base s

-- the number that n and the digits after it make
unfoldable pub value : ℕ → ℕ → List ℕ → ℕ
unfolding digit
value base n [] = n
value base n (b ∷ s) = value base (base * n + digit b) s

-- "Floats are 16 upper-case hex digits of their binary64 bits."
unfoldable pub number_of : List ℕ → Option Float
unfolding digits value
number_of s = cond (eqb (length s) 16 && digits 16 s) (Some (of_bits binary64 (value 16 0 s))) None

-- "no leading zero except 0 itself": one digit, or more of which the first is not 0
unfoldable pub led : List ℕ → Bool
led [] = false
led (b ∷ []) = true
led (b ∷ c ∷ s) = not (eqb b 48)

-- "Whole numbers are decimal, no leading zero except 0 itself, at most 4294967295."
unfoldable pub whole_of : List ℕ → Option ℕ
unfolding digits value led
whole_of s = cond (led s && (digits 10 s && leb (value 10 0 s) 4294967295)) (Some (value 10 0 s)) None

-- ---- printed
-- the character of a digit below 16, in upper case
unfoldable pub glyph : ℕ → ℕ
glyph d = cond (ltb d 10) (48 + d) (55 + d)

-- the last k digits of n, the most significant first
unfoldable pub spelt : ℕ → ℕ → ℕ → List ℕ
unfolding glyph
spelt base zero n = []
spelt base (suc k) n = spelt base k (n / base) ++ (glyph (n % base) ∷ [])

-- how many decimal digits a number below 10000000000 has
unfoldable pub places : ℕ → ℕ
places n =
    cond (ltb n 10) 1 (cond (ltb n 100) 2 (cond (ltb n 1000) 3 (cond (ltb n 10000) 4 (cond (ltb n 100000) 5
    (cond (ltb n 1000000) 6 (cond (ltb n 10000000) 7 (cond (ltb n 100000000) 8 (cond (ltb n 1000000000) 9 10))))))))

-- a whole number below 10000000000 in decimal, with no leading zero
unfoldable pub decimal : ℕ → List ℕ
unfolding spelt places
decimal n = spelt 10 (places n) n

-- the 16 hex digits of a float's bits
unfoldable pub hex : Float → List ℕ
unfolding spelt
hex x = spelt 16 16 (to_bits binary64 x)
