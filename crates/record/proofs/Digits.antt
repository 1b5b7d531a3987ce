-- Laws of one field as a number. Assumes nothing.
use Prim.Native.Nat.{ℕ, ◌+◌, ◌-◌, ◌*◌, ◌%◌, ◌^◌, ◌≤◌, ◌<◌}
use mathlib.Core.Path.{◌≡◌, refl, sym, ap, ◌∙◌, subst}
use mathlib.Core.Bool.{Bool, true, false, not, ◌&&◌, ◌||◌, and-false, and-eq-true_iff}
use mathlib.Core.List.{List, [], ◌∷◌}
use Rattle.std.specs.Prelude.{None, Some}
use native.Mathlib.Nat.{le_refl, le_trans, pow-succ', pow-le-pow_right, lt_of_lt_of_le}
use native.Mathlib.Numerals.{add-one}
use native.Mathlib.Omega.{arith}
use lib.ListN.{length, get_or, drop}
use lib.Seq.{drop-cons, drop-length}
use lib.Dec.{T, eqb, ltb}
use lib.Ieee.{binary64, of_bits}
use borrow.Author.Tests.{lt-ltb, le-ltb, le-leb, lt-leb, eq-eqb, ne_eqb, ltb-true, ltb-false}
use mir.Val.{bool_byte}
use Rattle.record.specs.Numbers.{digit, digits, value, led, number_of, whole_of, glyph}

-- ---- a digit by its tests

pub digit_below : (b : ℕ) → b < 48 → 16 ≡ digit b
unfolding digit
digit_below b h = simp (lt-leb 48 b h, lt-leb 65 b (omega arith))

pub digit_decimal : (b : ℕ) → 48 ≤ b → b < 58 → b - 48 ≡ digit b
unfolding digit
digit_decimal b h k = simp (le-leb 48 b h, le-leb b 57 (omega arith))

pub digit_between : (b : ℕ) → 58 ≤ b → b < 65 → 16 ≡ digit b
unfolding digit
digit_between b h k = simp (le-leb 48 b (omega arith), lt-leb b 57 (omega arith), lt-leb 65 b (omega arith))

pub digit_letter : (b : ℕ) → 65 ≤ b → b < 71 → b - 55 ≡ digit b
unfolding digit
digit_letter b h k = simp (le-leb 48 b (omega arith), lt-leb b 57 (omega arith), le-leb 65 b h, le-leb b 70 (omega arith))

pub digit_above : (b : ℕ) → 71 ≤ b → 16 ≡ digit b
unfolding digit
digit_above b h = simp (le-leb 48 b (omega arith), lt-leb b 57 (omega arith), le-leb 65 b (omega arith), lt-leb b 70 (omega arith))

or_no : (a b : Bool) → a || b ≡ false → (a ≡ false) × (b ≡ false)
or_no true b e = absurd (subst T e tt)
or_no false b e = (refl, e)

-- what the tests of the code say
pub tests_out : (b : ℕ) → ltb b 48 || ltb 70 b ≡ true → 16 ≡ digit b
tests_out b e = go (ltb b 48) refl e
  where
    go : (t : Bool) → ltb b 48 ≡ t → t || ltb 70 b ≡ true → 16 ≡ digit b
    go true q e = digit_below b (ltb-true b 48 q)
    go false q e = digit_above b (ltb-true 70 b e)

pub tests_low : (b : ℕ) → ltb b 48 || ltb 70 b ≡ false → 48 ≤ b
tests_low b e = ltb-false b 48 (or_no (ltb b 48) (ltb 70 b) e).0

tests_high : (b : ℕ) → ltb b 48 || ltb 70 b ≡ false → b ≤ 70
tests_high b e = ltb-false 70 b (or_no (ltb b 48) (ltb 70 b) e).1

pub tests_between : (b : ℕ) → ltb 57 b && ltb b 65 ≡ true → 16 ≡ digit b
tests_between b e = let h = (and-eq-true_iff (ltb 57 b) (ltb b 65)).0 e in digit_between b (ltb-true 57 b h.0) (ltb-true b 65 h.1)

pub letter_small : (t : Bool) → 7 * bool_byte t ≤ 7
letter_small true = omega arith
letter_small false = omega arith

pub letter_less : (b : ℕ) → ltb b 48 || ltb 70 b ≡ false → 7 * bool_byte (ltb 64 b) ≤ b - 48
letter_less b e = go (ltb 64 b) refl
  where
    go : (t : Bool) → ltb 64 b ≡ t → 7 * bool_byte t ≤ b - 48
    go true q = let h = ltb-true 64 b q in omega arith
    go false q = omega arith

pub tests_digit : (b : ℕ) → ltb b 48 || ltb 70 b ≡ false → ltb 57 b && ltb b 65 ≡ false → b - 48 - 7 * bool_byte (ltb 64 b) ≡ digit b
tests_digit b e f = go (ltb 57 b) refl f
  where
    go : (t : Bool) → ltb 57 b ≡ t → t && ltb b 65 ≡ false → b - 48 - 7 * bool_byte (ltb 64 b) ≡ digit b
    go true q f = let h : 65 ≤ b = ltb-false b 65 f in let k = tests_high b e in rw (lt-ltb 64 b h) ((omega arith) ∙ digit_letter b h (omega arith))
    go false q f = let h : b ≤ 57 = ltb-false 57 b q in let k = tests_low b e in rw (le-ltb 64 b (omega arith)) ((omega arith) ∙ digit_decimal b k (omega arith))

-- ---- the character of a digit: letters stand seven places after the digits

pub glyph_is : (d : ℕ) → 48 + d + 7 * bool_byte (ltb 9 d) ≡ glyph d
unfolding glyph
glyph_is d = go (ltb d 10) refl
  where
    go : (t : Bool) → ltb d 10 ≡ t → 48 + d + 7 * bool_byte (ltb 9 d) ≡ glyph d
    go true q = let h = ltb-true d 10 q in simp (q, le-ltb 9 d (omega arith)) (omega arith)
    go false q = let h = ltb-false d 10 q in simp (q, lt-ltb 9 d (omega arith)) (omega arith)

-- a digit is its own low digit
pub low_glyph : (d : ℕ) → d < 16 → glyph (d % 16) ≡ glyph d
low_glyph d h = ap glyph (omega arith)

-- ---- digits one after the other

pub value_step : (base n : ℕ) (s : List ℕ) (i : ℕ) → i < length s → value base n (drop i s) ≡ value base (base * n + digit (get_or s i 0)) (drop (i + 1) s)
unfolding value
value_step base n s i h = rw (add-one, drop-cons s i 0)

pub digits_step : (base : ℕ) (s : List ℕ) (i : ℕ) → i < length s → digits base (drop i s) ≡ ltb (digit (get_or s i 0)) base && digits base (drop (i + 1) s)
unfolding digits
digits_step base s i h = rw (add-one, drop-cons s i 0)

-- a byte that is no digit spoils all
pub digits_no : (base : ℕ) (s : List ℕ) (i d : ℕ) → i < length s → digits base (drop i s) ≡ digits base s → d ≡ digit (get_or s i 0) → base ≤ d → digits base s ≡ false
digits_no base s i d h e q k =
    sym e ∙ digits_step base s i h ∙ ap (λ (t : Bool). t && digits base (drop (i + 1) s)) (ap (λ (n : ℕ). ltb n base) (sym q) ∙ le-ltb d base k)

-- a byte that is a digit leaves the rest
pub digits_yes : (base : ℕ) (s : List ℕ) (i d : ℕ) → i < length s → digits base (drop i s) ≡ digits base s → d ≡ digit (get_or s i 0) → d < base → digits base (drop (i + 1) s) ≡ digits base s
digits_yes base s i d h e q k =
    sym (sym e ∙ digits_step base s i h ∙ ap (λ (t : Bool). t && digits base (drop (i + 1) s)) (ap (λ (n : ℕ). ltb n base) (sym q) ∙ lt-ltb d base k))

pub value_more : (base n : ℕ) (s : List ℕ) (i d : ℕ) → i < length s → value base n (drop i s) ≡ value base 0 s → d ≡ digit (get_or s i 0) → value base (base * n + d) (drop (i + 1) s) ≡ value base 0 s
value_more base n s i d h e q = ap (λ (k : ℕ). value base (base * n + k) (drop (i + 1) s)) q ∙ sym (value_step base n s i h) ∙ e

pub digits_all : (base : ℕ) (s : List ℕ) (i : ℕ) → i ≤ length s → length s ≤ i → digits base (drop i s) ≡ digits base s → digits base s ≡ true
unfolding digits
digits_all base s i h k e = let q : i ≡ length s = omega arith in sym e ∙ ap (λ (j : ℕ). digits base (drop j s)) q ∙ ap (digits base) (drop-length s)

pub value_all : (base n : ℕ) (s : List ℕ) (i : ℕ) → i ≤ length s → length s ≤ i → value base n (drop i s) ≡ value base 0 s → n ≡ value base 0 s
unfolding value
value_all base n s i h k e = let q : i ≡ length s = omega arith in sym (ap (λ (j : ℕ). value base n (drop j s)) q ∙ ap (value base n) (drop-length s)) ∙ e

-- digits after a number do not make it less
pub value_least : (n : ℕ) (s : List ℕ) → n ≤ value 10 n s
unfolding value
value_least n [] = le_refl n
value_least n (b ∷ s) = le_trans (omega arith) (value_least (10 * n + digit b) s)

-- ---- 16 hex digits fit

pub hex_room : (n d i : ℕ) → n < 16 ^ i → d < 16 → 16 * n + d < 16 ^ (i + 1)
hex_room n d i h k = let e : 16 ^ (i + 1) ≡ 16 * 16 ^ i = ap (λ (j : ℕ). 16 ^ j) (add-one i) ∙ pow-succ' 16 i in omega arith

pub hex_fits : (n d i : ℕ) → n < 16 ^ i → d < 16 → i < 16 → 16 * n + d < 18446744073709551616
hex_fits n d i h k l =
    let one : 0 < 16 = omega arith in
    let most : i + 1 ≤ 16 = omega arith in
    lt_of_lt_of_le (hex_room n d i h k) (pow-le-pow_right one most)

-- ---- the answers of the fields

pub number_short : (s : List ℕ) → (length s ≡ 16 → ⊥) → None ≡ number_of s
unfolding number_of
number_short s h = simp (ne_eqb (length s) 16 h)

pub number_bad : (s : List ℕ) → digits 16 s ≡ false → None ≡ number_of s
unfolding number_of
number_bad s e = simp (e, and-false)

pub number_good : (s : List ℕ) (n : ℕ) → length s ≡ 16 → digits 16 s ≡ true → n ≡ value 16 0 s → Some (of_bits binary64 n) ≡ number_of s
unfolding number_of
number_good s n l e q = simp (eq-eqb (length s) 16 l, e, q)

pub whole_unled : (s : List ℕ) → led s ≡ false → None ≡ whole_of s
unfolding whole_of
whole_unled s e = simp e

pub whole_bad : (s : List ℕ) → digits 10 s ≡ false → None ≡ whole_of s
unfolding whole_of
whole_bad s e = simp (e, and-false)

pub whole_large : (s : List ℕ) (n i : ℕ) → 4294967295 < n → value 10 n (drop i s) ≡ value 10 0 s → None ≡ whole_of s
unfolding whole_of
whole_large s n i h e = simp (lt-leb (value 10 0 s) 4294967295 (omega (arith, value_least n (drop i s))), and-false)

pub whole_good : (s : List ℕ) (n : ℕ) → led s ≡ true → digits 10 s ≡ true → n ≤ 4294967295 → n ≡ value 10 0 s → Some n ≡ whole_of s
unfolding whole_of
whole_good s n l e h q = simp (l, e, le-leb (value 10 0 s) 4294967295 (omega arith)) (ap Some q)

-- ---- the first digit

pub led_none : (s : List ℕ) → length s ≡ 0 → false ≡ led s
unfolding led
led_none [] h = refl
led_none (b ∷ s) h = absurd (omega arith)

pub led_one : (s : List ℕ) → length s ≡ 1 → true ≡ led s
unfolding led
led_one [] h = absurd (omega arith)
led_one (b ∷ []) h = refl
led_one (b ∷ c ∷ s) h = absurd (omega arith)

pub led_more : (s : List ℕ) → 2 ≤ length s → not (eqb (get_or s 0 0) 48) ≡ led s
unfolding led
led_more [] h = absurd (omega arith)
led_more (b ∷ []) h = absurd (omega arith)
led_more (b ∷ c ∷ s) h = refl
