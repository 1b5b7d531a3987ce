-- What is printed is read back as the same number. Assumes that a float is one of binary64, and that a whole number has at most 32 bits.
use Prim.Native.Nat.{ℕ, zero, suc, ◌+◌, ◌*◌, ◌/◌, ◌%◌, ◌^◌, ◌≤◌, ◌<◌}
use mathlib.Core.Path.{◌≡◌, refl, sym, ap, ◌∙◌, subst}
use mathlib.Core.Bool.{Bool, true, false, cond, ◌&&◌, and-true, and_assoc}
use mathlib.Core.List.{List, [], ◌∷◌, ◌++◌}
use Rattle.std.specs.Prelude.{Some}
use native.Mathlib.Nat.{mod-lt, div-add-mod', div-lt_iff_lt-mul, mul_comm, pow-succ', pow-zero, not-suc-le-zero}
use native.Mathlib.Omega.{arith}
use lib.ListN.{length, get_or, length-append, get_or-append}
use lib.Dec.{T, ltb}
use lib.Ieee.{Float, binary64, to_bits, of_bits, fits}
use lib.Ieee.Bits.{of_bits-to_bits, to_bits-lt}
use borrow.Author.Tests.{lt-ltb, le-ltb, ltb-true, ltb-false, ne_eqb}
use Rattle.record.specs.Numbers.{digit, digits, value, led, number_of, whole_of, glyph, spelt, places, decimal, hex}
use Rattle.record.proofs.Digits.{digit_decimal, digit_letter, number_good, whole_good, led_one}
use Rattle.record.proofs.Parts.{by_lt}

-- ---- digits

glyph_low : (d : ℕ) → d < 10 → 48 + d ≡ glyph d
unfolding glyph
glyph_low d h = simp (lt-ltb d 10 h)

glyph_high : (d : ℕ) → 10 ≤ d → 55 + d ≡ glyph d
unfolding glyph
glyph_high d h = simp (le-ltb d 10 h)

digit_glyph : (d : ℕ) → d < 16 → digit (glyph d) ≡ d
digit_glyph d h =
    by_lt d 10 (λ l. ap digit (sym (glyph_low d l)) ∙ sym (digit_decimal (48 + d) (omega arith) (omega arith)) ∙ omega arith)
    (λ l. ap digit (sym (glyph_high d l)) ∙ sym (digit_letter (55 + d) (omega arith) (omega arith)) ∙ omega arith)

value_snoc : (base n : ℕ) (xs : List ℕ) (b : ℕ) → value base n (xs ++ (b ∷ [])) ≡ base * value base n xs + digit b
unfolding value
value_snoc base n [] b = refl
value_snoc base n (x ∷ xs) b = value_snoc base (base * n + digit x) xs b

digits_snoc : (base : ℕ) (xs : List ℕ) (b : ℕ) → digits base (xs ++ (b ∷ [])) ≡ digits base xs && ltb (digit b) base
unfolding digits
digits_snoc base [] b = and-true _
digits_snoc base (x ∷ xs) b = ap (λ (t : Bool). ltb (digit x) base && t) (digits_snoc base xs b) ∙ sym (and_assoc (ltb (digit x) base) (digits base xs) (ltb (digit b) base))

pub spelt_length : (base k n : ℕ) → length (spelt base k n) ≡ k
unfolding spelt
spelt_length base zero n = refl
spelt_length base (suc k) n = omega (arith, length-append (spelt base k (n / base)) (glyph (n % base) ∷ []), spelt_length base k (n / base))

spelt_digits : (base k n : ℕ) → 0 < base → base ≤ 16 → digits base (spelt base k n) ≡ true
unfolding spelt digits
spelt_digits base zero n p q = refl
spelt_digits base (suc k) n p q =
    let m : n % base < base = mod-lt n p in
    digits_snoc base (spelt base k (n / base)) (glyph (n % base))
    ∙ simp (spelt_digits base k (n / base) p q, digit_glyph (n % base) (omega arith), lt-ltb (n % base) base m)

-- the digits of a number that fits are worth the number
spelt_value : (base k n : ℕ) → 0 < base → base ≤ 16 → n < base ^ k → value base 0 (spelt base k n) ≡ n
unfolding spelt value
spelt_value base zero n p q h = let e = pow-zero base in omega arith
spelt_value base (suc k) n p q h =
    let m : n % base < base = mod-lt n p in
    let e : base ^ suc k ≡ base ^ k * base = pow-succ' base k ∙ mul_comm base (base ^ k) in
    let l : n < base ^ k * base = subst (λ (x : ℕ). n < x) e h in
    value_snoc base 0 (spelt base k (n / base)) (glyph (n % base))
    ∙ ap (λ (v : ℕ). base * v + digit (glyph (n % base))) (spelt_value base k (n / base) p q ((div-lt_iff_lt-mul p).1 l))
    ∙ ap (λ (v : ℕ). base * (n / base) + v) (digit_glyph (n % base) (omega arith))
    ∙ ap (λ (v : ℕ). v + n % base) (mul_comm base (n / base))
    ∙ div-add-mod' n base

-- 16 hex digits of any 64 bits are read as the float with those bits
bits_round : (n : ℕ) → n < 18446744073709551616 → number_of (spelt 16 16 n) ≡ Some (of_bits binary64 n)
bits_round n h =
    sym (number_good (spelt 16 16 n) n (spelt_length 16 16 n) (spelt_digits 16 16 n (omega arith) (omega arith)) (sym (spelt_value 16 16 n (omega arith) (omega arith) h)))

-- a float that is printed is read as the same float
pub hex_round : (x : Float) → T (fits binary64 x) → number_of (hex x) ≡ Some x
unfolding hex
hex_round x f = bits_round (to_bits binary64 x) (to_bits-lt binary64 x f) ∙ ap Some (of_bits-to_bits binary64 x f)

-- ---- no leading zero

first_glyph : (k n : ℕ) → 10 ^ k ≤ n → n < 10 ^ suc k → get_or (spelt 10 (suc k) n) 0 0 ≡ 48 → ⊥
unfolding spelt
first_glyph zero n a b e =
    let l : n < 10 = b in
    let g : 1 ≤ n = a in
    let z : 48 + n % 10 ≡ 48 = glyph_low (n % 10) (omega arith) ∙ e in
    omega arith
first_glyph (suc k) n a b e =
    let p = pow-succ' 10 k in
    let q = pow-succ' 10 (suc k) in
    first_glyph k (n / 10) (omega arith) (omega arith)
    (sym (get_or-append (spelt 10 (suc k) (n / 10)) (glyph (n % 10) ∷ []) 0 0 (omega (arith, spelt_length 10 (suc k) (n / 10)))) ∙ e)

led_first : (s : List ℕ) → 1 ≤ length s → (get_or s 0 0 ≡ 48 → ⊥) → led s ≡ true
unfolding led
led_first [] h f = absurd (not-suc-le-zero h)
led_first (b ∷ []) h f = refl
led_first (b ∷ c ∷ s) h f = simp (ne_eqb b 48 f)

led_one_place : (n : ℕ) → led (spelt 10 1 n) ≡ true
led_one_place n = sym (led_one (spelt 10 1 n) (spelt_length 10 1 n))

led_places : (k n : ℕ) → 10 ^ k ≤ n → n < 10 ^ suc k → led (spelt 10 (suc k) n) ≡ true
led_places k n a b = led_first (spelt 10 (suc k) n) (omega (arith, spelt_length 10 (suc k) n)) (first_glyph k n a b)

-- n is worth p decimal digits, and the first of them leads
record Placed (n p : ℕ) : Type 0 where
  below : n < 10 ^ p
  leads : led (spelt 10 p n) ≡ true

-- one test of how many there are
placed_by : (n p q : ℕ) → (n < 10 ^ p → led (spelt 10 p n) ≡ true) → (10 ^ p ≤ n → Placed n q) → Placed n (cond (ltb n (10 ^ p)) p q)
placed_by n p q f g = go (ltb n (10 ^ p)) refl
  where
    go : (t : Bool) → ltb n (10 ^ p) ≡ t → Placed n (cond t p q)
    go true e = record { below = ltb-true n (10 ^ p) e; leads = f (ltb-true n (10 ^ p) e) }
    go false e = g (ltb-false n (10 ^ p) e)

placed : (n : ℕ) → n ≤ 4294967295 → Placed n (places n)
unfolding places
placed n h =
    placed_by n 1 _ (λ l. led_one_place n) (λ g.
    placed_by n 2 _ (led_places 1 n g) (λ g.
    placed_by n 3 _ (led_places 2 n g) (λ g.
    placed_by n 4 _ (led_places 3 n g) (λ g.
    placed_by n 5 _ (led_places 4 n g) (λ g.
    placed_by n 6 _ (led_places 5 n g) (λ g.
    placed_by n 7 _ (led_places 6 n g) (λ g.
    placed_by n 8 _ (led_places 7 n g) (λ g.
    placed_by n 9 _ (led_places 8 n g) (λ g.
    record { below = omega arith; leads = led_places 9 n g (omega arith) })))))))))

-- a whole number that is printed is read as the same number
pub whole_round : (n : ℕ) → n ≤ 4294967295 → whole_of (decimal n) ≡ Some n
unfolding decimal
whole_round n h =
    let p = placed n h in
    sym (whole_good (spelt 10 (places n) n) n p.leads (spelt_digits 10 (places n) n (omega arith) (omega arith)) h (sym (spelt_value 10 (places n) n (omega arith) (omega arith) p.below)))
