-- Laws of what is written: digits, floats one after the other, and a line. Assumes nothing.
use Prim.Native.Nat.{ℕ, suc, ◌+◌, ◌*◌, ◌≤◌, ◌<◌}
use mathlib.Core.Path.{◌≡◌, refl, sym, ap, ◌∙◌}
use mathlib.Core.Bool.{Bool, true, false, cond}
use mathlib.Core.List.{List, [], ◌∷◌, ◌++◌}
use native.Mathlib.Numerals.{add-one}
use native.Mathlib.Omega.{arith}
use lib.Ieee.{Float, binary64, nan, to_bits}
use lib.ListN.{length, get_or, set, drop, length-append, length-drop, drop_of_length-le}
use lib.Seq.{sets, drop-cons, length-sets}
use mir.Val.{bool_byte}
use borrow.Author.Tests.{lt-ltb, le-ltb}
use Rattle.std.specs.Prelude.{Option, None, Some}
use Rattle.record.proofs.Parts.{by_lt}
use Rattle.record.proofs.Round.{spelt_length}
use Rattle.record.specs.Numbers.{spelt, hex}
use Rattle.geometry_answers.specs.Shown.{Said, Floats, Mark, yes, boxed, said_in, fields, shown, line}
use Rattle.geometry_answers.specs.declared.Answer.{Answer}
use Rattle.geometry_answers.specs.declared.Answer.TheVariants as answer

-- ---- one character
pub byte_small : (t : Bool) → bool_byte t ≤ 1
byte_small true = omega arith
byte_small false = omega arith

yes_is : (t : Bool) → 48 + bool_byte t ≡ cond t 49 48
yes_is true = refl
yes_is false = refl

-- ---- floats one after the other
sets_append : (l m o : List ℕ) (n : ℕ) → sets o n (l ++ m) ≡ sets (sets o n l) (n + length l) m
sets_append [] m o n = ap (λ (j : ℕ). sets o j m) {x = n} {y = n + 0} (omega arith)
sets_append (p ∷ l) m o n = sets_append l m (set o n p) (suc n) ∙ ap (λ (j : ℕ). sets (sets (set o n p) (suc n) l) j m) {x = suc n + length l} {y = n + suc (length l)} (omega arith)

-- digits, and a byte after them
pub number_put : (x : Float) (b : ℕ) (o o' : List ℕ) (at bits : ℕ) → bits ≡ to_bits binary64 x → o' ≡ sets o at (spelt 16 16 bits) → set o' (at + 16) b ≡ sets o at (hex x ++ (b ∷ []))
unfolding hex
number_put x b o o' at bits e f =
    ap (λ (l : List ℕ). set l (at + 16) b) (f ∙ ap (λ (k : ℕ). sets o at (spelt 16 16 k)) e)
    ∙ ap (λ (k : ℕ). set (sets o at (spelt 16 16 (to_bits binary64 x))) (at + k) b) (sym (spelt_length 16 16 (to_bits binary64 x)))
    ∙ sym (sets_append (spelt 16 16 (to_bits binary64 x)) (b ∷ []) o at)

put_length : (x : Float) (b : ℕ) → length (hex x ++ (b ∷ [])) ≡ 17
unfolding hex
put_length x b = omega (arith, length-append (spelt 16 16 (to_bits binary64 x)) (b ∷ []), spelt_length 16 16 (to_bits binary64 x))

-- ---- the loop over the numbers, of which i are written
number_then : (x : Float) (l : List Float) (end : ℕ) (o : List ℕ) (at : ℕ) → (0 < length l → end ≡ 44) → (length l ≤ 0 → end ≡ 10) → sets (sets o at (hex x ++ (end ∷ []))) (at + 17) (fields l) ≡ sets o at (fields (x ∷ l))
unfolding fields
number_then x [] end o at e f = ap (λ (b : ℕ). sets o at (hex x ++ (b ∷ []))) (f (omega arith))
number_then x (y ∷ l) end o at e f =
    ap (λ (b : ℕ). sets (sets o at (hex x ++ (b ∷ []))) (at + 17) (fields (y ∷ l))) (e (omega arith))
    ∙ ap (λ (k : ℕ). sets (sets o at (hex x ++ (44 ∷ []))) (at + k) (fields (y ∷ l))) (sym (put_length x 44))
    ∙ sym (sets_append (hex x ++ (44 ∷ [])) (fields (y ∷ l)) o at)

pub numbers_step : (l : List Float) (i end : ℕ) (o o' o₀ : List ℕ) → i < length l → (i + 1 < length l → end ≡ 44) × (length l ≤ i + 1 → end ≡ 10) → o' ≡ sets o (17 * i) (hex (get_or l i nan) ++ (end ∷ [])) → sets o (17 * i) (fields (drop i l)) ≡ sets o₀ 0 (fields l)
    → sets o' (17 * (i + 1)) (fields (drop (i + 1) l)) ≡ sets o₀ 0 (fields l)
numbers_step l i end o o' o₀ h e w q =
    ap (λ (u : List ℕ). sets u (17 * (i + 1)) (fields (drop (i + 1) l))) w
    ∙ ap (λ (k : ℕ). sets (sets o (17 * i) (hex (get_or l i nan) ++ (end ∷ []))) k (fields (drop (i + 1) l))) {x = 17 * (i + 1)} {y = 17 * i + 17} (omega arith)
    ∙ number_then (get_or l i nan) (drop (i + 1) l) end o (17 * i) (λ k. e.0 (omega (arith, k, length-drop (i + 1) l))) (λ k. e.1 (omega (arith, k, length-drop (i + 1) l)))
    ∙ ap (λ (m : List Float). sets o (17 * i) (fields m)) (ap (λ (k : ℕ). get_or l i nan ∷ drop k l) (add-one i) ∙ sym (drop-cons l i nan h)) ∙ q

pub numbers_none : (l : List Float) (i : ℕ) (o : List ℕ) → length l ≤ i → sets o (17 * i) (fields (drop i l)) ≡ o
unfolding fields
numbers_none l i o h = rw (drop_of_length-le l h)

pub fields_length : (x : Float) (l : List Float) → length (fields (x ∷ l)) ≡ 17 + 17 * length l
unfolding fields
fields_length x [] = put_length x 10
fields_length x (y ∷ l) = omega (arith, length-append (hex x ++ (44 ∷ [])) (fields (y ∷ l)), put_length x 44, fields_length y l)

pub yes_line : (t : Bool) (o o' : List ℕ) → o' ≡ sets o 0 ((48 + bool_byte t) ∷ 10 ∷ []) → o' ≡ sets o 0 (shown (yes t))
unfolding shown
yes_line t o o' e = e ∙ ap (λ (b : ℕ). sets o 0 (b ∷ 10 ∷ [])) (yes_is t)

pub numbers_length : (l : List Float) → length (shown (Floats l)) ≡ 17 * length l
unfolding shown fields
numbers_length [] = refl
numbers_length (x ∷ l) = omega (arith, fields_length x l)

-- ---- a line
line_none : (o : List ℕ) (s : Said) → length o < 128 → line o s ≡ []
unfolding line
line_none o s h = simp (lt-ltb (length o) 128 h)

line_is : (o : List ℕ) (s : Said) → 128 ≤ length o → line o s ≡ shown s
unfolding line
line_is o s h = simp (le-ltb (length o) 128 h)

pub line_none_written : (o : List ℕ) (s : Said) → length o < 128 → (o ≡ sets o 0 (line o s)) × (0 ≡ length (line o s))
line_none_written o s h = (ap (λ (t : List ℕ). sets o 0 t) (sym (line_none o s h)), ap (λ (t : List ℕ). length t) (sym (line_none o s h)))

pub line_written : (o o' : List ℕ) (a b : Option Answer) (r : ℕ) → a ≡ b → 128 ≤ length o → o' ≡ sets o 0 (shown (said_in b)) → r ≡ length (shown (said_in b)) → (o' ≡ sets o 0 (line o (said_in a))) × (r ≡ length (line o (said_in a)))
line_written o o' a b r q h e f =
    let k : shown (said_in b) ≡ line o (said_in a) = ap (λ (x : Option Answer). shown (said_in x)) (sym q) ∙ sym (line_is o (said_in a) h) in
    (e ∙ ap (λ (t : List ℕ). sets o 0 t) k, f ∙ ap (λ (t : List ℕ). length t) k)

mark_short : (b : ℕ) → length (shown (Mark b)) ≤ 128
unfolding shown
mark_short b = omega arith

shown_short : (a : Option Answer) → length (shown (said_in a)) ≤ 128
unfolding said_in boxed
shown_short None = mark_short 63
shown_short (Some (answer.Number x)) = omega (arith, numbers_length (x ∷ []))
shown_short (Some (answer.Yes t)) = mark_short _
shown_short (Some (answer.Child i)) = mark_short _
shown_short (Some (answer.Quadrant r)) = omega (arith, numbers_length (r.x ∷ r.y ∷ r.width ∷ r.height ∷ []))
shown_short (Some (answer.Octant c)) = omega (arith, numbers_length (c.x ∷ c.y ∷ c.z ∷ c.width ∷ c.height ∷ c.depth ∷ []))

-- no line is longer than the bytes
pub line_fits : (o o' : List ℕ) (a : Option Answer) (r : ℕ) → o' ≡ sets o 0 (line o (said_in a)) → r ≡ length (line o (said_in a)) → r ≤ length o'
line_fits o o' a r e f =
    let k : length o' ≡ length o = ap (λ (t : List ℕ). length t) e ∙ length-sets o 0 (line o (said_in a)) in
    by_lt (length o) 128
    (λ h. let z : length (line o (said_in a)) ≡ 0 = ap (λ (t : List ℕ). length t) (line_none o (said_in a) h) in omega (arith, f, z))
    (λ h. let z : length (line o (said_in a)) ≡ length (shown (said_in a)) = ap (λ (t : List ℕ). length t) (line_is o (said_in a) h) in omega (arith, f, z, k, h, shown_short a))
