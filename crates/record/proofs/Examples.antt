-- Records and inputs of document 01, "Records of the command program", computed by the definitions.
use Prim.Native.Nat.{ℕ}
use mathlib.Core.Path.{◌≡◌, refl}
use mathlib.Core.Bool.{true, false}
use mathlib.Core.List.{List, [], ◌∷◌, ◌++◌, zip_with}
use Rattle.std.specs.Prelude.{Option, None, Some}
use lib.IntN.{pos}
use lib.ListN.{replicate}
use lib.Ieee.{Float, fin, of_bits}
use Rattle.model.specs.Calls.{Call, Create, Insert, Delete, Clear, Ask, Len, Radius, Nearest}
use Rattle.record.specs.Text.{grow, split_step, split, same, has}
use Rattle.record.specs.Numbers.{digit, digits, value, led, number_of, whole_of}
use Rattle.record.specs.Commands.{word_quad, word_oct, word_insert, word_delete, word_range, word_knn, word_len, word_clear, word_of, floats_after, whole_after, numbers_of, call_of, fields_call, understood}
use Rattle.record.specs.Input.{strip, ended, unended, parts, mark, unmarked, begun, records}

-- ---- bytes
-- the hex digits of 0, 1, 3, 4 and 8 after their comma
abbrev x0 : List ℕ
x0 = 44 ∷ replicate 16 48

abbrev x1 : List ℕ
x1 = 44 ∷ 51 ∷ 70 ∷ 70 ∷ replicate 13 48

abbrev x3 : List ℕ
x3 = 44 ∷ 52 ∷ 48 ∷ 48 ∷ 56 ∷ replicate 12 48

abbrev x4 : List ℕ
x4 = 44 ∷ 52 ∷ 48 ∷ 49 ∷ replicate 13 48

abbrev x8 : List ℕ
x8 = 44 ∷ 52 ∷ 48 ∷ 50 ∷ replicate 13 48

-- 1 with lower-case digits
abbrev x1_lower : List ℕ
x1_lower = 44 ∷ 51 ∷ 102 ∷ 102 ∷ replicate 13 48

-- 4294967295 and one more
abbrev largest : List ℕ
largest = 44 ∷ 52 ∷ 50 ∷ 57 ∷ 52 ∷ 57 ∷ 54 ∷ 55 ∷ 50 ∷ 57 ∷ 53 ∷ []

abbrev too_large : List ℕ
too_large = 44 ∷ 52 ∷ 50 ∷ 57 ∷ 52 ∷ 57 ∷ 54 ∷ 55 ∷ 50 ∷ 57 ∷ 54 ∷ []

abbrev crlf : List ℕ
crlf = 13 ∷ 10 ∷ []

-- ---- floats
abbrev zero : Float
zero = fin false 0 (pos 0)

abbrev one : Float
one = fin false 1 (pos 0)

abbrev three : Float
three = fin false 3 (pos 0)

abbrev four : Float
four = fin false 1 (pos 2)

abbrev eight : Float
eight = fin false 1 (pos 3)

-- ---- one record

abbrev quad : List ℕ → Option Call
quad = understood word_quad 2

abbrev oct : List ℕ → Option Call
oct = understood word_oct 3

understood_records :
    (quad (word_quad ++ x0 ++ x0 ++ x8 ++ x8 ++ 44 ∷ 49 ∷ []) ≡ Some (Create (record { corner = zero; extent = eight } ∷ record { corner = zero; extent = eight } ∷ []) 1))
    × (quad (word_insert ++ x4 ++ x1 ++ 44 ∷ 48 ∷ []) ≡ Some (Insert (record { at = four ∷ one ∷ []; payload = 0 })))
    × (quad (word_knn ++ x4 ++ x1 ++ largest) ≡ Some (Ask (Nearest (four ∷ one ∷ []) 4294967295 512)))
    × (quad word_clear ≡ Some Clear)
    × (oct (word_range ++ x4 ++ x1 ++ x0 ++ x3) ≡ Some (Ask (Radius (four ∷ one ∷ zero ∷ []) three 512)))
unfolding understood fields_call word_of floats_after whole_after numbers_of call_of zip_with split split_step grow has same number_of whole_of digits digit value led of_bits
understood_records = (refl, refl, refl, refl, refl)

-- lower-case hex, a leading zero, one too large, a quote, a field too many and too few, an empty record, an upper-case word, the other program's word
refused_records :
    (quad (word_insert ++ x4 ++ x1_lower ++ 44 ∷ 55 ∷ []) ≡ None)
    × (quad (word_insert ++ x4 ++ x1 ++ 44 ∷ 48 ∷ 55 ∷ []) ≡ None)
    × (quad (word_knn ++ x4 ++ x1 ++ too_large) ≡ None)
    × (quad (34 ∷ word_len ++ 34 ∷ []) ≡ None)
    × (quad (word_len ++ 44 ∷ []) ≡ None)
    × (quad (word_insert ++ x4 ++ x1) ≡ None)
    × (quad [] ≡ None)
    × (quad (76 ∷ 101 ∷ 110 ∷ []) ≡ None)
    × (oct (word_quad ++ x0 ++ x0 ++ x0 ++ x8 ++ x8 ++ x8 ++ 44 ∷ 49 ∷ []) ≡ None)
unfolding understood fields_call word_of floats_after whole_after numbers_of call_of zip_with split split_step grow has same number_of whole_of digits digit value led of_bits
refused_records = (refl, refl, refl, refl, refl, refl, refl, refl, refl)

-- ---- an input

-- the document's own input
document :
    records quad true
    (word_quad ++ x0 ++ x0 ++ x8 ++ x8 ++ 44 ∷ 49 ∷ 10 ∷ word_insert ++ x4 ++ x1 ++ 44 ∷ 55 ∷ 10 ∷ word_insert ++ x1 ++ x1 ++ 44 ∷ 57 ∷ 10 ∷ word_range ++ x4 ++ x1 ++ x3 ++ 10 ∷ word_delete ++ x4 ++ x1 ++ 44 ∷ 56 ∷ 10 ∷ word_len ++ 10 ∷ [])
    ≡ Some (Create (record { corner = zero; extent = eight } ∷ record { corner = zero; extent = eight } ∷ []) 1)
    ∷ Some (Insert (record { at = four ∷ one ∷ []; payload = 7 }))
    ∷ Some (Insert (record { at = one ∷ one ∷ []; payload = 9 }))
    ∷ Some (Ask (Radius (four ∷ one ∷ []) three 512))
    ∷ Some (Delete (record { at = four ∷ one ∷ []; payload = 8 }))
    ∷ Some (Ask Len)
    ∷ []
unfolding understood fields_call word_of floats_after whole_after numbers_of call_of zip_with split split_step grow has same number_of whole_of digits digit value led of_bits records parts begun unmarked ended unended strip
document = refl

-- no input; the mark alone, half of it, before a record, and later; no line end; an empty line; one carriage return belongs to the line end, two do not
ends :
    (records quad true [] ≡ [])
    × (records quad true mark ≡ [])
    × (records quad true (239 ∷ 187 ∷ []) ≡ None ∷ [])
    × (records quad true (mark ++ word_len ++ crlf ++ word_clear) ≡ Some (Ask Len) ∷ None ∷ [])
    × (records quad true (word_len ++ 10 ∷ mark ++ word_len ++ 10 ∷ []) ≡ Some (Ask Len) ∷ None ∷ [])
    × (records quad true (mark ++ mark ++ word_len ++ 10 ∷ []) ≡ None ∷ [])
    × (records quad true (10 ∷ word_len ++ 10 ∷ []) ≡ None ∷ Some (Ask Len) ∷ [])
    × (records quad true (word_len ++ 13 ∷ crlf) ≡ None ∷ [])
    × (records quad true (word_len ++ 13 ∷ word_len ++ 10 ∷ []) ≡ None ∷ [])
    × (records quad true (word_len ++ 13 ∷ []) ≡ None ∷ [])
unfolding understood fields_call word_of floats_after whole_after numbers_of call_of zip_with split split_step grow has same number_of whole_of digits digit value led of_bits records parts begun unmarked ended unended strip
ends = (refl, refl, refl, refl, refl, refl, refl, refl, refl, refl)

-- 128 bytes before either line end, after the mark or not, and 129
lengths :
    (records (λ s. Some Clear) true (replicate 128 97 ++ 10 ∷ []) ≡ Some Clear ∷ [])
    × (records (λ s. Some Clear) true (replicate 128 97 ++ crlf) ≡ Some Clear ∷ [])
    × (records (λ s. Some Clear) true (mark ++ replicate 128 97 ++ crlf) ≡ Some Clear ∷ [])
    × (records (λ s. Some Clear) true (replicate 129 97 ++ 10 ∷ []) ≡ None ∷ [])
    × (records (λ s. Some Clear) true (replicate 129 97 ++ crlf ++ 10 ∷ []) ≡ None ∷ Some Clear ∷ [])
unfolding understood fields_call word_of floats_after whole_after numbers_of call_of zip_with split split_step grow has same number_of whole_of digits digit value led of_bits records parts begun unmarked ended unended strip
lengths = (refl, refl, refl, refl, refl)
