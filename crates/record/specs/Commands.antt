-- What a record says: document 01, "Records of the command program". Definitions only, for either program: they differ in the word that makes a tree and in
-- the number of axes.
use Rattle.std.specs.Prelude.{ℕ, zero, suc, ◌+◌, ◌*◌, Bool, true, false, cond, get_or, take, drop, Float, Option, None, Some, option_map, option_and_then}
use mathlib.Core.List.{List, [], ◌∷◌, zip_with}
use Rattle.std.specs.Float.{nan}
use Rattle.model.specs.Calls.{Call, Create, Insert, Delete, Clear, Ask, Contains, Len, Radius, Box, Nearest}
use Rattle.record.specs.Text.{split, same, has}
use Rattle.record.specs.Numbers.{number_of, whole_of}
use Rattle.record.specs.declared.Word.{Word}

-- ---- words
-- "by exact lower-case word", as bytes
abbrev pub word_quad : List ℕ
word_quad = 113 ∷ 117 ∷ 97 ∷ 100 ∷ []

abbrev pub word_oct : List ℕ
word_oct = 111 ∷ 99 ∷ 116 ∷ []

abbrev pub word_insert : List ℕ
word_insert = 105 ∷ 110 ∷ 115 ∷ 101 ∷ 114 ∷ 116 ∷ []

abbrev pub word_delete : List ℕ
word_delete = 100 ∷ 101 ∷ 108 ∷ 101 ∷ 116 ∷ 101 ∷ []

abbrev pub word_contains : List ℕ
word_contains = 99 ∷ 111 ∷ 110 ∷ 116 ∷ 97 ∷ 105 ∷ 110 ∷ 115 ∷ []

abbrev pub word_range : List ℕ
word_range = 114 ∷ 97 ∷ 110 ∷ 103 ∷ 101 ∷ []

abbrev pub word_knn : List ℕ
word_knn = 107 ∷ 110 ∷ 110 ∷ []

abbrev pub word_box : List ℕ
word_box = 98 ∷ 111 ∷ 120 ∷ []

abbrev pub word_len : List ℕ
word_len = 108 ∷ 101 ∷ 110 ∷ []

abbrev pub word_clear : List ℕ
word_clear = 99 ∷ 108 ∷ 101 ∷ 97 ∷ 114 ∷ []

-- the word of a first field, if it is one; `made` is the one that makes a tree
unfoldable pub word_of : (made : List ℕ) → List ℕ → Option Word
unfolding same
word_of made w =
    cond (same w word_insert) (Some Word.Insert)
    (cond (same w word_delete) (Some Word.Delete)
    (cond (same w word_contains) (Some Word.Contains)
    (cond (same w word_range) (Some Word.Range)
    (cond (same w word_knn) (Some Word.Knn)
    (cond (same w word_box) (Some Word.Box)
    (cond (same w word_len) (Some Word.Len)
    (cond (same w word_clear) (Some Word.Clear)
    (cond (same w made) (Some Word.Create) None))))))))

-- ---- numbers
-- "quad (x,y,width,height,capacity), insert and delete and contains (x,y,payload), range (x,y,radius), knn (x,y,k), box (x,y,width,height), len, clear. The
-- octree's program has oct for quad and z after y, depth after height.": how many floats stand after the word, and whether a whole number after them
unfoldable pub floats_after : (axes : ℕ) → Word → ℕ
floats_after axes Word.Create = 2 * axes
floats_after axes Word.Insert = axes
floats_after axes Word.Delete = axes
floats_after axes Word.Contains = axes
floats_after axes Word.Range = axes + 1
floats_after axes Word.Knn = axes
floats_after axes Word.Box = 2 * axes
floats_after axes Word.Len = 0
floats_after axes Word.Clear = 0

unfoldable pub whole_after : Word → Bool
whole_after Word.Create = true
whole_after Word.Insert = true
whole_after Word.Delete = true
whole_after Word.Contains = true
whole_after Word.Range = false
whole_after Word.Knn = true
whole_after Word.Box = false
whole_after Word.Len = false
whole_after Word.Clear = false

pub record Numbers : Type 0 where
  pub floats : List Float
  pub whole : ℕ

-- exactly so many fields that are floats and, where one is due, one that is a whole number
unfoldable pub numbers_of : ℕ → Bool → List (List ℕ) → Option Numbers
unfolding number_of whole_of
numbers_of zero false [] = Some (record { floats = []; whole = 0 })
numbers_of zero false (f ∷ fs) = None
numbers_of zero true [] = None
numbers_of zero true (f ∷ []) = elim (whole_of f) [ None ↦ None | Some n ↦ Some (record { floats = []; whole = n }) ]
numbers_of zero true (f ∷ g ∷ fs) = None
numbers_of (suc n) w [] = None
numbers_of (suc n) w (f ∷ fs) =
    elim (number_of f) [ None ↦ None | Some x ↦ elim (numbers_of n w fs) [ None ↦ None | Some m ↦ Some (record { floats = x ∷ m.floats; whole = m.whole }) ] ]

-- ---- commands
-- the call of a word and its numbers. A search is lent places for as many points as a tree can hold
unfoldable pub call_of : (axes : ℕ) → Word → Numbers → Call
call_of axes Word.Create m = Create (zip_with (λ c e. record { corner = c; extent = e }) (take axes m.floats) (drop axes m.floats)) m.whole
call_of axes Word.Insert m = Insert (record { at = m.floats; payload = m.whole })
call_of axes Word.Delete m = Delete (record { at = m.floats; payload = m.whole })
call_of axes Word.Contains m = Ask (Contains (record { at = m.floats; payload = m.whole }))
call_of axes Word.Range m = Ask (Radius (take axes m.floats) (get_or m.floats axes nan) 512)
call_of axes Word.Knn m = Ask (Nearest m.floats m.whole 512)
call_of axes Word.Box m = Ask (Box (zip_with (λ c e. record { corner = c; extent = e }) (take axes m.floats) (drop axes m.floats)) 512)
call_of axes Word.Len m = Ask Len
call_of axes Word.Clear m = Clear

unfoldable pub fields_call : (made : List ℕ) (axes : ℕ) → List (List ℕ) → Option Call
unfolding word_of numbers_of call_of
fields_call made axes [] = None
fields_call made axes (w ∷ fs) = option_and_then (λ v. option_map (call_of axes v) (numbers_of (floats_after axes v) (whole_after v) fs)) (word_of made w)

-- "RFC 4180 fields, comma-separated", "Each record becomes one command that carries its numbers.", "A double quote is answered 9.": the call of a record, given
-- without its line end, or none where it is not understood
unfoldable pub understood : (made : List ℕ) (axes : ℕ) → List ℕ → Option Call
unfolding fields_call
understood made axes s = cond (has 34 s) None (fields_call made axes (split 44 s))
