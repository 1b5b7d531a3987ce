-- What is asked, and the answer: the definitions of the model at the numbers of a line. Definitions only.
use Rattle.std.specs.Prelude.{ℕ, ◌+◌, ◌/◌, ◌%◌, Bool, true, false, cond, ◌&&◌, eqb, ltb, Float, length, get_or, drop, None, Some}
use mathlib.Core.List.{List, [], ◌∷◌, replicate}
use Rattle.std.specs.Float.{binary64, nan}
use Rattle.std.specs.Float.Ieee.{of_bits}
use Rattle.std.proofs.lemmas.List.Edits.{sets}
use Rattle.floats.specs.Next.{next_up}
use Rattle.floats.specs.Span.{span}
use Rattle.model.specs.Boxes.{Side, inside, meets, same_place, mid, route, part, squared, axis_distance, node_distance, side}
use Rattle.record.specs.Text.{split, same}
use Rattle.record.specs.Commands.{numbers_of}
use Rattle.record.specs.Read.{rest}
use Rattle.geometry_answers.specs.Shown.{Said, number, yes, child, boxed, unknown}

-- ---- words, as bytes
abbrev pub word_next : List ℕ
word_next = 110 ∷ 101 ∷ 120 ∷ 116 ∷ []

abbrev pub word_span : List ℕ
word_span = 115 ∷ 112 ∷ 97 ∷ 110 ∷ []

abbrev pub word_mid : List ℕ
word_mid = 109 ∷ 105 ∷ 100 ∷ []

abbrev pub word_axis : List ℕ
word_axis = 97 ∷ 120 ∷ 105 ∷ 115 ∷ []

abbrev pub word_inside2 : List ℕ
word_inside2 = 105 ∷ 110 ∷ 115 ∷ 105 ∷ 100 ∷ 101 ∷ 50 ∷ []

abbrev pub word_route2 : List ℕ
word_route2 = 114 ∷ 111 ∷ 117 ∷ 116 ∷ 101 ∷ 50 ∷ []

abbrev pub word_node2 : List ℕ
word_node2 = 110 ∷ 111 ∷ 100 ∷ 101 ∷ 50 ∷ []

abbrev pub word_squared2 : List ℕ
word_squared2 = 115 ∷ 113 ∷ 117 ∷ 97 ∷ 114 ∷ 101 ∷ 100 ∷ 50 ∷ []

abbrev pub word_same2 : List ℕ
word_same2 = 115 ∷ 97 ∷ 109 ∷ 101 ∷ 50 ∷ []

abbrev pub word_meets2 : List ℕ
word_meets2 = 109 ∷ 101 ∷ 101 ∷ 116 ∷ 115 ∷ 50 ∷ []

abbrev pub word_inside3 : List ℕ
word_inside3 = 105 ∷ 110 ∷ 115 ∷ 105 ∷ 100 ∷ 101 ∷ 51 ∷ []

abbrev pub word_route3 : List ℕ
word_route3 = 114 ∷ 111 ∷ 117 ∷ 116 ∷ 101 ∷ 51 ∷ []

abbrev pub word_node3 : List ℕ
word_node3 = 110 ∷ 111 ∷ 100 ∷ 101 ∷ 51 ∷ []

abbrev pub word_squared3 : List ℕ
word_squared3 = 115 ∷ 113 ∷ 117 ∷ 97 ∷ 114 ∷ 101 ∷ 100 ∷ 51 ∷ []

abbrev pub word_same3 : List ℕ
word_same3 = 115 ∷ 97 ∷ 109 ∷ 101 ∷ 51 ∷ []

abbrev pub word_meets3 : List ℕ
word_meets3 = 109 ∷ 101 ∷ 101 ∷ 116 ∷ 115 ∷ 51 ∷ []

abbrev pub word_part2 : List ℕ
word_part2 = 112 ∷ 97 ∷ 114 ∷ 116 ∷ 50 ∷ []

abbrev pub word_part3 : List ℕ
word_part3 = 112 ∷ 97 ∷ 114 ∷ 116 ∷ 51 ∷ []

-- ---- places and boxes among the numbers, from number k on
abbrev pub at : List Float → ℕ → Float
at v k = get_or v k nan

abbrev pub place2 : List Float → ℕ → List Float
place2 v k = at v k ∷ at v (k + 1) ∷ []

abbrev pub box2 : List Float → ℕ → List Side
box2 v k = side (at v k) (at v (k + 2)) ∷ side (at v (k + 1)) (at v (k + 3)) ∷ []

abbrev pub place3 : List Float → ℕ → List Float
place3 v k = at v k ∷ at v (k + 1) ∷ at v (k + 2) ∷ []

abbrev pub box3 : List Float → ℕ → List Side
box3 v k = side (at v k) (at v (k + 3)) ∷ side (at v (k + 1)) (at v (k + 4)) ∷ side (at v (k + 2)) (at v (k + 5)) ∷ []

-- ---- questions: a word, how many numbers stand after it, and what is answered to them
pub record Question : Type 0 where
  pub word : List ℕ
  pub count : ℕ
  pub says : List Float → Said

abbrev pub asks : List ℕ → ℕ → (List Float → Said) → Question
asks w n f = record { word = w; count = n; says = f }

-- one axis, two axes, three axes
unfoldable pub questions : List Question
questions =
    asks word_next 1 (λ v. number (next_up binary64 (at v 0)))
    ∷ asks word_span 2 (λ v. number (span binary64 (at v 0) (at v 1)))
    ∷ asks word_mid 2 (λ v. number (mid (side (at v 0) (at v 1))))
    ∷ asks word_axis 3 (λ v. number (axis_distance (side (at v 1) (at v 2)) (at v 0)))
    ∷ asks word_inside2 6 (λ v. yes (inside (box2 v 0) (place2 v 4)))
    ∷ asks word_route2 6 (λ v. child (route (box2 v 0) (place2 v 4)))
    ∷ asks word_node2 6 (λ v. number (node_distance (box2 v 0) (place2 v 4)))
    ∷ asks word_meets2 8 (λ v. yes (meets (box2 v 0) (box2 v 4)))
    ∷ asks word_squared2 4 (λ v. number (squared (place2 v 0) (place2 v 2)))
    ∷ asks word_same2 4 (λ v. yes (same_place (place2 v 0) (place2 v 2)))
    ∷ asks word_inside3 9 (λ v. yes (inside (box3 v 0) (place3 v 6)))
    ∷ asks word_route3 9 (λ v. child (route (box3 v 0) (place3 v 6)))
    ∷ asks word_node3 9 (λ v. number (node_distance (box3 v 0) (place3 v 6)))
    ∷ asks word_meets3 12 (λ v. yes (meets (box3 v 0) (box3 v 6)))
    ∷ asks word_squared3 6 (λ v. number (squared (place3 v 0) (place3 v 3)))
    ∷ asks word_same3 6 (λ v. yes (same_place (place3 v 0) (place3 v 3)))
    ∷ []

-- with a child's number: its box
unfoldable pub parts : (i : ℕ) → List Question
parts i = asks word_part2 4 (λ v. boxed (part (box2 v 0) i)) ∷ asks word_part3 6 (λ v. boxed (part (box3 v 0) i)) ∷ []

abbrev pub table : (child : Bool) (i : ℕ) → List Question
table true i = parts i
table false i = questions

-- what is answered to a word with n numbers, by the first question that it is
unfoldable pub answer : List Question → ℕ → List ℕ → List Float → Said
unfolding same
answer [] n w v = unknown
answer (q ∷ qs) n w v = cond (eqb n q.count && same w q.word) (q.says v) (answer qs n w v)

-- ---- lines
-- The numbers stand at the front of 12 places; no question asks for more than there are.
abbrev pub places : List Float
places = replicate {A = Float} 12 (of_bits binary64 0)

-- what is answered to a word and what stands after it. A float takes 17 bytes with its comma; what is left after the floats is a comma and a child's number
unfoldable pub told : List ℕ → List ℕ → Said
unfolding numbers_of rest questions parts answer
told w s =
    elim (numbers_of (length s / 17) (ltb 0 (length s % 17)) (rest s)) [
      | None ↦ unknown
      | Some m ↦ answer (table (ltb 0 (length s % 17)) m.whole) (length s / 17) w (sets places 0 m.floats)
    ]

-- the word is the first field
unfoldable pub asked : List ℕ → Said
unfolding told split
asked s = told (get_or (split 44 s) 0 []) (drop (length (get_or (split 44 s) 0 [])) s)
