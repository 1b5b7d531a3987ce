-- Laws of a line: its word, its numbers, and what is answered. Assumes nothing.
use Prim.Native.Nat.{ℕ, ◌-◌, ◌/◌, ◌%◌, ◌≤◌, ◌<◌}
use mathlib.Core.Path.{◌≡◌, refl, sym, ap, ◌∙◌, subst}
use mathlib.Core.Bool.{Bool, true, false}
use mathlib.Core.List.{List, []}
use Rattle.std.specs.Prelude.{Option, None, Some}
use native.Mathlib.Omega.{arith}
use lib.Dec.{eqb, ltb}
use lib.Ieee.{Float}
use lib.ListN.{length, get_or, take, drop, length-drop}
use lib.Seq.{sets, length-take-le}
use borrow.Author.Tests.{ne_eqb}
use Rattle.record.specs.Text.{split}
use Rattle.record.specs.Commands.{Numbers, numbers_of}
use Rattle.record.specs.Read.{Reads, rest}
use Rattle.record.proofs.Parts.{rest_is, split_rest}
use Rattle.record.proofs.Reading.{array_read, numbers_not, numbers_read}
use Rattle.geometry_answers.specs.Shown.{Said, unknown}
use Rattle.geometry_questions.specs.Asked.{answer, asked, parts, places, questions, table, told}

-- what is answered to the numbers, if there are any
by_numbers : (child : Bool) (n : ℕ) (w : List ℕ) → Option Numbers → Said
by_numbers child n w None = unknown
by_numbers child n w (Some m) = answer (table child m.whole) n w (sets places 0 m.floats)

by_cases : (child : Bool) (n : ℕ) (w : List ℕ) (o : Option Numbers) → by_numbers child n w o ≡ elim o as (λ z. Said) [ None ↦ unknown | Some m ↦ answer (table child m.whole) n w (sets places 0 m.floats) ]
unfolding by_numbers
by_cases child n w None = refl
by_cases child n w (Some m) = refl

told_by : (child : Bool) (w s : List ℕ) → child ≡ ltb 0 (length s % 17) → by_numbers child (length s / 17) w (numbers_of (length s / 17) child (rest s)) ≡ told w s
unfolding told
told_by child w s e =
    subst (λ (t : Bool). by_numbers t (length s / 17) w (numbers_of (length s / 17) t (rest s)) ≡ told w s) (sym e)
    (by_cases (ltb 0 (length s % 17)) (length s / 17) w (numbers_of (length s / 17) (ltb 0 (length s % 17)) (rest s)))

-- no question has so many numbers
none_asks : (child : Bool) (n : ℕ) (w : List ℕ) (v : List Float) (i : ℕ) → ((k : ℕ) → 1 ≤ k → k ≤ 12 → eqb n k ≡ false) → unknown ≡ answer (table child i) n w v
unfolding answer questions parts
none_asks true n w v i h = simp (h 4 (omega arith) (omega arith), h 6 (omega arith) (omega arith))
none_asks false n w v i h = simp (h 1 (omega arith) (omega arith), h 2 (omega arith) (omega arith), h 3 (omega arith) (omega arith), h 4 (omega arith) (omega arith), h 6 (omega arith) (omega arith), h 8 (omega arith) (omega arith), h 9 (omega arith) (omega arith), h 12 (omega arith) (omega arith))

-- the line as it is cut at its first comma
module _ (s : List ℕ) (e : ℕ) (within : e ≤ length s) (first : (k : ℕ) → k < e → get_or s k 0 ≡ 44 → ⊥) (found : e < length s → get_or s e 0 ≡ 44) where
  cut : told (take e s) (drop e s) ≡ asked s
  unfolding asked
  cut =
      let w : get_or (split 44 s) 0 [] ≡ take e s = ap (λ (l : List (List ℕ)). get_or l 0 []) (split_rest s e within first found) in
      let n : length (take e s) ≡ e = length-take-le e s within in
      sym (ap (λ (u : List ℕ). told u (drop (length u) s)) w ∙ ap (λ (k : ℕ). told (take e s) (drop k s)) n)

  behind : length (drop e s) ≡ length s - e
  behind = length-drop e s

  -- what is answered to the numbers that stand behind the comma
  heard : (child : Bool) → child ≡ ltb 0 ((length s - e) % 17) → by_numbers child ((length s - e) / 17) (take e s) (numbers_of ((length s - e) / 17) child (rest (drop e s))) ≡ asked s
  heard child h =
      ap (λ (m : ℕ). by_numbers child (m / 17) (take e s) (numbers_of (m / 17) child (rest (drop e s)))) (sym behind)
      ∙ told_by child (take e s) (drop e s) (h ∙ ap (λ (m : ℕ). ltb 0 (m % 17)) (sym behind)) ∙ cut

  have : (child : Bool) (count : ℕ) (r k : Option ℕ) (v : List Float) → Reads count child (rest (take (length s - e) (drop e s))) r places v → count ≡ (length s - e) / 17 → r ≡ k → Reads ((length s - e) / 17) child (rest (drop e s)) k places v
  have child count r k v g c q =
      subst (λ (t : Option ℕ). Reads ((length s - e) / 17) child (rest (drop e s)) t places v) q
      (subst (λ (t : List ℕ). Reads ((length s - e) / 17) child (rest t) r places v) (rest_is s e) (subst (λ (m : ℕ). Reads m child (rest (take (length s - e) (drop e s))) r places v) c g))

  pub ask_value : (child : Bool) (count : ℕ) (r : Option ℕ) (v : List Float) (k : ℕ) → child ≡ ltb 0 ((length s - e) % 17) → Reads count child (rest (take (length s - e) (drop e s))) r places v → count ≤ 12 → count ≡ (length s - e) / 17 → r ≡ Some k → answer (table child k) ((length s - e) / 17) (take e s) v ≡ asked s
  unfolding by_numbers
  ask_value child count r v k h g room c q =
      ap (λ (l : List Float). answer (table child k) n (take e s) l) (array_read n child fs places v small (Some k) read)
      ∙ ap (by_numbers child n (take e s)) (sym (numbers_read n child fs places v small k read)) ∙ heard child h
    where
      n : ℕ
      n = (length s - e) / 17

      fs : List (List ℕ)
      fs = rest (drop e s)

      small : n ≤ 12
      small = omega (arith, c, room)

      read : Reads n child fs (Some k) places v
      read = have child count r (Some k) v g c q

  pub ask_not : (child : Bool) (count : ℕ) (r : Option ℕ) (v : List Float) → child ≡ ltb 0 ((length s - e) % 17) → Reads count child (rest (take (length s - e) (drop e s))) r places v → count ≤ 12 → count ≡ (length s - e) / 17 → r ≡ None → unknown ≡ asked s
  unfolding by_numbers
  ask_not child count r v h g room c q =
      ap (by_numbers child ((length s - e) / 17) (take e s)) (sym (numbers_not ((length s - e) / 17) child (rest (drop e s)) places v (omega (arith, c, room)) (have child count r None v g c q)))
      ∙ heard child h

  pub ask_none : ((k : ℕ) → 1 ≤ k → k ≤ 12 → (length s - e) / 17 ≡ k → ⊥) → unknown ≡ asked s
  unfolding by_numbers
  ask_none h = go (numbers_of n t (rest (drop e s))) ∙ heard t refl
    where
      n : ℕ
      n = (length s - e) / 17

      t : Bool
      t = ltb 0 ((length s - e) % 17)

      go : (o : Option Numbers) → unknown ≡ by_numbers t n (take e s) o
      go None = refl
      go (Some m) = none_asks t n (take e s) (sets places 0 m.floats) m.whole (λ k a b. ne_eqb n k (h k a b))
