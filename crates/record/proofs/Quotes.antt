-- A double quote leaves no field understood, so that the code need not look for one. Assumes that the word that makes a tree has none.
use Prim.Native.Nat.{ℕ, zero, suc, ◌≤◌, ◌<◌}
use mathlib.Core.Path.{◌≡◌, refl, sym, ap, ◌∙◌, subst}
use mathlib.Core.Bool.{Bool, true, false, cond, ◌||◌}
use mathlib.Core.List.{List, [], ◌∷◌}
use Rattle.std.specs.Prelude.{Option, None, Some, option_map, option_and_then}
use native.Mathlib.Omega.{arith}
use lib.ListN.{length, get_or, take, drop}
use lib.Dec.{T, eqb}
use lib.Ieee.{Float}
use borrow.Author.Tests.{eqb-true}
use Rattle.model.specs.Calls.{Call}
use Rattle.record.specs.Text.{grow, split_step, split, same, has}
use Rattle.record.specs.Numbers.{digit, number_of, whole_of}
use Rattle.record.specs.Commands.{word_of, floats_after, whole_after, numbers_of, call_of, fields_call, understood, word_oct, word_quad, word_insert, word_delete, word_contains, word_range, word_knn, word_box, word_len, word_clear}
use Rattle.record.specs.Read.{rest}
use Rattle.record.specs.declared.Word.{Word}
use Rattle.record.proofs.Digits.{number_bad, whole_bad}
use Rattle.record.proofs.Parts.{is_no, same_eq, split_rest}
use Rattle.record.proofs.Words.{no_word}
use Rattle.record.proofs.Reading.{by_or, no, digits_without, more, numbers_step, numbers_bad}

-- whether a field has a quote
quoted : List (List ℕ) → Bool
quoted [] = false
quoted (p ∷ ps) = has 34 p || quoted ps

or_assoc : (a b c : Bool) → a || b || c ≡ a || (b || c)
or_assoc true b c = refl
or_assoc false b c = refl

quoted_grow : (b : ℕ) (ps : List (List ℕ)) → quoted (grow b ps) ≡ eqb b 34 || quoted ps
unfolding quoted grow has
quoted_grow b [] = or_assoc (eqb b 34) false false
quoted_grow b (p ∷ ps) = or_assoc (eqb b 34) (has 34 p) (quoted ps)

quoted_step : (t : Bool) (b : ℕ) (ps : List (List ℕ)) → eqb b 44 ≡ t → quoted (split_step t b ps) ≡ eqb b 34 || quoted ps
unfolding split_step quoted has
quoted_step true b ps e = let q : b ≡ 44 = eqb-true b 44 e in sym (ap (λ (k : ℕ). eqb k 34 || quoted ps) q)
quoted_step false b ps e = quoted_grow b ps

quoted_split : (s : List ℕ) → quoted (split 44 s) ≡ has 34 s
unfolding split quoted has
quoted_split [] = refl
quoted_split (b ∷ s) = quoted_step (eqb b 44) b (split 44 s) refl ∙ ap (λ (t : Bool). eqb b 34 || t) (quoted_split s)

-- ---- a field with a quote

quote : digit 34 ≡ 16
unfolding digit
quote = refl

number_quote : (s : List ℕ) → has 34 s ≡ true → number_of s ≡ None
number_quote s e = sym (number_bad s (digits_without 16 34 (omega arith) quote s e))

whole_quote : (s : List ℕ) → has 34 s ≡ true → whole_of s ≡ None
whole_quote s e = sym (whole_bad s (digits_without 10 34 (omega arith) quote s e))

same_quote : (s w : List ℕ) → has 34 s ≡ true → has 34 w ≡ false → same s w ≡ false
same_quote s w e f = is_no (same s w) (λ q. subst T (sym e ∙ ap (has 34) (same_eq s w q) ∙ f) tt)

word_quote : (made w : List ℕ) → has 34 made ≡ false → has 34 w ≡ true → None ≡ word_of made w
unfolding has
word_quote made w m e =
    no_word made w record {
      insert = same_quote w word_insert e refl;
      delete = same_quote w word_delete e refl;
      contains = same_quote w word_contains e refl;
      range = same_quote w word_range e refl;
      knn = same_quote w word_knn e refl;
      box = same_quote w word_box e refl;
      len = same_quote w word_len e refl;
      clear = same_quote w word_clear e refl;
    } (same_quote w made e m)

-- ---- no call of it

whole_not : (f : List ℕ) → whole_of f ≡ None → None ≡ numbers_of 0 true (f ∷ [])
unfolding numbers_of
whole_not f e = rw (e, numbers_of)

numbers_quote : (n : ℕ) (due : Bool) (fs : List (List ℕ)) → quoted fs ≡ true → None ≡ numbers_of n due fs
unfolding quoted numbers_of more
numbers_quote zero false [] e = no e
numbers_quote zero false (f ∷ fs) e = refl
numbers_quote zero true [] e = refl
numbers_quote zero true (f ∷ []) e = by_or (has 34 f) false e (λ q. whole_not f (whole_quote f q)) no
numbers_quote zero true (f ∷ g ∷ fs) e = refl
numbers_quote (suc n) due [] e = refl
numbers_quote (suc n) due (f ∷ fs) e =
    by_or (has 34 f) (quoted fs) e
    (λ q. numbers_bad n due f fs (number_quote f q))
    (λ q. go (numbers_quote n due fs q) (number_of f) refl)
  where
    go : None ≡ numbers_of n due fs → (o : Option Float) → number_of f ≡ o → None ≡ numbers_of (suc n) due (f ∷ fs)
    go q None p = numbers_bad n due f fs p
    go q (Some x) p = ap (more x) q ∙ numbers_step n due f fs x p

-- the call of a word and the fields after it
abbrev pub worded : ℕ → List (List ℕ) → Word → Option Call
worded axes fs v = option_map (call_of axes v) (numbers_of (floats_after axes v) (whole_after v) fs)

worded_quote : (axes : ℕ) (fs : List (List ℕ)) → quoted fs ≡ true → (o : Option Word) → None ≡ option_and_then (worded axes fs) o
worded_quote axes fs q None = refl
worded_quote axes fs q (Some v) = ap (option_map (call_of axes v)) (numbers_quote (floats_after axes v) (whole_after v) fs q)

call_quote : (made : List ℕ) (axes : ℕ) → has 34 made ≡ false → (fs : List (List ℕ)) → quoted fs ≡ true → None ≡ fields_call made axes fs
unfolding quoted fields_call
call_quote made axes m [] e = no e
call_quote made axes m (w ∷ fs) e =
    by_or (has 34 w) (quoted fs) e
    (λ q. ap (option_and_then (worded axes fs)) (word_quote made w m q))
    (λ q. worded_quote axes fs q (word_of made w))

-- the call of a record is that of its fields, quote or not
pub understood_is : (made : List ℕ) (axes : ℕ) (s : List ℕ) → has 34 made ≡ false → understood made axes s ≡ fields_call made axes (split 44 s)
unfolding understood
understood_is made axes s m = go (has 34 s) refl
  where
    go : (t : Bool) → has 34 s ≡ t → cond t None (fields_call made axes (split 44 s)) ≡ fields_call made axes (split 44 s)
    go true e = call_quote made axes m (split 44 s) (quoted_split s ∙ e)
    go false e = refl

-- the call of a record that is cut at its first comma
pub understood_cut : (made : List ℕ) (axes : ℕ) (s : List ℕ) (e : ℕ) → has 34 made ≡ false → e ≤ length s → ((k : ℕ) → k < e → get_or s k 0 ≡ 44 → ⊥) → (e < length s → get_or s e 0 ≡ 44)
    → understood made axes s ≡ option_and_then (worded axes (rest (drop e s))) (word_of made (take e s))
unfolding fields_call
understood_cut made axes s e m h f g = understood_is made axes s m ∙ ap (fields_call made axes) (split_rest s e h f g)

-- the words that make a tree have no quote
pub plain_quad : has 34 word_quad ≡ false
unfolding has
plain_quad = refl

pub plain_oct : has 34 word_oct ≡ false
unfolding has
plain_oct = refl
