-- The call of a record, from what the code reads of it: a word, and numbers in an array.
use Prim.Native.Nat.{ℕ, zero, suc, ◌-◌, ◌*◌, ◌≤◌, ◌<◌}
use mathlib.Core.Path.{◌≡◌, sym, ap, ◌∙◌, subst}
use mathlib.Core.Bool.{false}
use mathlib.Core.List.{List, [], ◌∷◌}
use Rattle.std.specs.Prelude.{Option, None, Some, option_map, option_and_then}
use native.Mathlib.Omega.{arith}
use lib.Ieee.{Float}
use lib.ListN.{length, get_or, take, drop}
use Rattle.record.specs.Text.{has}
use Rattle.record.specs.Commands.{call_of, floats_after, understood, whole_after, word_of}
use Rattle.record.specs.Read.{Reads, rest}
use Rattle.record.specs.declared.Word.{Word}
use Rattle.record.proofs.Parts.{rest_is}
use Rattle.record.proofs.Quotes.{understood_cut, worded}
use Rattle.record.proofs.Reading.{numbers_not, numbers_value}

-- a property of every list of n elements, by its elements
abbrev pub Spread : {A : Type 0} → ℕ → (List A → Type 0) → Type 0
Spread zero P = P []
Spread {A} (suc n) P = (a : A) → Spread n (λ l. P (a ∷ l))

pub spread : {A : Type 0} (n : ℕ) (P : List A → Type 0) → Spread n P → (l : List A) → length l ≡ n → P l
spread zero P f [] e = f
spread zero P f (a ∷ l) e = absurd (omega arith)
spread (suc n) P f [] e = absurd (omega arith)
spread {A} (suc n) P f (a ∷ l) e = spread n (λ (m : List A). P (a ∷ m)) (f a) l (omega arith)

module _ (made : List ℕ) (axes : ℕ) (s : List ℕ) (e : ℕ) (plain : has 34 made ≡ false) (within : e ≤ length s) (first : (k : ℕ) → k < e → get_or s k 0 ≡ 44 → ⊥) (found : e < length s → get_or s e 0 ≡ 44) where
  -- the call by the word that was read
  said : (o : Option Word) → o ≡ word_of made (take e s) → option_and_then (worded axes (rest (drop e s))) o ≡ understood made axes s
  said o word = ap (option_and_then (worded axes (rest (drop e s)))) word ∙ sym (understood_cut made axes s e plain within first found)

  -- the first field is no word
  pub said_other : None ≡ word_of made (take e s) → None ≡ understood made axes s
  said_other word = said None word

  module _ (w : Word) (r : Option ℕ) (before after : List Float) (word : Some w ≡ word_of made (take e s)) (room : floats_after axes w ≤ length before) (read : Reads (floats_after axes w) (whole_after w) (rest (take (length s - e) (drop e s))) r before after) where
    have : (k : Option ℕ) → r ≡ k → Reads (floats_after axes w) (whole_after w) (rest (drop e s)) k before after
    have k er =
        subst (λ (q : Option ℕ). Reads (floats_after axes w) (whole_after w) (rest (drop e s)) q before after) er
        (subst (λ (t : List ℕ). Reads (floats_after axes w) (whole_after w) (rest t) r before after) (rest_is s e) read)

    pub said_value : (v : Word) (k : ℕ) → w ≡ v → r ≡ Some k → Some (call_of axes v (record { floats = take (floats_after axes v) after; whole = k })) ≡ understood made axes s
    said_value v k ev er =
        subst (λ (z : Word). Some (call_of axes z (record { floats = take (floats_after axes z) after; whole = k })) ≡ understood made axes s) ev
        (sym (ap (option_map (call_of axes w)) (numbers_value (floats_after axes w) (whole_after w) (rest (drop e s)) before after room k (have (Some k) er))) ∙ said (Some w) word)

    pub said_not : r ≡ None → None ≡ understood made axes s
    said_not er = sym (ap (option_map (call_of axes w)) (numbers_not (floats_after axes w) (whole_after w) (rest (drop e s)) before after room (have None er))) ∙ said (Some w) word

-- an array with two floats for each axis has room for every word's
pub floats_few : (axes : ℕ) (w : Word) → 1 ≤ axes → floats_after axes w ≤ 2 * axes
unfolding floats_after
floats_few axes Word.Create h = omega arith
floats_few axes Word.Insert h = omega arith
floats_few axes Word.Delete h = omega arith
floats_few axes Word.Contains h = omega arith
floats_few axes Word.Range h = omega arith
floats_few axes Word.Knn h = omega arith
floats_few axes Word.Box h = omega arith
floats_few axes Word.Len h = omega arith
floats_few axes Word.Clear h = omega arith
