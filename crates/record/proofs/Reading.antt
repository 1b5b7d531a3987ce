-- Laws of the numbers after a word, as the code reads them: floats in steps of 17 bytes, and the last field whole. Assumes nothing.
use Prim.Native.Nat.{ℕ, zero, suc, ◌+◌, ◌-◌, ◌≤◌, ◌<◌, suc-le-suc}
use mathlib.Core.Path.{◌≡◌, refl, sym, ap, ap₂, ◌∙◌, subst}
use mathlib.Core.Bool.{Bool, true, false, cond, ◌&&◌, ◌||◌, and-false}
use mathlib.Core.List.{List, [], ◌∷◌, ◌++◌}
use Rattle.std.specs.Prelude.{Option, None, Some}
use native.Mathlib.Nat.{not-suc-le-zero, le_of_suc-le-suc}
use native.Mathlib.Numerals.{add-one}
use native.Mathlib.Omega.{arith}
use lib.ListN.{length, get_or, take, drop, set, length-drop, length-set}
use Rattle.std.proofs.lemmas.List.{set-append_left, set-get_or, take-append-drop}
use lib.Seq.{sets, get_or-drop, get_or-take, length-take-le}
use lib.Dec.{T, eqb}
use lib.Ieee.{Float, binary64, nan, of_bits}
use lib.Ieee.Bits.{of_bits-fits}
use borrow.Author.Tests.{eq-eqb, eqb-true, eqb-false, le-leb, le-ltb, lt-leb}
use Rattle.floats.proofs.Theorems.{F64}
use Rattle.model.specs.Soundness.{All}
use Rattle.record.specs.Text.{split, has}
use Rattle.record.specs.Numbers.{digit, digits, number_of, value, whole_of}
use Rattle.record.specs.Commands.{Numbers, numbers_of}
use Rattle.record.specs.Read.{read_up, readable, rest, whole_among, Reads}
use Rattle.record.proofs.Digits.{number_short, number_bad, whole_bad}
use Rattle.record.proofs.Kept.{kept_front}
use Rattle.record.proofs.Parts.{by_lt, rest_is, split_found, split_none, split_some, split_rest}

-- ---- bytes that are no digits

pub by_or : {A : Type 0} (a b : Bool) → a || b ≡ true → (a ≡ true → A) → (b ≡ true → A) → A
by_or true b e f g = f refl
by_or false b e f g = g e

pub digits_without : (base c : ℕ) → base ≤ 16 → digit c ≡ 16 → (s : List ℕ) → has c s ≡ true → digits base s ≡ false
unfolding has digits
digits_without base c h d [] e = sym e
digits_without base c h d (b ∷ s) e =
    by_or (eqb b c) (has c s) e
    (λ q. let z : digit b ≡ 16 = ap digit (eqb-true b c q) ∙ d in simp (le-ltb (digit b) base (omega arith)))
    (λ q. simp (digits_without base c h d s q, and-false))

or_true : (a : Bool) → a || true ≡ true
or_true true = refl
or_true false = refl

has_at : (c : ℕ) (s : List ℕ) (i : ℕ) → i < length s → get_or s i 0 ≡ c → has c s ≡ true
unfolding has
has_at c [] i h e = absurd (not-suc-le-zero h)
has_at c (b ∷ s) zero h e = simp (eq-eqb b c e)
has_at c (b ∷ s) (suc i) h e = simp (has_at c s i (le_of_suc-le-suc h) e, or_true)

comma : digit 44 ≡ 16
unfolding digit
comma = refl

-- ---- the first comma

record Cut (t : List ℕ) : Type 0 where
  e : ℕ
  within : e ≤ length t
  before : (k : ℕ) → k < e → get_or t k 0 ≡ 44 → ⊥
  found : e < length t → get_or t e 0 ≡ 44

cut : (t : List ℕ) → Cut t
cut [] = record { e = 0; within = omega arith; before = λ k h. absurd (not-suc-le-zero h); found = λ h. absurd (not-suc-le-zero h) }
cut (b ∷ t) = go (eqb b 44) refl (cut t)
  where
    go : (q : Bool) → eqb b 44 ≡ q → Cut t → Cut (b ∷ t)
    go true q c = record { e = 0; within = omega arith; before = λ k h. absurd (not-suc-le-zero h); found = λ h. eqb-true b 44 q }
    go false q c = record { e = suc c.e; within = suc-le-suc c.within; before = later; found = λ h. c.found (le_of_suc-le-suc h) }
      where
        later : (k : ℕ) → k < suc c.e → get_or (b ∷ t) k 0 ≡ 44 → ⊥
        later zero h = eqb-false b 44 q
        later (suc k) h = c.before k (le_of_suc-le-suc h)

split_cut : (t : List ℕ) (c : Cut t) → split 44 t ≡ take c.e t ∷ rest (drop c.e t)
split_cut t c = split_rest t c.e c.within c.before c.found

first_cut : (t : List ℕ) (c : Cut t) → get_or (split 44 t) 0 [] ≡ take c.e t
first_cut t c = ap (λ (ps : List (List ℕ)). get_or ps 0 []) (split_cut t c)

-- ---- a float

number_length : (s : List ℕ) (x : Float) → number_of s ≡ Some x → length s ≡ 16
number_length s x e = go (eqb (length s) 16) refl
  where
    not : None ≡ Some x → ⊥
    not q = let z : ◌≡◌ {A = ℕ} 0 1 = cc in omega arith

    go : (t : Bool) → eqb (length s) 16 ≡ t → length s ≡ 16
    go true q = eqb-true (length s) 16 q
    go false q = absurd (not (number_short s (eqb-false (length s) 16 q) ∙ e))

first_not : (t : List ℕ) (c : Cut t) → (c.e ≡ 16 → ⊥) → None ≡ number_of (get_or (split 44 t) 0 [])
first_not t c h = number_short (take c.e t) (λ l. h (sym (length-take-le c.e t c.within) ∙ l)) ∙ ap number_of (sym (first_cut t c))

pub first_short : (t : List ℕ) → length t < 16 → None ≡ number_of (get_or (split 44 t) 0 [])
first_short t h = let c = cut t in first_not t c (λ e. omega (arith, c.within))

first_long : (t : List ℕ) → 16 < length t → (get_or t 16 0 ≡ 44 → ⊥) → None ≡ number_of (get_or (split 44 t) 0 [])
first_long t h f = let c = cut t in first_not t c (λ e. f (ap (λ (k : ℕ). get_or t k 0) (sym e) ∙ c.found (omega arith)))

first_even : (t : List ℕ) → 16 ≤ length t → (16 < length t → get_or t 16 0 ≡ 44) → number_of (take 16 t) ≡ number_of (get_or (split 44 t) 0 [])
first_even t h f = go (cut t)
  where
    go : Cut t → number_of (take 16 t) ≡ number_of (get_or (split 44 t) 0 [])
    go c =
        by_lt c.e 16
        (λ l. sym (number_bad (take 16 t) (digits_without 16 44 (omega arith) comma (take 16 t) (has_at 44 (take 16 t) c.e (omega (arith, length-take-le 16 t h)) (get_or-take 16 t c.e 0 l ∙ c.found (omega arith)))))
        ∙ first_not t c (λ e. omega arith))
        (λ l. by_lt 16 c.e
        (λ m. absurd (c.before 16 m (f (omega (arith, c.within)))))
        (λ m. ap number_of (ap (λ (k : ℕ). take k t) {x = 16} {y = c.e} (omega arith) ∙ sym (first_cut t c))))

-- by what stands after 16 bytes
pub first_other : (t others : List ℕ) → others ≡ drop 16 t → 1 ≤ length others → (get_or others 0 0 ≡ 44 → ⊥) → None ≡ number_of (get_or (split 44 t) 0 [])
first_other t others e h f = first_long t (omega (arith, h, ap length e, length-drop 16 t)) (λ q. f (ap (λ (u : List ℕ). get_or u 0 0) e ∙ get_or-drop 16 t 0 0 ∙ q))

pub first_float : (t float others : List ℕ) (o : Option Float) → o ≡ number_of float → 16 ≤ length t → float ≡ take 16 t → others ≡ drop 16 t → (1 ≤ length others → get_or others 0 0 ≡ 44) → o ≡ number_of (get_or (split 44 t) 0 [])
first_float t float others o q h e d f =
    q ∙ ap number_of e ∙ first_even t h (λ l. sym (get_or-drop 16 t 0 0) ∙ ap (λ (u : List ℕ). get_or u 0 0) (sym d) ∙ f (omega (arith, l, ap length d, length-drop 16 t)))

-- ---- the whole number

pub no : {A : Type 0} → false ≡ true → A
no e = absurd (subst T (sym e) tt)

yes : {A : Type 0} → true ≡ false → A
yes e = absurd (subst T e tt)

pub last_missing : (due : Bool) (s : List ℕ) → due ≡ true → length s ≡ 0 → None ≡ whole_among (numbers_of 0 due (rest s))
unfolding whole_among numbers_of rest
last_missing true [] e h = refl
last_missing true (b ∷ s) e h = absurd (omega arith)
last_missing false s e h = no e

numbers_more : (ps : List (List ℕ)) → (ps ≡ [] → ⊥) → None ≡ numbers_of 0 false ps
unfolding numbers_of
numbers_more [] h = absurd (h refl)
numbers_more (p ∷ ps) h = refl

pub last_more : (due : Bool) (s : List ℕ) → due ≡ false → 0 < length s → None ≡ whole_among (numbers_of 0 due (rest s))
unfolding whole_among rest
last_more true s e h = yes e
last_more false [] e h = absurd (not-suc-le-zero h)
last_more false (b ∷ s) e h = ap whole_among (numbers_more (split 44 s) (split_some 44 s))

pub last_end : (due : Bool) (s : List ℕ) → due ≡ false → length s ≤ 0 → Some 0 ≡ whole_among (numbers_of 0 due (rest s))
unfolding whole_among numbers_of rest
last_end true s e h = yes e
last_end false [] e h = refl
last_end false (b ∷ s) e h = absurd (not-suc-le-zero h)

numbers_two : (p : List ℕ) (ps : List (List ℕ)) → (ps ≡ [] → ⊥) → None ≡ numbers_of 0 true (p ∷ ps)
unfolding numbers_of
numbers_two p [] h = absurd (h refl)
numbers_two p (q ∷ ps) h = refl

-- what one field makes
whole_only : Option ℕ → Option Numbers
whole_only None = None
whole_only (Some n) = Some (record { floats = []; whole = n })

numbers_one : (p : List ℕ) → whole_only (whole_of p) ≡ numbers_of 0 true (p ∷ [])
unfolding numbers_of whole_only
numbers_one p = go (whole_of p)
  where
    go : (o : Option ℕ) → whole_only o ≡ elim o [ None ↦ None | Some n ↦ Some (record { floats = []; whole = n }) ]
    go None = refl
    go (Some n) = refl

among_only : (o : Option ℕ) → o ≡ whole_among (whole_only o)
unfolding whole_among whole_only
among_only None = refl
among_only (Some n) = refl

-- a comma is no digit, so what has one is no number
whole_last : (t : List ℕ) (r : Option ℕ) → r ≡ whole_of t → whole_only r ≡ numbers_of 0 true (split 44 t)
unfolding whole_only
whole_last t r e = go (cut t)
  where
    go : Cut t → whole_only r ≡ numbers_of 0 true (split 44 t)
    go c =
        by_lt c.e (length t)
        (λ l. ap whole_only (e ∙ sym (whole_bad t (digits_without 10 44 (omega arith) comma t (has_at 44 t c.e l (c.found l)))))
        ∙ numbers_two (take c.e t) (split 44 (drop (c.e + 1) t)) (split_some 44 (drop (c.e + 1) t)) ∙ ap (numbers_of 0 true) (sym (split_found 44 t c.e l c.before (c.found l))))
        (λ l. ap whole_only e ∙ numbers_one t ∙ ap (numbers_of 0 true) (sym (split_none 44 t c.e l c.before)))

pub last_is : (due : Bool) (s : List ℕ) (r : Option ℕ) → due ≡ true → (length s ≡ 0 → ⊥) → r ≡ whole_of (take (length s - 1) (drop 1 s)) → r ≡ whole_among (numbers_of 0 due (rest s))
unfolding rest
last_is false s r d h e = no d
last_is true [] r d h e = absurd (h refl)
last_is true (b ∷ s) r d h e = among_only r ∙ ap whole_among (whole_last s r (e ∙ ap whole_of (rest_is (b ∷ s) 1)))

-- ---- floats one after the other

-- one float more in front
unfoldable pub more : Float → Option Numbers → Option Numbers
more x None = None
more x (Some m) = Some (record { floats = x ∷ m.floats; whole = m.whole })

among_more : (x : Float) (o : Option Numbers) → whole_among o ≡ whole_among (more x o)
unfolding whole_among more
among_more x None = refl
among_more x (Some m) = refl

pub numbers_step : (n : ℕ) (due : Bool) (f : List ℕ) (fs : List (List ℕ)) (x : Float) → number_of f ≡ Some x → more x (numbers_of n due fs) ≡ numbers_of (suc n) due (f ∷ fs)
unfolding numbers_of more
numbers_step n due f fs x e = rw (e, numbers_of) (go (numbers_of n due fs))
  where
    go : (o : Option Numbers) → more x o ≡ elim o [ None ↦ None | Some m ↦ Some (record { floats = x ∷ m.floats; whole = m.whole }) ]
    go None = refl
    go (Some m) = refl

pub numbers_bad : (n : ℕ) (due : Bool) (f : List ℕ) (fs : List (List ℕ)) → number_of f ≡ None → None ≡ numbers_of (suc n) due (f ∷ fs)
unfolding numbers_of
numbers_bad n due f fs e = rw (e, numbers_of)

numbers_none : (n : ℕ) (due : Bool) → 0 < n → None ≡ numbers_of n due []
unfolding numbers_of
numbers_none zero due h = absurd (not-suc-le-zero h)
numbers_none (suc n) due h = refl

up_step : (n : ℕ) (f : List ℕ) (fs : List (List ℕ)) (x : Float) → number_of f ≡ Some x → x ∷ read_up n fs ≡ read_up (suc n) (f ∷ fs)
unfolding read_up
up_step n f fs x e = rw (e, read_up)

up_bad : (n : ℕ) (f : List ℕ) (fs : List (List ℕ)) → number_of f ≡ None → [] ≡ read_up (suc n) (f ∷ fs)
unfolding read_up
up_bad n f fs e = rw (e, read_up)

up_none : (n : ℕ) → [] ≡ read_up n []
unfolding read_up
up_none zero = refl
up_none (suc n) = refl

up_zero : (fs : List (List ℕ)) → [] ≡ read_up 0 fs
unfolding read_up
up_zero fs = refl

-- ---- the fields from a comma on

-- a float that was read has 16 bytes
sixteen : (t : List ℕ) (c : Cut t) (x : Float) → number_of (get_or (split 44 t) 0 []) ≡ Some x → c.e ≡ 16
sixteen t c x e = sym (length-take-le c.e t c.within) ∙ number_length (take c.e t) x (ap number_of (sym (first_cut t c)) ∙ e)

fields : (t : List ℕ) (c : Cut t) → get_or (split 44 t) 0 [] ∷ rest (drop c.e t) ≡ split 44 t
fields t c = ap (λ (p : List ℕ). p ∷ rest (drop c.e t)) (first_cut t c) ∙ sym (split_cut t c)

-- the first field of what stands after a comma
abbrev first : List ℕ → List ℕ
first t = get_or (split 44 t) 0 []

pub float_room : (t : List ℕ) (o : Option Float) (x : Float) → o ≡ number_of (first t) → o ≡ Some x → 16 ≤ length t
float_room t o x e p = go (cut t)
  where
    go : Cut t → 16 ≤ length t
    go c = omega (arith, sixteen t c x (sym e ∙ p), c.within)

fields_step : (t : List ℕ) (x : Float) → number_of (first t) ≡ Some x → first t ∷ rest (drop 16 t) ≡ split 44 t
fields_step t x e = go (cut t)
  where
    go : Cut t → first t ∷ rest (drop 16 t) ≡ split 44 t
    go c = ap (λ (k : ℕ). first t ∷ rest (drop k t)) (sym (sixteen t c x e)) ∙ fields t c

fields_some : (t : List ℕ) (P : List (List ℕ) → Type 0) → ((fs : List (List ℕ)) → P (first t ∷ fs)) → P (split 44 t)
fields_some t P f = go (cut t)
  where
    go : Cut t → P (split 44 t)
    go c = subst P (fields t c) (f (rest (drop c.e t)))

-- ---- the loop over the floats

readable_all : (room n : ℕ) (fs : List (List ℕ)) → n ≤ room → fs ≡ readable room n fs
unfolding readable
readable_all room n fs h = simp (le-leb n room h)

-- the array is too short
pub reads_short : (n : ℕ) (due : Bool) (fs : List (List ℕ)) (before : List Float) → length before < n → Reads n due fs None before before
unfolding readable whole_among
reads_short n due fs before h = record { answer = ap whole_among (numbers_none n due (omega arith) ∙ ap (numbers_of n due) empty); array = ap (sets before 0) (up_none n ∙ ap (read_up n) empty) }
  where
    empty : [] ≡ readable (length before) n fs
    empty = simp (lt-leb n (length before) h)

-- the front of the array is filled, and what stands behind it stays
module _ (count : ℕ) (due : Bool) (s : List ℕ) (start : List Float) where
  -- i floats are read, and `left` is left: reading the others from there is reading all
  pub record Filling (now : List Float) (i : ℕ) (left : List ℕ) : Type 0 where
    pub few : i ≤ count
    pub same : length now ≡ count
    pub answer : whole_among (numbers_of (count - i) due (rest left)) ≡ whole_among (numbers_of count due (rest s))
    pub array : sets (now ++ drop count start) i (read_up (count - i) (rest left)) ≡ sets start 0 (read_up count (rest s))

  pub filling_start : (now : List Float) → count ≤ length start → now ≡ take count start → Filling now 0 s
  filling_start now h e = record {
    few = omega arith;
    same = ap length e ∙ length-take-le count start h;
    answer = ap (λ (n : ℕ). whole_among (numbers_of n due (rest s))) {x = count - 0} {y = count} (omega arith);
    array = ap₂ (λ (n : ℕ) (l : List Float). sets l 0 (read_up n (rest s))) {x = count - 0} {y = count} (omega arith) (ap (λ (l : List Float). l ++ drop count start) e ∙ take-append-drop count start);
  }

  pub filling_step : (now : List Float) (i : ℕ) (left : List ℕ) (b : ℕ) (t : List ℕ) (o : Option Float) (x : Float) → Filling now i left → i < count → left ≡ b ∷ t → o ≡ number_of (first t) → o ≡ Some x
      → Filling (set now i x) (i + 1) (take (length t - 16) (drop 16 t))
  unfolding rest
  filling_step now i left b t o x q h l e p = record {
    few = omega arith;
    same = length-set now i x ∙ q.same;
    answer =
        ap (λ (u : List ℕ). whole_among (numbers_of (count - (i + 1)) due (rest u))) (rest_is t 16)
        ∙ among_more x (numbers_of (count - (i + 1)) due (rest (drop 16 t)))
        ∙ ap whole_among (numbers_step (count - (i + 1)) due (first t) (rest (drop 16 t)) x (sym e ∙ p))
        ∙ ap₂ (λ (n : ℕ) (fs : List (List ℕ)). whole_among (numbers_of n due fs)) more_left next ∙ q.answer;
    array =
        ap₂ (λ (l : List Float) (u : List ℕ). sets l (i + 1) (read_up (count - (i + 1)) (rest u))) (sym (set-append_left now (drop count start) i x (omega (arith, q.same)))) (rest_is t 16)
        ∙ ap (λ (j : ℕ). sets (set (now ++ drop count start) i x) j (read_up (count - (i + 1)) (rest (drop 16 t)))) (add-one i)
        ∙ ap (sets (now ++ drop count start) i) (up_step (count - (i + 1)) (first t) (rest (drop 16 t)) x (sym e ∙ p))
        ∙ ap₂ (λ (n : ℕ) (fs : List (List ℕ)). sets (now ++ drop count start) i (read_up n fs)) more_left next ∙ q.array;
  }
    where
      more_left : suc (count - (i + 1)) ≡ count - i
      more_left = omega arith

      next : first t ∷ rest (drop 16 t) ≡ rest left
      next = fields_step t x (sym e ∙ p) ∙ ap rest (sym l)

  -- no more floats are read
  filling_done : (now : List Float) (i : ℕ) (left : List ℕ) (r : Option ℕ) → Filling now i left → count ≤ length start → r ≡ whole_among (numbers_of (count - i) due (rest left)) → [] ≡ read_up (count - i) (rest left)
      → Reads count due (rest s) r start (now ++ drop count start)
  filling_done now i left r q room e u = record {
    answer = e ∙ q.answer ∙ ap (λ (fs : List (List ℕ)). whole_among (numbers_of count due fs)) (readable_all (length start) count (rest s) room);
    array = ap (sets (now ++ drop count start) i) u ∙ q.array ∙ ap (λ (fs : List (List ℕ)). sets start 0 (read_up count fs)) (readable_all (length start) count (rest s) room);
  }

  -- the array as the code leaves it where it wrote nothing more
  unchanged : (now back : List Float) (i : ℕ) (r : Option ℕ) → back ≡ drop count start → Reads count due (rest s) r start (now ++ drop count start) → Reads count due (rest s) r start (set now i (get_or now i nan) ++ back)
  unchanged now back i r e h = subst (λ (l : List Float). Reads count due (rest s) r start l) (ap₂ (λ (k l : List Float). k ++ l) (sym (set-get_or now i nan)) (sym e)) h

  -- there is no field left
  pub filling_stop : (now back : List Float) (i : ℕ) (left : List ℕ) (r : Option ℕ) → r ≡ None → back ≡ drop count start → Filling now i left → count ≤ length start → i < count → length left ≡ 0
      → Reads count due (rest s) r start (set now i (get_or now i nan) ++ back)
  unfolding whole_among rest
  filling_stop now back i [] r n e q room h l =
      unchanged now back i r e
      (filling_done now i [] r q room (n ∙ ap whole_among (numbers_none (count - i) due (omega arith))) (up_none (count - i)))
  filling_stop now back i (b ∷ t) r n e q room h l = absurd (omega arith)

  -- the next field is no float
  pub filling_bad : (now back : List Float) (i : ℕ) (left : List ℕ) (b : ℕ) (t : List ℕ) (o : Option Float) (r : Option ℕ) → r ≡ None → back ≡ drop count start → Filling now i left → count ≤ length start → i < count → left ≡ b ∷ t
      → o ≡ number_of (first t) → o ≡ None → Reads count due (rest s) r start (set now i (get_or now i nan) ++ back)
  unfolding whole_among rest
  filling_bad now back i left b t o r n g q room h l e p =
      unchanged now back i r g
      (filling_done now i left r q room
      (n ∙ subst (λ (u : List ℕ). None ≡ whole_among (numbers_of (count - i) due (rest u))) (sym l) (fields_some t (λ (fs : List (List ℕ)). None ≡ whole_among (numbers_of (count - i) due fs)) (λ fs. ap whole_among (numbers_bad (count - (i + 1)) due (first t) fs (sym e ∙ p) ∙ ap (λ (m : ℕ). numbers_of m due (first t ∷ fs)) more_left))))
      (subst (λ (u : List ℕ). [] ≡ read_up (count - i) (rest u)) (sym l) (fields_some t (λ (fs : List (List ℕ)). [] ≡ read_up (count - i) fs) (λ fs. up_bad (count - (i + 1)) (first t) fs (sym e ∙ p) ∙ ap (λ (m : ℕ). read_up m (first t ∷ fs)) more_left))))
    where
      more_left : suc (count - (i + 1)) ≡ count - i
      more_left = omega arith

  pub filling_end : (now back : List Float) (i : ℕ) (left : List ℕ) (r : Option ℕ) → back ≡ drop count start → Filling now i left → count ≤ length start → count ≤ i → r ≡ whole_among (numbers_of 0 due (rest left)) → Reads count due (rest s) r start (now ++ back)
  filling_end now back i left r g q room h e =
      subst (λ (l : List Float). Reads count due (rest s) r start (now ++ l)) (sym g)
      (filling_done now i left r q room
      (e ∙ ap (λ (n : ℕ). whole_among (numbers_of n due (rest left))) none_left)
      (up_zero (rest left) ∙ ap (λ (n : ℕ). read_up n (rest left)) none_left))
    where
      none_left : 0 ≡ count - i
      none_left = omega arith

-- how many floats and whether a whole number, as the code has them
pub counted : {count n : ℕ} {due w : Bool} (fs : List (List ℕ)) (r : Option ℕ) (before after : List Float) → count ≡ n → due ≡ w → Reads count due fs r before after → Reads n w fs r before after
counted {count} {n} {due} {w} fs r before after e f g = subst (λ (t : Bool). Reads n t fs r before after) f (subst (λ (k : ℕ). Reads k due fs r before after) e g)

-- ---- what was read, from the answer

-- so many floats, each of binary64
abbrev pub Right : ℕ → Option Numbers → Type 0
Right n None = Unit {0}
Right n (Some m) = (length m.floats ≡ n) × All F64 m.floats

number_right : (s : List ℕ) (x : Float) → number_of s ≡ Some x → F64 x
unfolding number_of
number_right s x e = go (eqb (length s) 16 && digits 16 s) e
  where
    go : (t : Bool) → cond t (Some (of_bits binary64 (value 16 0 s))) None ≡ Some x → F64 x
    go true q = let p : of_bits binary64 (value 16 0 s) ≡ x = cc in subst F64 p (of_bits-fits binary64 (value 16 0 s))
    go false q = absurd (let z : ◌≡◌ {A = ℕ} 0 1 = cc in omega arith)

right_more : (n : ℕ) (x : Float) (o : Option Numbers) → F64 x → Right n o → Right (suc n) (more x o)
unfolding more
right_more n x None f h = h
right_more n x (Some m) f h = (ap suc h.0, (f, h.1))

pub numbers_right : (n : ℕ) (due : Bool) (fs : List (List ℕ)) → Right n (numbers_of n due fs)
unfolding numbers_of whole_only
numbers_right zero false [] = (refl, tt)
numbers_right zero false (f ∷ fs) = tt
numbers_right zero true [] = tt
numbers_right zero true (f ∷ []) = subst (Right 0) (numbers_one f) (go (whole_of f))
  where
    go : (o : Option ℕ) → Right 0 (whole_only o)
    go None = tt
    go (Some n) = (refl, tt)
numbers_right zero true (f ∷ g ∷ fs) = tt
numbers_right (suc n) due [] = tt
numbers_right (suc n) due (f ∷ fs) = go (number_of f) refl (numbers_right n due fs)
  where
    go : (o : Option Float) → number_of f ≡ o → Right n (numbers_of n due fs) → Right (suc n) (numbers_of (suc n) due (f ∷ fs))
    go None e h = subst (Right (suc n)) (numbers_bad n due f fs e) tt
    go (Some x) e h = subst (Right (suc n)) (numbers_step n due f fs x e) (right_more n x (numbers_of n due fs) (number_right f x e) h)

-- the floats of numbers that are understood are those that were read
Agree : List Float → Option Numbers → Type 0
Agree l None = Unit {0}
Agree l (Some m) = l ≡ m.floats

agree_more : (x : Float) (l : List Float) (o : Option Numbers) → Agree l o → Agree (x ∷ l) (more x o)
unfolding Agree more
agree_more x l None h = tt
agree_more x l (Some m) h = ap (λ (k : List Float). x ∷ k) h

up_agrees : (n : ℕ) (due : Bool) (fs : List (List ℕ)) → Agree (read_up n fs) (numbers_of n due fs)
unfolding Agree numbers_of read_up whole_only
up_agrees zero false [] = refl
up_agrees zero false (f ∷ fs) = tt
up_agrees zero true [] = tt
up_agrees zero true (f ∷ []) = subst (Agree []) (numbers_one f) (go (whole_of f))
  where
    go : (o : Option ℕ) → Agree [] (whole_only o)
    go None = tt
    go (Some n) = refl
up_agrees zero true (f ∷ g ∷ fs) = tt
up_agrees (suc n) due [] = tt
up_agrees (suc n) due (f ∷ fs) = go (number_of f) refl (up_agrees n due fs)
  where
    go : (o : Option Float) → number_of f ≡ o → Agree (read_up n fs) (numbers_of n due fs) → Agree (read_up (suc n) (f ∷ fs)) (numbers_of (suc n) due (f ∷ fs))
    go None e h = subst (Agree (read_up (suc n) (f ∷ fs))) (numbers_bad n due f fs e) tt
    go (Some x) e h = subst (Agree (read_up (suc n) (f ∷ fs))) (numbers_step n due f fs x e) (subst (λ (l : List Float). Agree l (more x (numbers_of n due fs))) (up_step n f fs x e) (agree_more x (read_up n fs) (numbers_of n due fs) h))

answer_value : (l : List Float) (o : Option Numbers) (k : ℕ) → Agree l o → Some k ≡ whole_among o → o ≡ Some (record { floats = l; whole = k })
unfolding Agree whole_among
answer_value l None k a e = absurd (let z : ◌≡◌ {A = ℕ} 0 1 = cc in omega arith)
answer_value l (Some m) k a e = let p : k ≡ m.whole = cc in ap₂ (λ (f : List Float) (j : ℕ). Some (record { floats = f; whole = j })) (sym a) (sym p)

answer_not : (o : Option Numbers) → None ≡ whole_among o → o ≡ None
unfolding whole_among
answer_not None e = refl
answer_not (Some m) e = absurd (let z : ◌≡◌ {A = ℕ} 0 1 = cc in omega arith)

-- what the code has read into an array with room: the numbers, that they are none, and what is in the array
module _ (n : ℕ) (due : Bool) (fs : List (List ℕ)) (before after : List Float) (room : n ≤ length before) where
  pub numbers_read : (k : ℕ) → Reads n due fs (Some k) before after → numbers_of n due fs ≡ Some (record { floats = read_up n fs; whole = k })
  numbers_read k g = answer_value (read_up n fs) (numbers_of n due fs) k (up_agrees n due fs) (g.answer ∙ ap (λ (ps : List (List ℕ)). whole_among (numbers_of n due ps)) (sym (readable_all (length before) n fs room)))

  pub numbers_not : Reads n due fs None before after → numbers_of n due fs ≡ None
  numbers_not g = answer_not (numbers_of n due fs) (g.answer ∙ ap (λ (ps : List (List ℕ)). whole_among (numbers_of n due ps)) (sym (readable_all (length before) n fs room)))

  pub array_read : (r : Option ℕ) → Reads n due fs r before after → after ≡ sets before 0 (read_up n fs)
  array_read r g = g.array ∙ ap (λ (ps : List (List ℕ)). sets before 0 (read_up n ps)) (sym (readable_all (length before) n fs room))

  pub numbers_value : (k : ℕ) → Reads n due fs (Some k) before after → numbers_of n due fs ≡ Some (record { floats = take n after; whole = k })
  numbers_value k g = numbers_read k g ∙ ap (λ (l : List Float). Some (record { floats = l; whole = k })) (sym front)
    where
      many : length (read_up n fs) ≡ n
      many = (subst (Right n) (numbers_read k g) (numbers_right n due fs)).0

      front : take n after ≡ read_up n fs
      front = ap (take n) (array_read (Some k) g) ∙ ap (λ (j : ℕ). take j (sets before 0 (read_up n fs))) (sym many) ∙ kept_front before (read_up n fs) (omega (arith, many, room))
