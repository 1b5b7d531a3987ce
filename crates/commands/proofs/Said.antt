-- The command of a record, from its word and the numbers that were read. Over any tree's boxes and points.
use Prim.Native.Nat.{ℕ, suc, ◌+◌, ◌-◌, ◌*◌, ◌≤◌, ◌<◌}
use mathlib.Core.Path.{◌≡◌, refl, sym, ap, ap₂, ◌∙◌, subst}
use mathlib.Core.Bool.{false}
use mathlib.Core.List.{List, [], ◌∷◌, zip_with}
use Rattle.std.specs.Prelude.{Option, None, Some, IfSome, IfNone}
use Rattle.std.specs.Option.{unwrap_or}
use native.Mathlib.Omega.{arith}
use lib.Ieee.{Float, nan}
use lib.ListN.{length, get_or, take, drop}
use lib.Seq.{drop-cons}
use Rattle.std.proofs.lemmas.List.{drop-take, get_or-take, take-take}
use Rattle.model.specs.Boxes.{Side}
use Rattle.model.specs.Calls as calls
use Rattle.tree.specs.Sides.{boxed}
use Rattle.record.specs.Commands.{call_of, floats_after, understood, whole_after, word_of}
use Rattle.record.specs.Read.{Reads, rest}
use Rattle.record.specs.Text.{has}
use Rattle.record.specs.declared.Word.{Word}
use Rattle.record.proofs.Commands.{floats_few, said_not, said_other, said_value}
use Rattle.record.proofs.Parts.{found_at}
use Rattle.commands.specs.Commands.{call_in}
use Rattle.commands.specs.declared.Command.{Command}
use Rattle.commands.specs.declared.Command.TheVariants.{Create, Insert, Delete, Contains, Range, Knn, Box, Len, Clear}

-- ---- points of three numbers, of which as many count as there are axes
module _ (l : List Float) (d : Float) where
  one_then : (n k j : ℕ) (t : List Float) → k < length l → j ≡ suc k → t ≡ take n (drop j l) → get_or l k d ∷ t ≡ take (suc n) (drop k l)
  one_then n k j t h e f = ap (λ (u : List Float). get_or l k d ∷ u) (f ∙ ap (λ (i : ℕ). take n (drop i l)) e) ∙ ap (take (suc n)) (sym (drop-cons l k d h))

  three_are : (k : ℕ) → k + 3 ≤ length l → get_or l k d ∷ get_or l (k + 1) d ∷ get_or l (k + 2) d ∷ [] ≡ take 3 (drop k l)
  three_are k h = one_then 2 k (k + 1) _ (omega arith) (omega arith) (one_then 1 (k + 1) (k + 2) _ (omega arith) (omega arith) (one_then 0 (k + 2) (k + 3) [] (omega arith) (omega arith) refl))

  pub first_of : (axes : ℕ) → axes ≤ 3 → 3 ≤ length l → take axes (get_or l 0 d ∷ get_or l 1 d ∷ get_or l 2 d ∷ []) ≡ take axes l
  first_of axes few h = ap (take axes) (three_are 0 h) ∙ take-take axes 3 l few

  pub next_of : (axes a : ℕ) → axes ≤ 3 → a + 3 ≤ length l → a ≡ axes → take axes (get_or l a d ∷ get_or l (a + 1) d ∷ get_or l (a + 2) d ∷ []) ≡ take axes (take (6 - a) (drop a l))
  next_of axes a few h e = ap (take axes) (three_are a h) ∙ take-take axes 3 (drop a l) few ∙ sym (take-take axes (6 - a) (drop a l) (omega arith))

-- ---- the call of each word, from the points of the numbers
-- what a command is of a word and the numbers that were read
abbrev pub Spells : {R P : Type 0} (sides : R → List Side) (place : P → List Float) (axes : ℕ) (l : List Float) (n : ℕ) → Word → Command R P → Type 0
Spells sides place axes l n w c = call_in sides place c ≡ call_of axes w (record { floats = take (floats_after axes w) l; whole = n })

module _ {R P : Type 0} (sides : R → List Side) (place : P → List Float) (axes : ℕ) (l : List Float) (n : ℕ) where
  pub spelt : {w v : Word} {c d : Command R P} → w ≡ v → c ≡ d → Spells sides place axes l n v d → Spells sides place axes l n w c
  spelt {w} {v} {c} {d} e f h = subst (λ (u : Word). Spells sides place axes l n u c) (sym e) (subst (Spells sides place axes l n v) (sym f) h)

  pub insert_is : (p : P) → place p ≡ take axes l → Spells sides place axes l n Word.Insert (Insert p n)
  unfolding call_in call_of floats_after
  insert_is p first = ap (λ (s : List Float). calls.Insert (record { at = s; payload = n })) first

  pub delete_is : (p : P) → place p ≡ take axes l → Spells sides place axes l n Word.Delete (Delete p n)
  unfolding call_in call_of floats_after
  delete_is p first = ap (λ (s : List Float). calls.Delete (record { at = s; payload = n })) first

  pub contains_is : (p : P) → place p ≡ take axes l → Spells sides place axes l n Word.Contains (Contains p n)
  unfolding call_in call_of floats_after
  contains_is p first = ap (λ (s : List Float). calls.Ask (calls.Contains (record { at = s; payload = n }))) first

  pub knn_is : (p : P) → place p ≡ take axes l → Spells sides place axes l n Word.Knn (Knn p n)
  unfolding call_in call_of floats_after
  knn_is p first = ap (λ (s : List Float). calls.Ask (calls.Nearest s n 512)) first

  pub range_is : (p : P) (a : ℕ) → a ≡ axes → place p ≡ take axes l → Spells sides place axes l n Word.Range (Range p (get_or l a nan))
  unfolding call_in call_of floats_after
  range_is p a many first =
      ap₂ (λ (s : List Float) (r : Float). calls.Ask (calls.Radius s r 512))
      (first ∙ sym (take-take axes (axes + 1) l (omega arith)))
      (ap (λ (b : ℕ). get_or l b nan) many ∙ sym (get_or-take (axes + 1) l axes nan (omega arith)))

  pub len_is : Spells sides place axes l n Word.Len Len
  unfolding call_in call_of
  len_is = refl

  pub clear_is : Spells sides place axes l n Word.Clear Clear
  unfolding call_in call_of
  clear_is = refl

  module _ (p q : P) (b : R) (a : ℕ) (few : axes ≤ 3) (many : a ≡ axes) (first : place p ≡ take axes l) (second : place q ≡ take axes (take (6 - a) (drop a l))) (of : sides b ≡ boxed (place p) (place q)) where
    corner : place p ≡ take axes (take (2 * axes) l)
    corner = first ∙ sym (take-take axes (2 * axes) l (omega arith))

    extent : place q ≡ drop axes (take (2 * axes) l)
    extent =
        second ∙ ap (λ (b : ℕ). take axes (take (6 - b) (drop b l))) many ∙ take-take axes (6 - axes) (drop axes l) (omega (arith, few)) ∙ sym (drop-take axes axes l)
        ∙ ap (λ (m : ℕ). drop axes (take m l)) {x = axes + axes} {y = 2 * axes} (omega arith)

    box : sides b ≡ zip_with (λ c e. record { corner = c; extent = e }) (take axes (take (2 * axes) l)) (drop axes (take (2 * axes) l))
    box = of ∙ ap₂ boxed corner extent

    pub create_is : Spells sides place axes l n Word.Create (Create b n)
    unfolding call_in call_of floats_after
    create_is = ap (λ (s : List Side). calls.Create s n) box

    pub box_is : Spells sides place axes l n Word.Box (Box b)
    unfolding call_in call_of floats_after
    box_is = ap (λ (s : List Side). calls.Ask (calls.Box s 512)) box

-- ---- the record, which was cut at its first comma
module _ (made : List ℕ) (axes : ℕ) (s : List ℕ) (e : ℕ) (o : Option ℕ) (plain : has 34 made ≡ false) (end : e ≡ unwrap_or o (length s)) (found : IfSome o (λ i. (i < length s) × (get_or s i 0 ≡ 44))) (first : IfSome o (λ i. (k : ℕ) → k < i → get_or s k 0 ≡ 44 → ⊥)) (nowhere : IfNone o ((k : ℕ) → k < length s → get_or s k 0 ≡ 44 → ⊥)) (first_word : Option Word) (given : List ℕ) (makes : given ≡ made) (read : first_word ≡ word_of given (take e s)) where
  cut : (e ≤ length s) × ((k : ℕ) → k < e → get_or s k 0 ≡ 44 → ⊥) × (e < length s → get_or s e 0 ≡ 44)
  cut = found_at s 44 e o end found first nowhere

  word_is : (v : Option Word) → first_word ≡ v → v ≡ word_of made (take e s)
  word_is v f = sym f ∙ read ∙ ap (λ (m : List ℕ). word_of m (take e s)) makes

  pub says_other : first_word ≡ None → None ≡ understood made axes s
  says_other f = said_other made axes s e plain cut.0 cut.1 cut.2 (word_is None f)

  module _ (w : Word) (a : ℕ) (r : Option ℕ) (before after : List Float) (some : 1 ≤ axes) (few : axes ≤ 3) (many : a ≡ axes) (six : length before ≡ 6) (is : first_word ≡ Some w) (filled : Reads (floats_after a w) (whole_after w) (rest (take (length s - e) (drop e s))) r before after) where
    room : floats_after axes w ≤ length before
    room = omega (arith, six, floats_few axes w some, few)

    have : Reads (floats_after axes w) (whole_after w) (rest (take (length s - e) (drop e s))) r before after
    have = subst (λ (b : ℕ). Reads (floats_after b w) (whole_after w) (rest (take (length s - e) (drop e s))) r before after) many filled

    pub says_not : r ≡ None → None ≡ understood made axes s
    says_not = said_not made axes s e plain cut.0 cut.1 cut.2 w r before after (word_is (Some w) is) room have

    pub says_some : (n : ℕ) (c : calls.Call) → r ≡ Some n → c ≡ call_of axes w (record { floats = take (floats_after axes w) after; whole = n }) → Some c ≡ understood made axes s
    says_some n c er ec = ap Some ec ∙ said_value made axes s e plain cut.0 cut.1 cut.2 w r before after (word_is (Some w) is) room have w n refl er
