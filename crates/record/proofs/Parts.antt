-- Laws of byte strings compared and cut into parts. Assumes nothing.
use Prim.Native.Nat.{ℕ, zero, suc, ◌+◌, ◌-◌, ◌≤◌, ◌<◌, suc-le-suc}
use mathlib.Core.Path.{◌≡◌, refl, sym, ap, ap₂, ◌∙◌, subst}
use mathlib.Core.Bool.{Bool, true, false, ◌&&◌, and-eq-true_iff}
use mathlib.Core.List.{List, [], ◌∷◌}
use native.Mathlib.Nat.{not-suc-le-zero, le_of_suc-le-suc, le_of_eq}
use native.Mathlib.Numerals.{add-one}
use native.Mathlib.Omega.{arith}
use lib.ListN.{length, get_or, take, drop, length-drop, drop_of_length-le}
use lib.Seq.{drop-cons, take_all}
use Rattle.std.specs.Prelude.{Option, None, Some, IfNone, IfSome, unwrap_or}
use lib.Pointwise.{pointwise}
use lib.Dec.{T, eqb, ltb}
use borrow.Author.Tests.{eq-eqb, ne_eqb, eqb-true, ltb-true, ltb-false}
use Rattle.record.specs.Text.{grow, split_step, split, same}
use Rattle.record.specs.Read.{rest}

pub by_lt : {A : Type 0} (m n : ℕ) → (m < n → A) → (n ≤ m → A) → A
by_lt {A} m n f g = go (ltb m n) refl
  where
    go : (t : Bool) → ltb m n ≡ t → A
    go true e = f (ltb-true m n e)
    go false e = g (ltb-false m n e)

pub is_no : (t : Bool) → (t ≡ true → ⊥) → t ≡ false
is_no true h = absurd (h refl)
is_no false h = refl

-- the part of a slice from an index on, as code takes it
pub rest_is : (t : List ℕ) (k : ℕ) → take (length t - k) (drop k t) ≡ drop k t
rest_is t k = take_all (length t - k) (drop k t) (le_of_eq (length-drop k t))

-- ---- byte strings compared

pub same_refl : (s : List ℕ) → same s s ≡ true
unfolding same
same_refl [] = refl
same_refl (a ∷ s) = simp (eq-eqb a a refl, same_refl s)

pub same_eq : (s t : List ℕ) → same s t ≡ true → s ≡ t
unfolding same
same_eq [] [] e = refl
same_eq [] (b ∷ t) e = absurd (subst T (sym e) tt)
same_eq (a ∷ s) [] e = absurd (subst T (sym e) tt)
same_eq (a ∷ s) (b ∷ t) e =
    let h = (and-eq-true_iff (eqb a b) (same s t)).0 e in
    let p : a ≡ b = eqb-true a b h.0 in
    let q : s ≡ t = same_eq s t h.1 in
    cc

pub same_is : (s t : List ℕ) → pointwise eqb s t ≡ same s t
unfolding same
same_is [] [] = refl
same_is [] (b ∷ t) = refl
same_is (a ∷ s) [] = refl
same_is (a ∷ s) (b ∷ t) = ap (λ (r : Bool). eqb a b && r) (same_is s t)

-- what a comparison of slices says
pub says_same : (r : Bool) (s t u : List ℕ) → r ≡ pointwise eqb s t → t ≡ u → r ≡ true → s ≡ u
says_same r s t u e f q = same_eq s t (sym (same_is s t) ∙ sym e ∙ q) ∙ f

pub says_other : (r : Bool) (s t u : List ℕ) → r ≡ pointwise eqb s t → t ≡ u → r ≡ false → same s u ≡ false
says_other r s t u e f q = ap (same s) (sym f) ∙ sym (same_is s t) ∙ sym e ∙ q

-- where the first c is, or else the end: what the search for it says
pub found_at : (s : List ℕ) (c e : ℕ) (o : Option ℕ) → e ≡ unwrap_or o (length s) → IfSome o (λ i. (i < length s) × (get_or s i 0 ≡ c)) → IfSome o (λ i. (k : ℕ) → k < i → get_or s k 0 ≡ c → ⊥) → IfNone o ((k : ℕ) → k < length s → get_or s k 0 ≡ c → ⊥)
    → (e ≤ length s) × ((k : ℕ) → k < e → get_or s k 0 ≡ c → ⊥) × (e < length s → get_or s e 0 ≡ c)
found_at s c e None q f g h = (omega arith, λ k l. h k (omega arith), λ l. absurd (omega arith))
found_at s c e (Some i) q f g h = (omega (arith, f.0), λ k l. g k (omega arith), λ l. ap (λ (j : ℕ). get_or s j 0) q ∙ f.1)

-- ---- parts between separators

grow_some : (b : ℕ) (ps : List (List ℕ)) → grow b ps ≡ [] → ⊥
unfolding grow
grow_some b [] e = let z : ◌≡◌ {A = ℕ} 0 1 = cc in omega arith
grow_some b (p ∷ ps) e = let z : ◌≡◌ {A = ℕ} 0 1 = cc in omega arith

step_some : (t : Bool) (b : ℕ) (ps : List (List ℕ)) → split_step t b ps ≡ [] → ⊥
unfolding split_step
step_some true b ps e = let z : ◌≡◌ {A = ℕ} 0 1 = cc in omega arith
step_some false b ps e = grow_some b ps e

pub split_some : (c : ℕ) (s : List ℕ) → split c s ≡ [] → ⊥
unfolding split
split_some c [] e = let z : ◌≡◌ {A = ℕ} 0 1 = cc in omega arith
split_some c (b ∷ s) e = step_some (eqb b c) b (split c s) e

-- what a step makes of a byte that is the separator, or not
pub split_sep : (c b : ℕ) (s : List ℕ) → b ≡ c → split c (b ∷ s) ≡ [] ∷ split c s
unfolding split split_step
split_sep c b s e = ap (λ (t : Bool). split_step t b (split c s)) (eq-eqb b c e)

pub split_other : (c b : ℕ) (s : List ℕ) → (b ≡ c → ⊥) → split c (b ∷ s) ≡ grow b (split c s)
unfolding split split_step
split_other c b s e = ap (λ (t : Bool). split_step t b (split c s)) (ne_eqb b c e)

split_found' : (c : ℕ) (s : List ℕ) (e : ℕ) → e < length s → ((k : ℕ) → k < e → get_or s k 0 ≡ c → ⊥) → get_or s e 0 ≡ c → split c s ≡ take e s ∷ split c (drop (suc e) s)
unfolding grow
split_found' c [] e h f g = absurd (not-suc-le-zero h)
split_found' c (b ∷ s) zero h f g = split_sep c b s g
split_found' c (b ∷ s) (suc e) h f g =
    split_other c b s (f 0 (omega arith))
    ∙ ap (grow b) (split_found' c s e (le_of_suc-le-suc h) (λ k l. f (suc k) (suc-le-suc l)) g)

pub split_found : (c : ℕ) (s : List ℕ) (e : ℕ) → e < length s → ((k : ℕ) → k < e → get_or s k 0 ≡ c → ⊥) → get_or s e 0 ≡ c → split c s ≡ take e s ∷ split c (drop (e + 1) s)
split_found c s e h f g = rw add-one (split_found' c s e h f g)

pub split_none : (c : ℕ) (s : List ℕ) (e : ℕ) → length s ≤ e → ((k : ℕ) → k < e → get_or s k 0 ≡ c → ⊥) → split c s ≡ s ∷ []
unfolding split grow
split_none c [] e h f = refl
split_none c (b ∷ s) zero h f = absurd (not-suc-le-zero h)
split_none c (b ∷ s) (suc e) h f = split_other c b s (f 0 (omega arith)) ∙ ap (grow b) (split_none c s e (le_of_suc-le-suc h) (λ k l. f (suc k) (suc-le-suc l)))

-- ---- the first field and the others

pub rest_drop : (s : List ℕ) (e : ℕ) → e < length s → rest (drop e s) ≡ split 44 (drop (e + 1) s)
unfolding rest
rest_drop s e h = rw (add-one, drop-cons s e 0)

pub rest_none : (s : List ℕ) (e : ℕ) → length s ≤ e → rest (drop e s) ≡ []
unfolding rest
rest_none s e h = ap rest (drop_of_length-le s h)

-- cut at the first comma
pub split_rest : (s : List ℕ) (e : ℕ) → e ≤ length s → ((k : ℕ) → k < e → get_or s k 0 ≡ 44 → ⊥) → (e < length s → get_or s e 0 ≡ 44) → split 44 s ≡ take e s ∷ rest (drop e s)
split_rest s e h f g =
    by_lt e (length s)
    (λ l. split_found 44 s e l f (g l) ∙ ap (λ (ps : List (List ℕ)). take e s ∷ ps) (sym (rest_drop s e l)))
    (λ l. split_none 44 s e l f ∙ ap₂ (λ (p : List ℕ) (ps : List (List ℕ)). p ∷ ps) (sym (take_all e s l)) (sym (rest_none s e l)))
