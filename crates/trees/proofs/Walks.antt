-- Searches over places: what they find, that it is what the model finds, and one more place or one more child at a time. Assumes nothing.
use mathlib.Core.Path.{◌≡◌, refl, ap, ap₂, sym, ◌∙◌, subst}
use mathlib.Core.Bool.{Bool, true, false, cond}
use mathlib.Core.List.{List, [], ◌∷◌, ◌++◌, map, flatten}
use Prim.Native.Nat.{ℕ, zero, suc, ◌+◌, ◌≤◌}
use native.Mathlib.Omega.{arith}
use lib.ListN.{length, set, length-append}
use lib.Seq.{sets}
use Rattle.model.specs.Boxes.{Side, part}
use Rattle.model.specs.Searches.{keep}
use Rattle.model.specs.Trees.{Point}
use Rattle.model.proofs.Lists.{mapi}
use Rattle.model.proofs.Nearest.{map_append}
use Rattle.model.proofs.Skip.{walk}
use Rattle.pool.specs.Trees.{leaf, branch, PTree, erase}

-- the places that pass a test, in visiting order, in the nodes whose boxes pass another
unfoldable pub places : (List Side → Bool) → (ℕ → Bool) → (d : ℕ) → List Side → PTree d → List ℕ
unfolding keep part flatten mapi
places go f zero b l = elim (go b) [ true ↦ keep f l | false ↦ [] ]
places go f (suc d) b (leaf l) = elim (go b) [ true ↦ keep f l | false ↦ [] ]
places go f (suc d) b (branch k ts) = elim (go b) [ true ↦ flatten (mapi (λ i t. places go f d (part b i) t) 0 ts) | false ↦ [] ]

-- ---- it is the model's walk
module _ (at : ℕ → Point) (go : List Side → Bool) (f : Point → Bool) where
  pub keep_at : (l : List ℕ) → map at (keep (λ p. f (at p)) l) ≡ keep f (map at l)
  unfolding keep
  keep_at [] = refl
  keep_at (p ∷ l) = by (f (at p)) (keep_at l)
    where
      by : (t : Bool) → map at (keep (λ p. f (at p)) l) ≡ keep f (map at l)
          → map at (elim t as (λ u. List ℕ) [ true ↦ p ∷ keep (λ p. f (at p)) l | false ↦ keep (λ p. f (at p)) l ]) ≡ elim t as (λ u. List Point) [ true ↦ at p ∷ keep f (map at l) | false ↦ keep f (map at l) ]
      by true e = ap {B = List Point} (λ u. at p ∷ u) e
      by false e = e

  when : (t : Bool) (l : List ℕ) (ps : List Point) → map at l ≡ ps → map at (elim t as (λ u. List ℕ) [ true ↦ l | false ↦ [] ]) ≡ elim t as (λ u. List Point) [ true ↦ ps | false ↦ [] ]
  when true l ps e = e
  when false l ps e = refl

  rows_at : (d : ℕ) (b : List Side) (i : ℕ) (ts : List (PTree d)) → ((n : List Side) (t : PTree d) → map at (places go (λ p. f (at p)) d n t) ≡ walk go f d n (erase at d t))
      → map at (flatten (mapi (λ i t. places go (λ p. f (at p)) d (part b i) t) i ts)) ≡ flatten (mapi (λ i t. walk go f d (part b i) t) i (map (erase at d) ts))
  unfolding mapi flatten
  rows_at d b i [] ih = refl
  rows_at d b i (t ∷ ts) ih =
      map_append at (places go (λ p. f (at p)) d (part b i) t) (flatten (mapi (λ i t. places go (λ p. f (at p)) d (part b i) t) (suc i) ts))
      ∙ ap₂ (λ (x y : List Point). x ++ y) (ih (part b i) t) (rows_at d b (suc i) ts ih)

  pub places_walk : (d : ℕ) (b : List Side) (t : PTree d) → map at (places go (λ p. f (at p)) d b t) ≡ walk go f d b (erase at d t)
  unfolding places walk erase
  places_walk zero b l = when (go b) _ _ (keep_at l)
  places_walk (suc d) b (leaf l) = when (go b) _ _ (keep_at l)
  places_walk (suc d) b (branch k ts) = when (go b) _ _ (rows_at d b 0 ts (λ n t. places_walk d n t))

-- ---- a list that is noted from number n on, if there is room for all of it
pub record Notes {A : Type 0} (l : List A) (out : List A) (n : ℕ) (out' : List A) (r : ℕ) : Type 0 where
  pub count : n + length l ≤ length out → r ≡ n + length l
  pub written : n + length l ≤ length out → out' ≡ sets out n l

pub notes_none : (out : List ℕ) (n : ℕ) → Notes [] out n out n
notes_none out n = record { count = λ h. omega arith; written = λ h. refl }

-- numbers set one list after the other
pub sets_append : (l m out : List ℕ) (n : ℕ) → sets out n (l ++ m) ≡ sets (sets out n l) (n + length l) m
sets_append [] m out n = ap (λ (j : ℕ). sets out j m) {x = n} {y = n + 0} (omega arith)
sets_append (p ∷ l) m out n = sets_append l m (set out n p) (suc n) ∙ ap (λ (j : ℕ). sets (sets (set out n p) (suc n) l) j m) {x = suc n + length l} {y = n + suc (length l)} (omega arith)

pub notes_then : (l m out out1 out2 : List ℕ) (n k r : ℕ) → length out1 ≡ length out → Notes l out n out1 k → Notes m out1 k out2 r → Notes (l ++ m) out n out2 r
notes_then l m out out1 out2 n k r e a b = record {
  count = λ h. let q : k ≡ n + length l = a.count (omega (arith, h, length-append l m)) in b.count (omega (arith, h, length-append l m, q, e)) ∙ omega (arith, q, length-append l m);
  written = λ h. let q : k ≡ n + length l = a.count (omega (arith, h, length-append l m)) in
      b.written (omega (arith, h, length-append l m, q, e)) ∙ ap₂ (λ (o : List ℕ) (j : ℕ). sets o j m) (a.written (omega (arith, h, length-append l m))) q ∙ sym (sets_append l m out n);
}

-- one place, noted or not
module _ (out : List ℕ) (n p : ℕ) (yes : Bool) where
  pub note_yes : (out' : List ℕ) (r : ℕ) → yes ≡ true → Notes (p ∷ []) out n out' r → Notes (cond yes (p ∷ []) []) out n out' r
  note_yes out' r e a = subst (λ (t : Bool). Notes (cond t (p ∷ []) []) out n out' r) (sym e) a

  pub note_no : yes ≡ false → Notes (cond yes (p ∷ []) []) out n out n
  note_no e = subst (λ (t : Bool). Notes (cond t (p ∷ []) []) out n out n) (sym e) (notes_none out n)
