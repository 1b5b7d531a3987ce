-- Lists: a fact of every element, of every element at its place, counting, joining. Assumes nothing.
use Prim.Native.Nat.{ℕ, zero, suc, ◌+◌, ◌<◌}
use native.Mathlib.Omega.{arith}
use mathlib.Core.Path.{◌≡◌, refl, sym, subst}
use mathlib.Core.Bool.{Bool, true, false, not, cond}
use mathlib.Core.List.{List, [], ◌∷◌, ◌++◌, map, flatten}
use lib.ListN.{length, get_or, set}
use lib.Dec.{T}
use Rattle.model.specs.Soundness.{All, Each}

-- f of every element and its place
unfoldable pub mapi : {A B : Type 0} → (ℕ → A → B) → ℕ → List A → List B
mapi f i [] = []
mapi f i (x ∷ xs) = f i x ∷ mapi f (suc i) xs

-- i, i + 1, .. : n of them
unfoldable pub from : ℕ → ℕ → List ℕ
from i zero = []
from i (suc n) = i ∷ from (suc i) n

abbrev pub one_if : Bool → ℕ
one_if t = cond t 1 0

pub no_out : (t : Bool) → T t → one_if (not t) ≡ 0
no_out true h = refl
no_out false h = absurd h

-- how many pass the test
unfoldable pub tally : {A : Type 0} → (A → Bool) → List A → ℕ
tally f [] = 0
tally f (x ∷ xs) = one_if (f x) + tally f xs

pub tally_append : {A : Type 0} (f : A → Bool) (xs ys : List A) → tally f (xs ++ ys) ≡ tally f xs + tally f ys
unfolding tally
tally_append f [] ys = omega arith
tally_append f (x ∷ xs) ys = omega (arith, tally_append f xs ys)

pub tally_true : {A : Type 0} (xs : List A) → tally (λ (x : A). true) xs ≡ length xs
unfolding tally
tally_true [] = refl
tally_true (x ∷ xs) = omega (arith, tally_true xs)

pub all_append : {A : Type 0} (P : A → Type 0) (xs ys : List A) → All P xs → All P ys → All P (xs ++ ys)
all_append P [] ys p q = q
all_append P (x ∷ xs) ys p q = (p.0, all_append P xs ys p.1 q)

pub all_map : {A : Type 0} (P Q : A → Type 0) (xs : List A) → ((x : A) → P x → Q x) → All P xs → All Q xs
all_map P Q [] h p = tt
all_map P Q (x ∷ xs) h p = (h x p.0, all_map P Q xs h p.1)

-- replacing one element changes what the joined lists tally by that element's change
pub flatten_set : {K A : Type 0} (h : K → List A) (f : A → Bool) (e : K) (ts : List K) (i : ℕ) (k : K) → i < length ts
    → tally f (flatten (map h (set ts i k))) + tally f (h (get_or ts i e)) ≡ tally f (flatten (map h ts)) + tally f (h k)
unfolding flatten
flatten_set h f e [] i k lt = absurd (omega arith)
flatten_set h f e (t ∷ ts) zero k lt = omega (arith, tally_append f (h k) (flatten (map h ts)), tally_append f (h t) (flatten (map h ts)))
flatten_set h f e (t ∷ ts) (suc i) k lt = omega (arith, tally_append f (h t) (flatten (map h (set ts i k))), tally_append f (h t) (flatten (map h ts)), flatten_set h f e ts i k (omega arith))

-- of places
shift : (k i : ℕ) → suc k + i ≡ k + suc i
shift k i = omega arith

pub each_get : {K : Type 0} (P : ℕ → K → Type 0) (e : K) (k : ℕ) (ts : List K) (i : ℕ) → i < length ts → Each P k ts → P (k + i) (get_or ts i e)
each_get P e k [] i lt h = absurd (omega arith)
each_get P e k (t ∷ ts) zero lt h = subst (λ (n : ℕ). P n t) (omega arith) h.0
each_get P e k (t ∷ ts) (suc i) lt h = subst (λ (n : ℕ). P n (get_or ts i e)) (shift k i) (each_get P e (suc k) ts i (omega arith) h.1)

pub each_set : {K : Type 0} (P : ℕ → K → Type 0) (k : ℕ) (ts : List K) (i : ℕ) (x : K) → P (k + i) x → Each P k ts → Each P k (set ts i x)
each_set P k [] i x p h = tt
each_set P k (t ∷ ts) zero x p h = (subst (λ (n : ℕ). P n x) (omega arith) p, h.1)
each_set P k (t ∷ ts) (suc i) x p h = (h.0, each_set P (suc k) ts i x (subst (λ (n : ℕ). P n x) (sym (shift k i)) p) h.1)

pub each_map : {K : Type 0} (P Q : ℕ → K → Type 0) (k : ℕ) (ts : List K) → ((i : ℕ) (t : K) → P i t → Q i t) → Each P k ts → Each Q k ts
each_map P Q k [] f h = tt
each_map P Q k (t ∷ ts) f h = (f k t h.0, each_map P Q (suc k) ts f h.1)
