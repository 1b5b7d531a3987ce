-- Laws of occurrences and sums. Assumes nothing.
use mathlib.Core.Path.{◌≡◌, refl, ap, ◌∙◌}
use mathlib.Core.Logic.{◌≢◌}
use mathlib.Core.Bool.{Bool, true, false}
use mathlib.Core.List.{List, [], ◌∷◌, ◌++◌}
use Prim.Native.Nat.{ℕ, zero, suc, ◌+◌, ◌<◌, ◌≤◌}
use native.Mathlib.Omega.{arith}
use native.Mathlib.Decide.{ℕ_discrete}
use lib.Dec.{ltb}
use borrow.Author.Tests.{eq-eqb, ne_eqb, ltb-true, ltb-false}
use lib.ListN.{length, get_or, set, replicate}
use Rattle.pool.specs.Lists.{ifz, is, occ, sum_of}

-- by cases on whether two numbers are equal
pub by-eq {ℓ} : {C : Type ℓ} (m n : ℕ) → (m ≡ n → C) → (m ≢ n → C) → C
by-eq m n f g = elim (ℕ_discrete m n) [ yes e ↦ f e | no e ↦ g e ]

-- by cases on which is less
pub by_lt {ℓ} : {C : Type ℓ} (m n : ℕ) → (m < n → C) → (n ≤ m → C) → C
by_lt {C = C} m n f g = go (ltb m n) (ltb-true m n) (ltb-false m n)
  where
    go : (b : Bool) → (b ≡ true → m < n) → (b ≡ false → n ≤ m) → C
    go true a b = f (a refl)
    go false a b = g (b refl)

pub pos : (n : ℕ) → n ≢ 0 → 1 ≤ n
pos n z = omega arith

pub ifz-yes {ℓ} : {A : Type ℓ} (n : ℕ) (a b : A) → n ≡ 0 → ifz n a b ≡ a
ifz-yes zero a b e = refl
ifz-yes (suc n) a b e = absurd (omega arith)

pub ifz-no {ℓ} : {A : Type ℓ} (n : ℕ) (a b : A) → n ≢ 0 → ifz n a b ≡ b
ifz-no zero a b e = absurd (e refl)
ifz-no (suc n) a b e = refl

-- ---- how often
pub is_same : (i : ℕ) → is i i ≡ 1
unfolding is
is_same i = rw (eq-eqb i i refl)

pub is_other : (i j : ℕ) → i ≢ j → is i j ≡ 0
unfolding is
is_other i j h = rw (ne_eqb i j h)

pub is_eq : (i j : ℕ) → i ≡ j → is i j ≡ 1
is_eq i j e = ap (λ k. is k j) e ∙ is_same j

pub occ_append : (p : ℕ) (l m : List ℕ) → occ p (l ++ m) ≡ occ p l + occ p m
occ_append p [] m = omega arith
occ_append p (q ∷ l) m = omega (arith, occ_append p l m)

-- ---- sums
module _ {K : Type 0} where
  pub sum_at : (f : K → ℕ) (ts : List K) (c : ℕ) (z : K) → c < length ts → f (get_or ts c z) ≤ sum_of f ts
  sum_at f [] c z h = absurd (omega arith)
  sum_at f (t ∷ ts) zero z h = omega arith
  sum_at f (t ∷ ts) (suc c) z h = omega (arith, sum_at f ts c z (omega arith))

  -- two of them
  pub sum_two : (f : K → ℕ) (ts : List K) (c e : ℕ) (z : K) → c ≢ e → c < length ts → e < length ts → f (get_or ts c z) + f (get_or ts e z) ≤ sum_of f ts
  sum_two f [] c e z ne hc he = absurd (omega arith)
  sum_two f (t ∷ ts) zero zero z ne hc he = absurd (ne refl)
  sum_two f (t ∷ ts) zero (suc e) z ne hc he = omega (arith, sum_at f ts e z (omega arith))
  sum_two f (t ∷ ts) (suc c) zero z ne hc he = omega (arith, sum_at f ts c z (omega arith))
  sum_two f (t ∷ ts) (suc c) (suc e) z ne hc he = omega (arith, sum_two f ts c e z (λ q. ne (ap suc q)) (omega arith) (omega arith))

  -- one of them is another
  pub sum_set : (f : K → ℕ) (ts : List K) (c : ℕ) (t z : K) → c < length ts → sum_of f (set ts c t) + f (get_or ts c z) ≡ sum_of f ts + f t
  sum_set f [] c t z h = absurd (omega arith)
  sum_set f (s ∷ ts) zero t z h = omega arith
  sum_set f (s ∷ ts) (suc c) t z h = omega (arith, sum_set f ts c t z (omega arith))

  pub sum_none : (f : K → ℕ) (n : ℕ) (t : K) → f t ≡ 0 → sum_of f (replicate n t) ≡ 0
  sum_none f zero t e = refl
  sum_none f (suc n) t e = omega (arith, sum_none f n t e, e)
