-- Numbers in lists: how often one occurs, sums, and lists that are linked by words. Definitions only.
use Rattle.std.specs.Prelude.{◌≡◌, ◌≢◌, cond, List, [], ◌∷◌, ℕ, zero, suc, ◌+◌, ◌<◌, eqb, length, get_or}

-- a where the number is 0, otherwise b
abbrev pub ifz {ℓ} : {A : Type ℓ} → ℕ → A → A → A
ifz zero a b = a
ifz (suc n) a b = b

-- 1 where the two are equal, otherwise 0
unfoldable pub is : ℕ → ℕ → ℕ
is i j = cond (eqb i j) 1 0

-- how often p occurs in a list
abbrev pub occ : ℕ → List ℕ → ℕ
occ p [] = 0
occ p (q ∷ l) = is p q + occ p l

-- the sum of f over a list
abbrev pub sum_of : {K : Type 0} → (K → ℕ) → List K → ℕ
sum_of f [] = 0
sum_of f (t ∷ ts) = f t + sum_of f ts

-- the last of a list, or z where it is empty
abbrev pub last_or : ℕ → List ℕ → ℕ
last_or z [] = z
last_or z (p ∷ l) = last_or p l

-- the words x link the places of the list from h on: word p is the place after p, and 0 ends the list
abbrev pub Chain : List ℕ → ℕ → List ℕ → Type 0
Chain x h [] = h ≡ 0
Chain x h (p ∷ l) = (h ≡ p) × (p ≢ 0) × (p < length x) × Chain x (get_or x p 0) l
