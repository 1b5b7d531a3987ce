-- What the searches of a box or a radius promise of any words that hold a tree, and the steps by which they keep it. Assumes nothing.
use mathlib.Core.Path.{◌≡◌, refl, ap, sym, ◌∙◌, subst}
use mathlib.Core.Logic.{◌≢◌}
use mathlib.Core.Bool.{Bool, true, false, not, cond}
use mathlib.Core.List.{List, [], ◌∷◌, ◌++◌, flatten}
use Prim.Native.Nat.{ℕ, zero, suc, ◌+◌, ◌*◌, ◌-◌, ◌<◌, ◌≤◌}
use native.Mathlib.Numerals.{add-one, sub-one}
use native.Mathlib.Omega.{arith}
use lib.Dec.{T}
use lib.ListN.{length, get_or, drop, drop_of_length-le}
use lib.Seq.{drop-cons}
use Rattle.model.specs.Boxes.{Side, part}
use Rattle.model.specs.Searches.{keep}
use Rattle.model.proofs.Lists.{mapi}
use Rattle.pool.specs.Lists.{occ, sum_of}
use Rattle.pool.specs.Read.{chain}
use Rattle.pool.specs.Trees.{leaf, branch, PTree, none, places_at}
use Rattle.pool.specs.Worlds.{RepLeaf, Rep}
use Rattle.pool.specs.Writes.{kid}
use Rattle.pool.proofs.Lists.{sum_at}
use Rattle.pool.proofs.Read.{list_is}
use Rattle.trees.proofs.Walks.{places, Notes, notes_none, notes_then}

-- ---- one list
-- what is left to note leads to all that is to be noted
unfoldable pub Noting : (whole : List ℕ) (out : List ℕ) (n : ℕ) (rest now : List ℕ) (m : ℕ) → Type 0
Noting whole out n rest now m = (out' : List ℕ) (r : ℕ) → length out' ≡ length now → Notes rest now m out' r → Notes whole out n out' r

pub noting_start : (whole out : List ℕ) (n : ℕ) → Noting whole out n whole out n
unfolding Noting
noting_start whole out n out' r e q = q

pub noting_step : (whole out : List ℕ) (n : ℕ) (l rest now : List ℕ) (m : ℕ) (now' : List ℕ) (m' : ℕ) → length now' ≡ length now → Noting whole out n (l ++ rest) now m → Notes l now m now' m' → Noting whole out n rest now' m'
unfolding Noting
noting_step whole out n l rest now m now' m' e w q out' r k v = w out' r (k ∙ e) (notes_then l rest now now' out' m m' r e q v)

pub noting_end : (whole out : List ℕ) (n : ℕ) (now : List ℕ) (m : ℕ) → Noting whole out n [] now m → Notes whole out n now m
unfolding Noting
noting_end whole out n now m w = w now m refl (notes_none now m)

-- ---- a chain, one place at a time
pub chain_none : (left : ℕ) (x : List ℕ) (q : ℕ) → left ≡ 0 → chain left x q ≡ []
unfolding chain
chain_none zero x q e = refl
chain_none (suc left) x q e = absurd (omega (arith, e))

pub chain_stop : (left : ℕ) (x : List ℕ) (q : ℕ) → q ≡ 0 → chain left x q ≡ []
unfolding chain
chain_stop zero x q e = refl
chain_stop (suc left) x q e = ap (chain (suc left) x) e

pub chain_step : (left : ℕ) (x : List ℕ) (q : ℕ) → 0 < left → q ≢ 0 → chain left x q ≡ q ∷ chain (left - 1) x (get_or x q 0)
unfolding chain
chain_step zero x q h z = absurd (omega arith)
chain_step (suc left) x zero h z = absurd (z refl)
chain_step (suc left) x (suc q) h z = ap (λ (j : ℕ). suc q ∷ chain j x (get_or x (suc q) 0)) (sym (sub-one (suc left)))

-- the places of a chain that pass the test
unfoldable pub passing : (ℕ → Bool) → ℕ → List ℕ → ℕ → List ℕ
unfolding keep chain
passing f left x q = keep f (chain left x q)

-- ---- the loop over a list
pub record Listing (f : ℕ → Bool) (l : List ℕ) (out : List ℕ) (n : ℕ) (left now : List ℕ) (m : ℕ) : Type 0 where
  pub same : length now ≡ length out
  pub noting : Noting (keep f l) out n (keep f left) now m

module _ (f : ℕ → Bool) (l : List ℕ) (out : List ℕ) (n : ℕ) where
  pub listing_start : (left : List ℕ) → left ≡ l → Listing f l out n left out n
  listing_start left e = subst (λ (r : List ℕ). Listing f l out n r out n) (sym e) (record { same = refl; noting = noting_start (keep f l) out n })

  pub listing_step : (old left now : List ℕ) (q m : ℕ) (now' : List ℕ) (m' : ℕ) (hit : Bool) → Listing f l out n old now m → old ≡ q ∷ left → hit ≡ f q → length now' ≡ length now
      → Notes (cond hit (q ∷ []) []) now m now' m' → Listing f l out n left now' m'
  unfolding keep
  listing_step old left now q m now' m' hit w eo ey e a = record {
    same = e ∙ w.same;
    noting = noting_step (keep f l) out n (cond (f q) (q ∷ []) []) (keep f left) now m now' m' e
        (subst (λ (k : List ℕ). Noting (keep f l) out n k now m) (ap (keep f) eo ∙ by (f q)) w.noting)
        (subst (λ (t : Bool). Notes (cond t (q ∷ []) []) now m now' m') ey a);
  }
    where
      by : (t : Bool) → elim t as (λ u. List ℕ) [ true ↦ q ∷ keep f left | false ↦ keep f left ] ≡ cond t (q ∷ []) [] ++ keep f left
      by true = refl
      by false = refl

  pub listing_end : (old now : List ℕ) (m : ℕ) → Listing f l out n old now m → old ≡ [] → Notes (keep f l) out n now m
  unfolding keep
  listing_end old now m w e = noting_end _ out n now m (subst (λ (k : List ℕ). Noting (keep f l) out n k now m) (ap (keep f) e) w.noting)

-- what a test said, where the code asks for its contrary
pub said_no : (a b : Bool) → a ≡ b → not a ≡ true → b ≡ false
said_no true b e h = absurd (subst T (sym h) tt)
said_no false b e h = sym e

pub said_yes : (a b : Bool) → a ≡ b → not a ≡ false → b ≡ true
said_yes true b e h = sym e
said_yes false b e h = absurd (subst T h tt)

shut : (t : Bool) (l : List ℕ) → t ≡ false → ◌≡◌ {A = List ℕ} (elim t as (λ u. List ℕ) [ true ↦ l | false ↦ [] ]) []
shut t l e = ap (λ (u : Bool). elim u as (λ u. List ℕ) [ true ↦ l | false ↦ [] ]) e

opened : (t : Bool) (l : List ℕ) → t ≡ true → elim t as (λ u. List ℕ) [ true ↦ l | false ↦ [] ] ≡ l
opened t l e = ap (λ (u : Bool). elim u as (λ u. List ℕ) [ true ↦ l | false ↦ [] ]) e

-- the children of a divided node in words
pub record Kids (ways : ℕ) (n x : List ℕ) (d : ℕ) (k : ℕ) (ts : List (PTree d)) : Type 0 where
  pub all : length ts ≡ ways
  pub each : (c : ℕ) → c < ways → Rep d ways n x (kid ways k c) (get_or ts c (none d))
  pub once : (p : ℕ) → sum_of (places_at d p) ts ≤ 1

pub kids_of : (ways : ℕ) (n x : List ℕ) (d i k g : ℕ) (ts : List (PTree d)) → Rep (suc d) ways n x i (branch g ts) → ((p : ℕ) → places_at (suc d) p (branch g ts) ≤ 1) → k ≡ get_or n (4 * i) 0 → Kids ways n x d k ts
kids_of ways n x d i k g ts r u ek = record { all = r.4; each = λ c lc. subst (λ (h : ℕ). Rep d ways n x (kid ways h c) (get_or ts c (none d))) (sym r.1 ∙ sym ek) (r.5 c lc); once = u }

pub kid_once : (ways : ℕ) (n x : List ℕ) (d k : ℕ) (ts : List (PTree d)) → Kids ways n x d k ts → (c : ℕ) → c < ways → (p : ℕ) → places_at d p (get_or ts c (none d)) ≤ 1
kid_once ways n x d k ts z c lc p = omega (arith, z.once p, sum_at (places_at d p) ts c (none d) (omega (arith, lc, z.all)))

-- ---- one tree
module _ (go : List Side → Bool) (f : ℕ → Bool) (ways : ℕ) (n x : List ℕ) where
  unfoldable pub Collects : (d : ℕ) → List Side → ℕ → (out : List ℕ) (m : ℕ) (out' : List ℕ) (r : ℕ) → Type 0
  Collects d b i out m out' r = (t : PTree d) → Rep d ways n x i t → ((p : ℕ) → places_at d p t ≤ 1) → Notes (places go f d b t) out m out' r

  pub collects_skip : (d : ℕ) (b : List Side) (i : ℕ) (out : List ℕ) (m : ℕ) → go b ≡ false → Collects d b i out m out m
  unfolding Collects places
  collects_skip zero b i out m e t r u = subst (λ l. Notes l out m out m) (sym (shut (go b) _ e)) (notes_none out m)
  collects_skip (suc d) b i out m e (leaf l) r u = subst (λ l. Notes l out m out m) (sym (shut (go b) _ e)) (notes_none out m)
  collects_skip (suc d) b i out m e (branch k ts) r u = subst (λ l. Notes l out m out m) (sym (shut (go b) _ e)) (notes_none out m)

  kept_is : (i : ℕ) (l : List ℕ) → RepLeaf n x i l → ((p : ℕ) → occ p l ≤ 1) → passing f (length x) x (get_or n (4 * i + 1) 0) ≡ keep f l
  unfolding passing
  kept_is i l r u = ap (keep f) (list_is n x i l r u)

  pub collects_list : (d : ℕ) (b : List Side) (i k h : ℕ) (out : List ℕ) (m : ℕ) (out' : List ℕ) (r : ℕ) → go b ≡ true → k ≡ get_or n (4 * i) 0 → k ≡ 0 → h ≡ get_or n (4 * i + 1) 0
      → Notes (passing f (length x) x h) out m out' r → Collects d b i out m out' r
  unfolding Collects places
  collects_list zero b i k h out m out' r e ek z eh w l q u = subst (λ s. Notes s out m out' r) (ap (passing f (length x) x) eh ∙ kept_is i l q u ∙ sym (opened (go b) _ e)) w
  collects_list (suc d) b i k h out m out' r e ek z eh w (leaf l) q u = subst (λ s. Notes s out m out' r) (ap (passing f (length x) x) eh ∙ kept_is i l q u ∙ sym (opened (go b) _ e)) w
  collects_list (suc d) b i k h out m out' r e ek z eh w (branch g ts) q u = absurd (q.2 (sym q.1 ∙ sym ek ∙ z))

  pub collects_none : (d : ℕ) (b : List Side) (i k : ℕ) (out : List ℕ) (m : ℕ) → k ≡ get_or n (4 * i) 0 → k ≢ 0 → d ≡ 0 → Collects d b i out m out m
  unfolding Collects
  collects_none zero b i k out m ek z e t r u = absurd (z (ek ∙ r.1))
  collects_none (suc d) b i k out m ek z e t r u = absurd (omega arith)

  -- ---- its children, from number c on
  abbrev row : (d : ℕ) → List Side → ℕ → List (PTree d) → List ℕ
  row d b c ts = flatten (mapi (λ i t. places go f d (part b i) t) c ts)

  unfoldable pub Rows : (d : ℕ) → List Side → ℕ → (out : List ℕ) (m : ℕ) (c : ℕ) (now : List ℕ) (m' : ℕ) → Type 0
  unfolding mapi flatten
  Rows d b k out m c now m' = (ts : List (PTree d)) → Kids ways n x d k ts → Noting (row d b 0 ts) out m (row d b c (drop c ts)) now m'

  pub rows_start : (d : ℕ) (b : List Side) (k : ℕ) (out : List ℕ) (m : ℕ) → Rows d b k out m 0 out m
  unfolding Rows
  rows_start d b k out m ts q = noting_start (row d b 0 ts) out m

  pub rows_step : (d : ℕ) (b b' : List Side) (k : ℕ) (out : List ℕ) (m c j : ℕ) (now : List ℕ) (m' : ℕ) (now' : List ℕ) (m'' : ℕ) → Rows d b k out m c now m' → c < ways → j ≡ kid ways k c → b' ≡ part b c
      → length now' ≡ length now → Collects d b' j now m' now' m'' → Rows d b k out m (c + 1) now' m''
  unfolding Rows Collects mapi flatten
  rows_step d b b' k out m c j now m' now' m'' w lc ej eb e q ts z =
      subst (λ (i : ℕ). Noting (row d b 0 ts) out m (row d b i (drop i ts)) now' m'') (sym (add-one c))
      (noting_step (row d b 0 ts) out m (places go f d (part b c) (get_or ts c (none d))) (row d b (suc c) (drop (suc c) ts)) now m' now' m'' e
      (subst (λ (us : List (PTree d)). Noting (row d b 0 ts) out m (row d b c us) now m') (drop-cons ts c (none d) (omega (arith, lc, z.all))) (w ts z))
      (subst (λ (v : List Side). Notes (places go f d v (get_or ts c (none d))) now m' now' m'') eb
      (q (get_or ts c (none d)) (subst (λ (v : ℕ). Rep d ways n x v (get_or ts c (none d))) (sym ej) (z.each c lc)) (kid_once ways n x d k ts z c lc))))

  pub rows_end : (d : ℕ) (b : List Side) (i k : ℕ) (out : List ℕ) (m c : ℕ) (now : List ℕ) (m' : ℕ) → go b ≡ true → k ≡ get_or n (4 * i) 0 → d ≢ 0 → Rows (d - 1) b k out m c now m' → ways ≤ c → k ≢ 0 → Collects d b i out m now m'
  unfolding Rows Collects places mapi flatten
  rows_end zero b i k out m c now m' e ek z w h nz t r u = absurd (z refl)
  rows_end (suc d) b i k out m c now m' e ek z w h nz (leaf l) r u = absurd (nz (ek ∙ r.1))
  rows_end (suc d) b i k out m c now m' e ek z w h nz (branch g ts) r u =
      subst (λ (l : List ℕ). Notes l out m now m') (sym (opened (go b) _ e))
      (noting_end (row d b 0 ts) out m now m' (subst (λ (us : List (PTree d)). Noting (row d b 0 ts) out m (row d b c us) now m') (drop_of_length-le ts {i = c} (omega (arith, h, r.4)))
      (subst (λ (v : ℕ). (us : List (PTree v)) → Kids ways n x v k us → Noting (row v b 0 us) out m (row v b c (drop c us)) now m') (sub-one (suc d)) w ts
      (kids_of ways n x d i k g ts r u ek))))
