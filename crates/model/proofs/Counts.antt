-- What insert_s and delete_s keep, and what they tally. Over any number of axes and any merge_s order. Assumes nothing.
use Prim.Native.Nat.{ℕ, zero, suc, ◌+◌, ◌*◌, ◌/◌, ◌^◌, ◌≤◌, ◌<◌, zero-le}
use native.Mathlib.Nat.{le_trans, le_of_eq, pow-succ'}
use lib.Pow.{pow_pos}
use native.Mathlib.Omega.{arith}
use mathlib.Core.Path.{◌≡◌, refl, ap, sym, ◌∙◌, subst}
use mathlib.Core.Logic.{◌⊎◌, inl, inr}
use mathlib.Core.Bool.{Bool, true, false, not, cond}
use mathlib.Core.List.{List, [], ◌∷◌, map, flatten}
use lib.ListN.{length, get_or, length-set, length-append}
use lib.Dec.{T, leb, ltb, eqb, leb→le, nleb→lt, ltb→lt, nltb→le, eqb→eq, eqb_refl}
use lib.Ieee.{Float, le}
use Rattle.model.specs.Boxes.{Side, mid, part, route, turn}
use Rattle.model.specs.Searches.{keep}
use Rattle.model.specs.Soundness.{Each}
use Rattle.model.specs.Trees.{Node, Point, Tree, bag, branch, held, into, joined, leaf, same, total}
use Rattle.model.proofs.Lists.{each_get, each_set, flatten_set, from, no_out, one_if, tally, tally_append, tally_true}
use Rattle.model.proofs.Short.{deal, delete_s, first, goes, insert_s, merge_s, taken, without_s}

-- ---- tests
pub eq_test : (a b : ℕ) → ((a ≡ b) × (eqb a b ≡ true)) ⊎ ((a ≡ b → ⊥) × (eqb a b ≡ false))
eq_test a b = go (eqb a b) refl
  where
    go : (t : Bool) → eqb a b ≡ t → ((a ≡ b) × (eqb a b ≡ true)) ⊎ ((a ≡ b → ⊥) × (eqb a b ≡ false))
    go true e = inl (eqb→eq a b (subst (λ (x : Bool). T x) (sym e) tt), e)
    go false e = inr (λ (p : a ≡ b). subst (λ (x : Bool). T x) e (subst (λ (x : ℕ). T (eqb a x)) p (eqb_refl a)), e)

-- ---- the number of a child
pub route_lt : (b : List Side) (vs : List Float) → route b vs < 2 ^ length b
unfolding route turn
route_lt [] vs = omega arith
route_lt (s ∷ b) [] = pow_pos (suc (length b))
route_lt (s ∷ b) (v ∷ vs) = le_trans (go (le (mid s) v) (route b vs) (2 ^ length b) (route_lt b vs)) (le_of_eq (sym (pow-succ' 2 (length b))))
  where
    go : (t : Bool) (r m : ℕ) → r < m → cond t 1 0 + 2 * r < 2 * m
    go true r m h = omega arith
    go false r m h = omega arith

pub part_length : (b : List Side) (i : ℕ) → length (part b i) ≡ length b
unfolding part
part_length [] i = refl
part_length (s ∷ b) i = ap suc (part_length b (i / 2))

-- ---- what is held
pub held_bag : (d : ℕ) (ps : List Point) → held d (bag d ps) ≡ ps
unfolding held bag
held_bag zero ps = refl
held_bag (suc d) ps = refl

-- what is not on its routed path
abbrev pub strays : List Side → ℕ → Point → Bool
strays b i q = not (goes b i q)

-- every branch has w children and more than cap points, every leaf above the last level has at most cap, every point of a child is routed to it
abbrev pub Good : (w cap : ℕ) (d : ℕ) → List Side → Tree d → Type 0
Good w cap zero b ps = Unit {0}
Good w cap (suc d) b (leaf ps) = length ps ≤ cap
Good w cap (suc d) b (branch ts) =
    (length ts ≡ w) × (cap < length (flatten (map (held d) ts))) × Each (λ i t. (tally (strays b i) (held d t) ≡ 0) × Good w cap d (part b i) t) 0 ts

abbrev pub GoodChild : (w cap : ℕ) (d : ℕ) → List Side → ℕ → Tree d → Type 0
GoodChild w cap d b i t = (tally (strays b i) (held d t) ≡ 0) × Good w cap d (part b i) t

pub good_bag : (w cap d : ℕ) (b : List Side) (ps : List Point) → length ps ≤ cap → Good w cap d b (bag d ps)
unfolding bag
good_bag w cap zero b ps h = tt
good_bag w cap (suc d) b ps h = h

-- ---- keep
keep_cons : {A : Type 0} (f g : A → Bool) (x : A) (xs : List A) → tally f (keep g (x ∷ xs)) ≡ cond (g x) (one_if (f x)) 0 + tally f (keep g xs)
unfolding keep tally
keep_cons f g x xs = go (g x)
  where
    go : (t : Bool) → tally f (elim t [ true ↦ x ∷ keep g xs | false ↦ keep g xs ]) ≡ cond t (one_if (f x)) 0 + tally f (keep g xs)
    go true = refl
    go false = omega arith

pub keep_length : {A : Type 0} (g : A → Bool) (xs : List A) → length (keep g xs) ≤ length xs
unfolding keep
keep_length {A} g [] = zero-le
keep_length {A} g (x ∷ xs) = go (g x) (keep_length g xs)
  where
    go : (t : Bool) → length (keep g xs) ≤ length xs → length {A = A} (elim t [ true ↦ x ∷ keep g xs | false ↦ keep g xs ]) ≤ suc (length xs)
    go true h = omega arith
    go false h = omega arith

keep_strays : {A : Type 0} (g : A → Bool) (xs : List A) → tally (λ x. not (g x)) (keep g xs) ≡ 0
unfolding keep tally
keep_strays g [] = refl
keep_strays g (x ∷ xs) = keep_cons (λ y. not (g y)) g x xs ∙ go (g x) (keep_strays g xs)
  where
    go : (t : Bool) → tally (λ y. not (g y)) (keep g xs) ≡ 0 → cond t (one_if (not t)) 0 + tally (λ y. not (g y)) (keep g xs) ≡ 0
    go true h = omega arith
    go false h = omega arith

-- ---- deal
module _ (d : ℕ) (b : List Side) (f : Point → Bool) where
  dealt : List Point → ℕ → ℕ → ℕ
  dealt ps i n = tally f (flatten (map (held d) (deal d b ps i n)))

  dealt_suc : (ps : List Point) (i n : ℕ) → dealt ps i (suc n) ≡ tally f (keep (goes b i) ps) + dealt ps (suc i) n
  unfolding dealt deal flatten
  dealt_suc ps i n = tally_append f (held d (bag d (keep (goes b i) ps))) (flatten (map (held d) (deal d b ps (suc i) n))) ∙ ap (λ (l : List Point). tally f l + dealt ps (suc i) n) (held_bag d (keep (goes b i) ps))

  dealt_nil : (i n : ℕ) → dealt [] i n ≡ 0
  unfolding dealt deal flatten tally keep
  dealt_nil i zero = refl
  dealt_nil i (suc n) = omega (arith, dealt_suc [] i n, dealt_nil (suc i) n)

  -- a point whose number is below i
  dealt_below : (p : Point) (ps : List Point) (i n : ℕ) → route b p.at < i → dealt (p ∷ ps) i n ≡ dealt ps i n
  unfolding dealt deal flatten
  dealt_below p ps i zero h = refl
  dealt_below p ps i (suc n) h =
      elim (eq_test (route b p.at) i) [
        | inl e ↦ absurd (let z : route b p.at ≡ i = e.0 in omega arith)
        | inr e ↦ omega (arith, dealt_suc (p ∷ ps) i n, dealt_suc ps i n, dealt_below p ps (suc i) n (omega arith), keep_cons f (goes b i) p ps, ap (λ (t : Bool). cond t (one_if (f p)) 0) e.1)
      ]

  dealt_in : (p : Point) (ps : List Point) (i n : ℕ) → i ≤ route b p.at → route b p.at < i + n → dealt (p ∷ ps) i n ≡ dealt ps i n + one_if (f p)
  dealt_in p ps i zero h k = absurd (omega arith)
  dealt_in p ps i (suc n) h k =
      elim (eq_test (route b p.at) i) [
        | inl e ↦ omega (arith, dealt_suc (p ∷ ps) i n, dealt_suc ps i n, dealt_below p ps (suc i) n (let z : route b p.at ≡ i = e.0 in omega arith), keep_cons f (goes b i) p ps, ap (λ (t : Bool). cond t (one_if (f p)) 0) e.1)
        | inr e ↦ omega (arith, dealt_suc (p ∷ ps) i n, dealt_suc ps i n, dealt_in p ps (suc i) n (let z : route b p.at ≡ i → ⊥ = e.0 in omega arith) (omega arith), keep_cons f (goes b i) p ps, ap (λ (t : Bool). cond t (one_if (f p)) 0) e.1)
      ]

  deal_count : (ps : List Point) (w : ℕ) → 2 ^ length b ≡ w → tally f (flatten (map (held d) (deal d b ps 0 w))) ≡ tally f ps
  unfolding dealt tally
  deal_count [] w e = dealt_nil 0 w
  deal_count (p ∷ ps) w e = omega (arith, dealt_in p ps 0 w zero-le (omega (arith, route_lt b p.at)), deal_count ps w e)

pub deal_length : (d : ℕ) (b : List Side) (ps : List Point) (i n : ℕ) → length (deal d b ps i n) ≡ n
unfolding deal
deal_length d b ps i zero = refl
deal_length d b ps i (suc n) = ap suc (deal_length d b ps (suc i) n)

pub deal_good : (w cap d : ℕ) (b : List Side) (ps : List Point) (i n : ℕ) → length ps ≤ cap → Each (GoodChild w cap d b) i (deal d b ps i n)
unfolding deal
deal_good w cap d b ps i zero h = tt
deal_good w cap d b ps i (suc n) h = (
  (ap (tally (strays b i)) (held_bag d (keep (goes b i) ps)) ∙ keep_strays (goes b i) ps, good_bag w cap d (part b i) (keep (goes b i) ps) (le_trans (keep_length (goes b i) ps) h)),
  deal_good w cap d b ps (suc i) n h,
)

-- ---- one layer: what a change of the routed child does
pub into_length : (d : ℕ) (go : List Side → Point → Tree d → Tree d) (b : List Side) (p : Point) (ts : List (Tree d)) → length (into d go b p ts) ≡ length ts
unfolding into
into_length d go b p ts = length-set ts _ _

pub into_count : (d : ℕ) (go : List Side → Point → Tree d → Tree d) (b : List Side) (p : Point) (ts : List (Tree d)) (f : Point → Bool) → route b p.at < length ts
    → tally f (flatten (map (held d) (into d go b p ts))) + tally f (held d (get_or ts (route b p.at) (bag d [])))
    ≡ tally f (flatten (map (held d) ts)) + tally f (held d (go (part b (route b p.at)) p (get_or ts (route b p.at) (bag d []))))
unfolding into
into_count d go b p ts f h = flatten_set (held d) f (bag d []) ts (route b p.at) (go (part b (route b p.at)) p (get_or ts (route b p.at) (bag d []))) h

-- ---- insert_s: what it counts
pub cond_same : {A : Type 0} (P : A → Type 0) (t : Bool) (x y : A) → (T t → P x) → (T (not t) → P y) → P (elim t [ true ↦ x | false ↦ y ])
cond_same P true x y p q = p tt
cond_same P false x y p q = q tt

module _ (w cap : ℕ) where
  pub in_range : (b : List Side) (p : Point) (n : ℕ) → 2 ^ length b ≡ w → n ≡ w → route b p.at < n
  in_range b p n e h = omega (arith, route_lt b p.at)

  pub part_ways : (b : List Side) (i : ℕ) → 2 ^ length b ≡ w → 2 ^ length (part b i) ≡ w
  part_ways b i e = ap (λ (n : ℕ). 2 ^ n) (part_length b i) ∙ e

  -- the routed child
  pub chosen : (d : ℕ) (b : List Side) (p : Point) (ts : List (Tree d)) → 2 ^ length b ≡ w → length ts ≡ w → Each (GoodChild w cap d b) 0 ts
      → GoodChild w cap d b (route b p.at) (get_or ts (route b p.at) (bag d []))
  chosen d b p ts e h g = subst (λ (n : ℕ). GoodChild w cap d b n (get_or ts (route b p.at) (bag d []))) (omega arith) (each_get (GoodChild w cap d b) (bag d []) 0 ts (route b p.at) (in_range b p (length ts) e h) g)

  pub insert_count : (d : ℕ) (b : List Side) (p : Point) (t : Tree d) (f : Point → Bool) → 2 ^ length b ≡ w → Good w cap d b t
      → tally f (held d (insert_s w cap d b p t)) ≡ tally f (held d t) + one_if (f p)
  unfolding insert_s held tally
  insert_count zero b p ps f e g = omega (arith, tally_append f ps (p ∷ []))
  insert_count (suc d) b p (leaf ps) f e g =
      let i = route b p.at in
      let ts = deal d b ps 0 w in
      let h : length ts ≡ w = deal_length d b ps 0 w in
      let k = chosen d b p ts e h (deal_good w cap d b ps 0 w g) in
      cond_same (λ (u : Node (Tree d)). tally f (held (suc d) u) ≡ tally f ps + one_if (f p)) (ltb (length ps) cap) _ _
      (λ l. omega (arith, tally_append f ps (p ∷ [])))
      (λ l. omega (arith, into_count d (insert_s w cap d) b p ts f (in_range b p (length ts) e h), insert_count d (part b i) p (get_or ts i (bag d [])) f (part_ways b i e) k.1, deal_count d b f ps w e))
  insert_count (suc d) b p (branch ts) f e g =
      let i = route b p.at in
      let k = chosen d b p ts e g.0 g.2 in
      omega (arith, into_count d (insert_s w cap d) b p ts f (in_range b p (length ts) e g.0), insert_count d (part b i) p (get_or ts i (bag d [])) f (part_ways b i e) k.1)

  -- the child after an insert_s
  child_good : (d : ℕ) (b : List Side) (p : Point) (t : Tree d) → 2 ^ length b ≡ w → GoodChild w cap d b (route b p.at) t
      → Good w cap d (part b (route b p.at)) (insert_s w cap d (part b (route b p.at)) p t)
      → GoodChild w cap d b (route b p.at) (insert_s w cap d (part b (route b p.at)) p t)
  child_good d b p t e k g =
      let i = route b p.at in
      (omega (arith, insert_count d (part b i) p t (strays b i) (part_ways b i e) k.1, k.0, stays i), g)
    where
      stays : (i : ℕ) → one_if (not (eqb i i)) ≡ 0
      stays i = no_out (eqb i i) (eqb_refl i)

  layer_good : (d : ℕ) (b : List Side) (p : Point) (ts : List (Tree d)) → 2 ^ length b ≡ w → length ts ≡ w → Each (GoodChild w cap d b) 0 ts
      → cap ≤ length (flatten (map (held d) ts))
      → Good w cap d (part b (route b p.at)) (insert_s w cap d (part b (route b p.at)) p (get_or ts (route b p.at) (bag d [])))
      → Good w cap (suc d) b (branch (into d (insert_s w cap d) b p ts))
  unfolding into
  layer_good d b p ts e h c m g =
      let i = route b p.at in
      let k = chosen d b p ts e h c in
      let all : Point → Bool = λ x. true in
      let us = into d (insert_s w cap d) b p ts in (
        into_length d (insert_s w cap d) b p ts ∙ h,
        omega (
          arith,
          into_count d (insert_s w cap d) b p ts all (in_range b p (length ts) e h),
          insert_count d (part b i) p (get_or ts i (bag d [])) all (part_ways b i e) k.1,
          tally_true (flatten (map (held d) ts)),
          tally_true (flatten (map (held d) us)),
        ),
        each_set (GoodChild w cap d b) 0 ts i (insert_s w cap d (part b i) p (get_or ts i (bag d [])))
            (subst (λ (n : ℕ). GoodChild w cap d b n (insert_s w cap d (part b i) p (get_or ts i (bag d [])))) (omega arith) (child_good d b p (get_or ts i (bag d [])) e k g)) c,
      )

  pub insert_good : (d : ℕ) (b : List Side) (p : Point) (t : Tree d) → 2 ^ length b ≡ w → Good w cap d b t → Good w cap d b (insert_s w cap d b p t)
  unfolding insert_s
  insert_good zero b p ps e g = tt
  insert_good (suc d) b p (leaf ps) e g =
      let i = route b p.at in
      let ts = deal d b ps 0 w in
      let h : length ts ≡ w = deal_length d b ps 0 w in
      let c = deal_good w cap d b ps 0 w g in
      let k = chosen d b p ts e h c in
      let all : Point → Bool = λ x. true in
      cond_same (λ (u : Node (Tree d)). Good w cap (suc d) b u) (ltb (length ps) cap) _ _
      (λ l. omega (arith, length-append ps (p ∷ []), ltb→lt (length ps) cap l))
      (λ l. layer_good d b p ts e h c (omega (arith, nltb→le (length ps) cap l, deal_count d b all ps w e, tally_true ps, tally_true (flatten (map (held d) ts))))
      (insert_good d (part b i) p (get_or ts i (bag d [])) (part_ways b i e) k.1))
  insert_good (suc d) b p (branch ts) e g =
      let i = route b p.at in
      let k = chosen d b p ts e g.0 g.2 in
      layer_good d b p ts e g.0 g.2 (let z : cap < length (flatten (map (held d) ts)) = g.1 in omega arith) (insert_good d (part b i) p (get_or ts i (bag d [])) (part_ways b i e) k.1)

-- ---- delete_s: what it counts
pub without_count : (f : Point → Bool) (p : Point) (ps : List Point) → tally f (without_s p ps) + tally f (first p ps) ≡ tally f ps
unfolding without_s first tally
without_count f p [] = refl
without_count f p (q ∷ qs) = go (same p q) (without_count f p qs)
  where
    go : (t : Bool) → tally f (without_s p qs) + tally f (first p qs) ≡ tally f qs
        → tally f (elim t [ true ↦ qs | false ↦ q ∷ without_s p qs ]) + tally f (elim t [ true ↦ q ∷ [] | false ↦ first p qs ]) ≡ one_if (f q) + tally f qs
    go true h = omega arith
    go false h = omega arith

-- the merge_s order takes every child once
abbrev pub Order : ℕ → List ℕ → Type 0
Order w o = (g : ℕ → ℕ) → total (map g o) ≡ total (map g (from 0 w))

pub flatten_total : {A : Type 0} (f : Point → Bool) (h : A → List Point) (xs : List A) → tally f (flatten (map h xs)) ≡ total (map (λ (x : A). tally f (h x)) xs)
unfolding flatten total tally
flatten_total f h [] = refl
flatten_total f h (x ∷ xs) = omega (arith, tally_append f (h x) (flatten (map h xs)), flatten_total f h xs)

from_shift : (g : ℕ → ℕ) (i n : ℕ) → total (map g (from (suc i) n)) ≡ total (map (λ (j : ℕ). g (suc j)) (from i n))
unfolding from total
from_shift g i zero = refl
from_shift g i (suc n) = omega (arith, from_shift g (suc i) n)

by_place : {A : Type 0} (g : A → ℕ) (e : A) (xs : List A) → total (map (λ (j : ℕ). g (get_or xs j e)) (from 0 (length xs))) ≡ total (map g xs)
unfolding from total
by_place g e [] = refl
by_place g e (x ∷ xs) = omega (arith, from_shift (λ (j : ℕ). g (get_or (x ∷ xs) j e)) 0 (length xs), by_place g e xs)

pub joined_count : (d : ℕ) (o : List ℕ) (w : ℕ) (f : Point → Bool) (ts : List (Tree d)) → Order w o → length ts ≡ w → tally f (joined d o ts) ≡ tally f (flatten (map (held d) ts))
unfolding joined
joined_count d o w f ts r h =
    flatten_total f (λ i. held d (get_or ts i (bag d []))) o
    ∙ r (λ (i : ℕ). tally f (held d (get_or ts i (bag d []))))
    ∙ ap (λ (n : ℕ). total (map (λ (i : ℕ). tally f (held d (get_or ts i (bag d [])))) (from 0 n))) (sym h)
    ∙ by_place (λ (t : Tree d). tally f (held d t)) (bag d []) ts
    ∙ sym (flatten_total f (held d) ts)

pub merge_count : (d : ℕ) (o : List ℕ) (w cap : ℕ) (f : Point → Bool) (ts : List (Tree d)) → Order w o → length ts ≡ w → tally f (held (suc d) (merge_s o cap d ts)) ≡ tally f (flatten (map (held d) ts))
unfolding merge_s held
merge_count d o w cap f ts r h =
    cond_same (λ (u : Node (Tree d)). tally f (held (suc d) u) ≡ tally f (flatten (map (held d) ts))) (leb (length (flatten (map (held d) ts))) cap) _ _
    (λ l. joined_count d o w f ts r h) (λ l. refl)

module _ (w cap : ℕ) (o : List ℕ) (r : Order w o) where
  pub delete_count : (d : ℕ) (b : List Side) (p : Point) (t : Tree d) (f : Point → Bool) → 2 ^ length b ≡ w → Good w cap d b t
      → tally f (held d (delete_s o cap d b p t)) + tally f (taken d b p t) ≡ tally f (held d t)
  unfolding delete_s held taken
  delete_count zero b p ps f e g = without_count f p ps
  delete_count (suc d) b p (leaf ps) f e g = without_count f p ps
  delete_count (suc d) b p (branch ts) f e g =
      let i = route b p.at in
      let k = chosen w cap d b p ts e g.0 g.2 in
      let go : List Side → Point → Tree d → Tree d = delete_s o cap d in
      omega (arith, merge_count d o w cap f (into d go b p ts) r (into_length d go b p ts ∙ g.0), into_count d go b p ts f (in_range w cap b p (length ts) e g.0), delete_count d (part b i) p (get_or ts i (bag d [])) f (part_ways w cap b i e) k.1)

  pub delete_good : (d : ℕ) (b : List Side) (p : Point) (t : Tree d) → 2 ^ length b ≡ w → Good w cap d b t → Good w cap d b (delete_s o cap d b p t)
  unfolding delete_s merge_s into
  delete_good zero b p ps e g = tt
  delete_good (suc d) b p (leaf ps) e g =
      let all : Point → Bool = λ x. true in omega (arith, without_count all p ps, tally_true ps, tally_true (without_s p ps))
  delete_good (suc d) b p (branch ts) e g =
      let i = route b p.at in
      let k = chosen w cap d b p ts e g.0 g.2 in
      let go : List Side → Point → Tree d → Tree d = delete_s o cap d in
      let us = into d go b p ts in
      let all : Point → Bool = λ x. true in
      let h : length us ≡ w = into_length d go b p ts ∙ g.0 in
      let new = delete_s o cap d (part b i) p (get_or ts i (bag d [])) in
      let c : GoodChild w cap d b i new = (omega (arith, delete_count d (part b i) p (get_or ts i (bag d [])) (strays b i) (part_ways w cap b i e) k.1, k.0), delete_good d (part b i) p (get_or ts i (bag d [])) (part_ways w cap b i e) k.1) in
      cond_same (λ (u : Node (Tree d)). Good w cap (suc d) b u) (leb (length (flatten (map (held d) us))) cap) _ _
      (λ l. omega (arith, joined_count d o w all us r h, tally_true (flatten (map (held d) us)), tally_true (joined d o us), leb→le (length (flatten (map (held d) us))) cap l))
      (λ l. (h, nleb→lt (length (flatten (map (held d) us))) cap l, each_set (GoodChild w cap d b) 0 ts i new (subst (λ (n : ℕ). GoodChild w cap d b n new) (omega arith) c) g.2))

-- the two merge_s orders of the delivery
pub quad_order : Order 4 (1 ∷ 0 ∷ 3 ∷ 2 ∷ [])
unfolding from total
quad_order g = omega arith

pub oct_order : Order 8 (0 ∷ 1 ∷ 2 ∷ 3 ∷ 4 ∷ 5 ∷ 6 ∷ 7 ∷ [])
unfolding from total
oct_order g = refl
