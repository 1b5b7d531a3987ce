-- On good trees the definitions of insert, delete and contains are the short forms. Over any number of axes and any merge order. Assumes nothing.
use Prim.Native.Nat.{ℕ, zero, suc, ◌+◌, ◌*◌, ◌^◌, ◌≤◌, ◌<◌}
use native.Mathlib.Omega.{arith}
use mathlib.Core.Path.{◌≡◌, refl, ap, ap₂, sym, ◌∙◌, subst}
use mathlib.Core.Logic.{inl, inr}
use mathlib.Core.Bool.{Bool, true, false, ◌&&◌}
use mathlib.Core.List.{List, [], ◌∷◌, ◌++◌, map, flatten, append-nil, append_assoc}
use mathlib.Core.Option.{Option, none, some}
use lib.ListN.{length, get_or, set, replicate, length-append}
use lib.Dec.{T, leb, ltb, T_not, lt→ltb, leb→le}
use lib.Ieee.Fits.{and_i, eq→eqb}
use Rattle.model.specs.Boxes.{Side, inside, part, route}
use Rattle.model.specs.Searches.{keep}
use Rattle.model.specs.Soundness.{All, Each}
use Rattle.model.specs.Trees.{Node, Point, Tree, bag, branch, contains, count, delete, every, held, insert, into, into_each, joined, leaf, merge, same, some?, total, undivided, without}
use Rattle.model.proofs.Counts.{Good, GoodChild, Order, chosen, cond_same, deal_good, deal_length, delete_count, delete_good, eq_test, in_range, keep_length, part_ways, strays}
use Rattle.model.proofs.Inside.{Bounded, F64, part_bounded, part_inside}
use Rattle.model.proofs.Lists.{each_set}
use Rattle.model.proofs.Room.{deal_at}
use Rattle.model.proofs.Short.{contains_s, deal, delete_s, filled, first, goes, insert_s, merge_s, taken, without_s}
use Rattle.model.proofs.Skip.{keep_append, keep_none}

-- ---- moving down one more point
module _ (d : ℕ) (b : List Side) (ps : List Point) (q : Point) where
  one_other : (k : ℕ) → (route b q.at ≡ k → ⊥) → keep (goes b k) (ps ++ (q ∷ [])) ≡ keep (goes b k) ps
  unfolding keep
  one_other k n =
      keep_append (goes b k) ps (q ∷ [])
      ∙ ap (λ (l : List Point). keep (goes b k) ps ++ l) (elim (eq_test (route b q.at) k) [ inl e ↦ absurd (n e.0) | inr e ↦ keep_none (goes b k) (q ∷ []) (e.1, tt) ])
      ∙ append-nil (keep (goes b k) ps)

  one_here : (k : ℕ) → route b q.at ≡ k → keep (goes b k) (ps ++ (q ∷ [])) ≡ keep (goes b k) ps ++ (q ∷ [])
  one_here k n =
      keep_append (goes b k) ps (q ∷ [])
      ∙ ap (λ (l : List Point). keep (goes b k) ps ++ l) (unfold keep in cond_same (λ (l : List Point). l ≡ q ∷ []) (goes b k q) (q ∷ []) [] (λ h. refl) (λ h. absurd (T_not (goes b k q) h (eq→eqb n))))

  deal_past : (k n : ℕ) → route b q.at < k → deal d b (ps ++ (q ∷ [])) k n ≡ deal d b ps k n
  unfolding deal
  deal_past k zero h = refl
  deal_past k (suc n) h = ap₂ {C = List (Tree d)} (λ x xs. bag d x ∷ xs) (one_other k (λ (e : route b q.at ≡ k). omega arith)) (deal_past (suc k) n (omega arith))

  deal_step : (k n i : ℕ) → k + i ≡ route b q.at → deal d b (ps ++ (q ∷ [])) k n ≡ set (deal d b ps k n) i (bag d (keep (goes b (route b q.at)) ps ++ (q ∷ [])))
  unfolding deal
  deal_step k zero i e = refl
  deal_step k (suc n) zero e =
      let z : route b q.at ≡ k = omega arith in
      ap₂ {C = List (Tree d)} (λ x xs. bag d x ∷ xs) (one_here k z ∙ ap (λ (m : ℕ). keep (goes b m) ps ++ (q ∷ [])) (sym z)) (deal_past (suc k) n (omega arith))
  deal_step k (suc n) (suc i) e = ap₂ {C = List (Tree d)} (λ x xs. bag d x ∷ xs) (one_other k (λ (z : route b q.at ≡ k). omega arith)) (deal_step (suc k) n i (omega arith))

-- ---- a split moves the points down in list order
insert_room : (w cap d : ℕ) (b : List Side) (p : Point) (ps : List Point) → length ps < cap → insert w cap d b p (bag d ps) ≡ bag d (ps ++ (p ∷ []))
unfolding insert bag
insert_room w cap zero b p ps h = refl
insert_room w cap (suc d) b p ps h =
    cond_same (λ (t : Node (Tree d)). t ≡ leaf (ps ++ (p ∷ []))) (ltb (length ps) cap) (leaf (ps ++ (p ∷ []))) _ (λ l. refl) (λ l. absurd (T_not (ltb (length ps) cap) l (lt→ltb (length ps) cap h)))

empties : (d : ℕ) (b : List Side) (i n : ℕ) → replicate n (bag d []) ≡ deal d b [] i n
unfolding deal keep
empties d b i zero = refl
empties d b i (suc n) = ap (λ (l : List (Tree d)). bag d [] ∷ l) (empties d b (suc i) n)

module _ (w cap : ℕ) where
  moved : (d : ℕ) (b : List Side) (qs ps : List Point) → 2 ^ length b ≡ w → length qs + length ps ≤ cap → into_each d (insert w cap d) b ps (deal d b qs 0 w) ≡ deal d b (qs ++ ps) 0 w
  unfolding into_each into
  moved d b qs [] e h = ap (λ (l : List Point). deal d b l 0 w) (sym (append-nil qs))
  moved d b qs (p ∷ ps) e h =
      let i = route b p.at in
      let g : get_or (deal d b qs 0 w) i (bag d []) ≡ bag d (keep (goes b i) qs) = deal_at d b qs 0 w i (in_range w cap b p w e refl) ∙ ap (λ (m : ℕ). bag d (keep (goes b m) qs)) (zero_plus i) in
      let s : into d (insert w cap d) b p (deal d b qs 0 w) ≡ deal d b (qs ++ (p ∷ [])) 0 w =
      ap (λ (t : Tree d). set (deal d b qs 0 w) i (insert w cap d (part b i) p t)) g
      ∙ ap (λ (t : Tree d). set (deal d b qs 0 w) i t) (insert_room w cap d (part b i) p (keep (goes b i) qs) (omega (arith, keep_length (goes b i) qs)))
      ∙ sym (deal_step d b qs p 0 w i (zero_plus i)) in
      ap (into_each d (insert w cap d) b ps) s
      ∙ moved d b (qs ++ (p ∷ [])) ps e (omega (arith, length-append qs (p ∷ [])))
      ∙ ap (λ (l : List Point). deal d b l 0 w) (append_assoc qs (p ∷ []) ps)
    where
      zero_plus : (i : ℕ) → 0 + i ≡ i
      zero_plus i = omega arith

  into_same : (d : ℕ) (b : List Side) (p : Point) (ts : List (Tree d)) → insert w cap d (part b (route b p.at)) p (get_or ts (route b p.at) (bag d [])) ≡ insert_s w cap d (part b (route b p.at)) p (get_or ts (route b p.at) (bag d []))
      → into d (insert w cap d) b p ts ≡ into d (insert_s w cap d) b p ts
  unfolding into
  into_same d b p ts e = ap (λ (t : Tree d). set ts (route b p.at) t) e

  pub insert_is : (d : ℕ) (b : List Side) (p : Point) (t : Tree d) → 2 ^ length b ≡ w → Good w cap d b t → insert w cap d b p t ≡ insert_s w cap d b p t
  unfolding insert insert_s
  insert_is zero b p ps e g = refl
  insert_is (suc d) b p (leaf ps) e g =
      let i = route b p.at in
      let k = chosen w cap d b p (deal d b ps 0 w) e (deal_length d b ps 0 w) (deal_good w cap d b ps 0 w g) in
      ap (λ (u : Node (Tree d)). elim (ltb (length ps) cap) as (λ z. Node (Tree d)) [ true ↦ leaf (ps ++ (p ∷ [])) | false ↦ u ])
      (ap (λ (l : List (Tree d)). branch (into d (insert w cap d) b p l)) (ap (into_each d (insert w cap d) b ps) (empties d b 0 w) ∙ moved d b [] ps e (let z : length ps ≤ cap = g in omega arith))
      ∙ ap (λ (l : List (Tree d)). branch l) (into_same d b p (deal d b ps 0 w) (insert_is d (part b i) p (get_or (deal d b ps 0 w) i (bag d [])) (part_ways w cap b i e) k.1)))
  insert_is (suc d) b p (branch ts) e g =
      let i = route b p.at in
      let k = chosen w cap d b p ts e g.0 g.2 in
      ap (λ (l : List (Tree d)). branch l) (into_same d b p ts (insert_is d (part b i) p (get_or ts i (bag d [])) (part_ways w cap b i e) k.1))

-- ---- a point taken out of a list
abbrev pub given : {A : Type 0} → Bool → A → Option A
given true x = some x
given false x = none

pub without_is : (p : Point) (ps : List Point) → without p ps ≡ given (filled (first p ps)) (without_s p ps)
unfolding without first without_s filled
without_is p [] = refl
without_is p (q ∷ qs) = go (same p q) (filled {A = Point} (first p qs)) refl (without_is p qs)
  where
    go : (t u : Bool) → filled {A = Point} (first p qs) ≡ u → without p qs ≡ given {A = List Point} u (without_s p qs)
        → elim t as (λ z. Option (List Point)) [ true ↦ some qs | false ↦ elim (without p qs) as (λ z. Option (List Point)) [ none ↦ none | some rs ↦ some (q ∷ rs) ] ]
        ≡ given {A = List Point} (filled {A = Point} (elim t as (λ z. List Point) [ true ↦ q ∷ [] | false ↦ first p qs ])) (elim t as (λ z. List Point) [ true ↦ qs | false ↦ q ∷ without_s p qs ])
    go true u i e = refl
    go false true i e = ap (λ (o : Option (List Point)). elim o as (λ z. Option (List Point)) [ none ↦ none | some rs ↦ some (q ∷ rs) ]) e ∙ ap (λ (b : Bool). given {A = List Point} b (q ∷ without_s p qs)) (sym i)
    go false false i e = ap (λ (o : Option (List Point)). elim o as (λ z. Option (List Point)) [ none ↦ none | some rs ↦ some (q ∷ rs) ]) e ∙ ap (λ (b : Bool). given {A = List Point} b (q ∷ without_s p qs)) (sym i)

-- ---- a merge finds only undivided children
few_undivided : (w cap d : ℕ) (b : List Side) (t : Tree d) → Good w cap d b t → length (held d t) ≤ cap → T (undivided d t)
unfolding undivided held
few_undivided w cap zero b ps g h = tt
few_undivided w cap (suc d) b (leaf ps) g h = tt
few_undivided w cap (suc d) b (branch ts) g h = absurd (let z : cap < length (flatten (map (held d) ts)) = g.1 in omega arith)

pub merge_only_leaves : (w cap d : ℕ) (b : List Side) (i : ℕ) (ts : List (Tree d)) → Each (GoodChild w cap d b) i ts → length (flatten (map (held d) ts)) ≤ cap → T (every (undivided d) ts)
unfolding flatten every
merge_only_leaves w cap d b i [] c h = tt
merge_only_leaves w cap d b i (t ∷ ts) c h =
    let e = length-append (held d t) (flatten (map (held d) ts)) in
    and_i (undivided d t) (every (undivided d) ts) (few_undivided w cap d (part b i) t c.0.1 (omega arith)) (merge_only_leaves w cap d b (suc i) ts c.1 (omega arith))

pub total_held : (d : ℕ) (ts : List (Tree d)) → total (map (count d) ts) ≡ length (flatten (map (held d) ts))
unfolding total count flatten
total_held d [] = refl
total_held d (t ∷ ts) = omega (arith, length-append (held d t) (flatten (map (held d) ts)), total_held d ts)

pub merge_is : (w cap : ℕ) (o : List ℕ) (d : ℕ) (b : List Side) (ts : List (Tree d)) → Each (GoodChild w cap d b) 0 ts → merge o cap d ts ≡ merge_s o cap d ts
unfolding merge merge_s
merge_is w cap o d b ts c =
    ap (λ (t : Bool). elim t as (λ z. Node (Tree d)) [ true ↦ leaf (joined d o ts) | false ↦ branch ts ])
    (ap (λ (n : ℕ). every (undivided d) ts && leb n cap) (total_held d ts)
    ∙ go (every (undivided d) ts) (leb (length (flatten (map (held d) ts))) cap) (λ h. merge_only_leaves w cap d b 0 ts c (leb→le (length (flatten (map (held d) ts))) cap h)))
  where
    go : (e l : Bool) → (T l → T e) → (e && l) ≡ l
    go true l h = refl
    go false true h = absurd (h tt)
    go false false h = refl

-- ---- delete and contains go down the path of the point, and it is inside every box there
pub record Placed (w cap d j : ℕ) (b : List Side) (p : Point) (t : Tree d) : Type 0 where
  pub ways : 2 ^ length b ≡ w
  pub good : Good w cap d b t
  pub depth : 3 * d + j ≤ 1023
  pub bounds : All (Bounded j) b
  pub numbers : All F64 p.at
  pub is_inside : T (inside b p.at)

pub placed_down : (w cap d j : ℕ) (b : List Side) (p : Point) (ts : List (Tree d)) → Placed w cap (suc d) j b p (branch ts) → Placed w cap d (3 + j) (part b (route b p.at)) p (get_or ts (route b p.at) (bag d []))
placed_down w cap d j b p ts a =
    let m : 3 + j ≤ 1023 = let z = a.depth in omega arith in
    record {
      ways = part_ways w cap b (route b p.at) a.ways;
      good = (chosen w cap d b p ts a.ways a.good.0 a.good.2).1;
      depth = let z = a.depth in omega arith;
      bounds = part_bounded j b (route b p.at) m a.bounds;
      numbers = a.numbers;
      is_inside = part_inside j b p.at m a.bounds a.numbers a.is_inside;
    }

when_inside : {A : Type 0} (t : Bool) (x : Option A) → T t → elim t as (λ z. Option A) [ true ↦ x | false ↦ none ] ≡ x
when_inside true x h = refl
when_inside false x h = absurd h

module _ (w cap : ℕ) (o : List ℕ) (r : Order w o) where
  pub delete_is : (d j : ℕ) (b : List Side) (p : Point) (t : Tree d) → Placed w cap d j b p t → delete o cap d b p t ≡ given (filled (taken d b p t)) (delete_s o cap d b p t)
  unfolding delete delete_s taken
  delete_is zero j b p ps a = when_inside (inside b p.at) (without p ps) a.is_inside ∙ without_is p ps
  delete_is (suc d) j b p (leaf ps) a =
      when_inside (inside b p.at) _ a.is_inside ∙ ap (λ (u : Option (List Point)). elim u as (λ z. Option (Node (Tree d))) [ none ↦ none | some qs ↦ some (leaf qs) ]) (without_is p ps) ∙ leaf_given (filled (first p ps))
    where
      leaf_given : (t : Bool) → elim (given {A = List Point} t (without_s p ps)) as (λ z. Option (Node (Tree d))) [ none ↦ none | some qs ↦ some (leaf qs) ] ≡ given {A = Node (Tree d)} t (leaf (without_s p ps))
      leaf_given true = refl
      leaf_given false = refl
  delete_is (suc d) j b p (branch ts) a =
      let i = route b p.at in
      let x = get_or ts i (bag d []) in
      let a' = placed_down w cap d j b p ts a in
      let k = chosen w cap d b p ts a.ways a.good.0 a.good.2 in
      let new = delete_s o cap d (part b i) p x in
      let c : GoodChild w cap d b i new = (
        omega (arith, delete_count w cap o r d (part b i) p x (strays b i) a'.ways a'.good, k.0),
        delete_good w cap o r d (part b i) p x a'.ways a'.good,
      ) in
      when_inside (inside b p.at) _ a.is_inside
      ∙ ap (λ (u : Option (Tree d)). elim u as (λ z. Option (Node (Tree d))) [ none ↦ none | some t ↦ some (merge o cap d (set ts i t)) ]) (delete_is d (3 + j) (part b i) p x a')
      ∙ branch_given i new (filled (taken d (part b i) p x))
      ∙ ap (given (filled (taken d (part b i) p x))) (merge_is w cap o d b (set ts i new) (each_set (GoodChild w cap d b) 0 ts i new (subst (λ (n : ℕ). GoodChild w cap d b n new) (zero_plus i) c) a.good.2))
    where
      zero_plus : (i : ℕ) → i ≡ 0 + i
      zero_plus i = omega arith

      branch_given : (i : ℕ) (new : Tree d) (t : Bool) → elim (given {A = Tree d} t new) as (λ z. Option (Node (Tree d))) [ none ↦ none | some t ↦ some (merge o cap d (set ts i t)) ] ≡ given {A = Node (Tree d)} t (merge o cap d (set ts i new))
      branch_given i new true = refl
      branch_given i new false = refl

both_true : (a b : Bool) → T a → (a && b) ≡ b
both_true true b h = refl
both_true false b h = absurd h

some_given : {A : Type 0} (t : Bool) (x : A) → some? (given t x) ≡ t
unfolding some?
some_given true x = refl
some_given false x = refl

pub contains_is : (w cap d j : ℕ) (b : List Side) (p : Point) (t : Tree d) → Placed w cap d j b p t → contains d b p t ≡ contains_s d b p t
unfolding contains contains_s taken
contains_is w cap zero j b p ps a = both_true (inside b p.at) (some? (without p ps)) a.is_inside ∙ ap some? (without_is p ps) ∙ some_given (filled (first p ps)) (without_s p ps)
contains_is w cap (suc d) j b p (leaf ps) a = both_true (inside b p.at) (some? (without p ps)) a.is_inside ∙ ap some? (without_is p ps) ∙ some_given (filled (first p ps)) (without_s p ps)
contains_is w cap (suc d) j b p (branch ts) a =
    both_true (inside b p.at) _ a.is_inside ∙ contains_is w cap d (3 + j) (part b (route b p.at)) p (get_or ts (route b p.at) (bag d [])) (placed_down w cap d j b p ts a)
