-- How many nodes an insert_s adds, counted before anything is moved. Over any number of axes. Assumes nothing.
use Prim.Native.Nat.{ℕ, zero, suc, ◌+◌, ◌*◌, ◌^◌, ◌≤◌, ◌<◌}
use native.Mathlib.Nat.{le_trans, le_refl}
use native.Mathlib.Omega.{arith}
use mathlib.Core.Path.{◌≡◌, refl, ap, sym, ◌∙◌}
use mathlib.Core.Bool.{Bool, true, false, not, ◌&&◌}
use mathlib.Core.List.{List, [], ◌∷◌, ◌++◌, map, flatten}
use lib.ListN.{length, get_or, set}
use borrow.Author.Tests.{le-ltb}
use lib.Dec.{T, leb, ltb, T_not, lt→ltb}
use lib.Ieee.Fits.{and_l, and_r}
use Rattle.model.specs.Boxes.{Side, part, route}
use Rattle.model.specs.Searches.{keep}
use Rattle.model.specs.Trees.{Node, Point, Tree, bag, branch, every, held, into, leaf, nodes, total}
use Rattle.model.proofs.Counts.{Good, chosen, cond_same, deal_length, in_range, keep_length, part_ways}
use Rattle.model.proofs.Short.{deal, delete_s, goes, insert_s, merge_s}

-- how often an undivided node with this list splits
unfoldable pub splits : (cap d : ℕ) → List Side → Point → List Point → ℕ
unfolding every route part
splits cap zero b p ps = 0
splits cap (suc d) b p ps =
    elim (ltb (length ps) cap) [
      | true ↦ 0
      | false ↦ elim (every (goes b (route b p.at)) ps) [ true ↦ suc (splits cap d (part b (route b p.at)) p ps) | false ↦ 1 ]
    ]

unfoldable pub needed : (cap d : ℕ) → List Side → Point → Tree d → ℕ
unfolding splits bag route part
needed cap zero b p ps = 0
needed cap (suc d) b p (leaf ps) = splits cap (suc d) b p ps
needed cap (suc d) b p (branch ts) = needed cap d (part b (route b p.at)) p (get_or ts (route b p.at) (bag d []))

-- ---- keep
keep_every : {A : Type 0} (g : A → Bool) (xs : List A) → T (every g xs) → keep g xs ≡ xs
unfolding keep every
keep_every g [] h = refl
keep_every {A} g (x ∷ xs) h =
    cond_same (λ (l : List A). l ≡ x ∷ xs) (g x) (x ∷ keep g xs) (keep g xs) (λ l. ap {B = List A} (λ l. x ∷ l) (keep_every g xs (and_r (g x) (every g xs) h))) (λ l. absurd (T_not (g x) l (and_l (g x) (every g xs) h)))

keep_fewer : {A : Type 0} (g : A → Bool) (xs : List A) → T (not (every g xs)) → length (keep g xs) < length xs
unfolding keep every
keep_fewer g [] h = absurd h
keep_fewer {A} g (x ∷ xs) h = go (g x) h (λ n. keep_fewer g xs n) (keep_length g xs)
  where
    go : (t : Bool) → T (not (t && every g xs)) → (T (not (every g xs)) → length (keep g xs) < length xs) → length (keep g xs) ≤ length xs
        → length {A = A} (elim t [ true ↦ x ∷ keep g xs | false ↦ keep g xs ]) < suc (length xs)
    go true n ih k = let z : length (keep g xs) < length xs = ih n in omega arith
    go false n ih k = omega arith

-- ---- sums
pub sum_set : {K : Type 0} (h : K → ℕ) (e : K) (ts : List K) (i : ℕ) (k : K) → i < length ts → total (map h (set ts i k)) + h (get_or ts i e) ≡ total (map h ts) + h k
unfolding total
sum_set h e [] i k l = absurd (omega arith)
sum_set h e (t ∷ ts) zero k l = omega arith
sum_set h e (t ∷ ts) (suc i) k l = omega (arith, sum_set h e ts i k (omega arith))

pub nodes_bag : (d : ℕ) (ps : List Point) → nodes d (bag d ps) ≡ 1
unfolding nodes bag
nodes_bag zero ps = refl
nodes_bag (suc d) ps = refl

pub nodes_deal : (d : ℕ) (b : List Side) (ps : List Point) (i n : ℕ) → total (map (nodes d) (deal d b ps i n)) ≡ n
unfolding deal total
nodes_deal d b ps i zero = refl
nodes_deal d b ps i (suc n) = omega (arith, nodes_bag d (keep (goes b i) ps), nodes_deal d b ps (suc i) n)

pub deal_at : (d : ℕ) (b : List Side) (ps : List Point) (k n i : ℕ) → i < n → get_or (deal d b ps k n) i (bag d []) ≡ bag d (keep (goes b (k + i)) ps)
unfolding deal
deal_at d b ps k zero i l = absurd (omega arith)
deal_at d b ps k (suc n) zero l = ap (λ (m : ℕ). bag d (keep (goes b m) ps)) (omega arith)
deal_at d b ps k (suc n) (suc i) l = deal_at d b ps (suc k) n i (omega arith) ∙ ap (λ (m : ℕ). bag d (keep (goes b m) ps)) (omega arith)

pub splits_room : (cap d : ℕ) (b : List Side) (p : Point) (ps : List Point) → length ps < cap → splits cap d b p ps ≡ 0
unfolding splits
splits_room cap zero b p ps h = refl
splits_room cap (suc d) b p ps h = cond_same (λ (n : ℕ). n ≡ 0) (ltb (length ps) cap) 0 _ (λ l. refl) (λ l. absurd (T_not (ltb (length ps) cap) l (lt→ltb (length ps) cap h)))

-- one split, and those of the child that gets the point
pub splits_more : (cap d : ℕ) (b : List Side) (p : Point) (ps : List Point) → length ps ≤ cap → cap ≤ length ps
    → splits cap (suc d) b p ps ≡ suc (splits cap d (part b (route b p.at)) p (keep (goes b (route b p.at)) ps))
unfolding splits
splits_more cap d b p ps h k =
    ap (λ (t : Bool). elim t as (λ u. ℕ) [ true ↦ 0 | false ↦ elim (every (goes b i) ps) as (λ u. ℕ) [ true ↦ suc (splits cap d (part b i) p ps) | false ↦ 1 ] ]) (le-ltb (length ps) cap k)
    ∙ (by (every (goes b i) ps) (λ u. keep_every (goes b i) ps u) (λ u. keep_fewer (goes b i) ps u))
  where
    i : ℕ
    i = route b p.at

    by : (t : Bool) → (T t → keep (goes b i) ps ≡ ps) → (T (not t) → length (keep (goes b i) ps) < length ps)
        → elim t as (λ u. ℕ) [ true ↦ suc (splits cap d (part b i) p ps) | false ↦ 1 ] ≡ suc (splits cap d (part b i) p (keep (goes b i) ps))
    by true a f = ap (λ (l : List Point). suc (splits cap d (part b i) p l)) (sym (a tt))
    by false a f = ap suc (sym (splits_room cap d (part b i) p (keep (goes b i) ps) (let z = f tt in omega arith)))

-- ---- an undivided node
cases : (d w : ℕ) (br : Node (Tree d)) (qs : List Point) (m n : ℕ) → nodes (suc d) br ≡ suc (w + w * m) → (t u : Bool) → (T (not t) → T u → m ≡ n) → (T (not t) → T (not u) → m ≡ 0)
    → nodes (suc d) (elim t as (λ z. Node (Tree d)) [ true ↦ leaf qs | false ↦ br ]) ≡ 1 + w * (elim t as (λ z. ℕ) [ true ↦ 0 | false ↦ elim u as (λ z. ℕ) [ true ↦ suc n | false ↦ 1 ] ])
unfolding nodes
cases d w br qs m n e true u a b = omega arith
cases d w br qs m n e false true a b = let z : w * m ≡ w * n = ap (λ (k : ℕ). w * k) (a tt tt) in omega arith
cases d w br qs m n e false false a b = let z : w * m ≡ w * 0 = ap (λ (k : ℕ). w * k) (b tt tt) in omega arith

module _ (w cap : ℕ) where
  -- one split: w new nodes, and what the routed child then needs
  split_nodes : (d : ℕ) (b : List Side) (p : Point) (ps : List Point) → 2 ^ length b ≡ w
      → nodes d (insert_s w cap d (part b (route b p.at)) p (bag d (keep (goes b (route b p.at)) ps))) ≡ 1 + w * splits cap d (part b (route b p.at)) p (keep (goes b (route b p.at)) ps)
      → nodes (suc d) (branch (into d (insert_s w cap d) b p (deal d b ps 0 w))) ≡ suc (w + w * splits cap d (part b (route b p.at)) p (keep (goes b (route b p.at)) ps))
  unfolding nodes into
  split_nodes d b p ps e ih =
      let i = route b p.at in
      let ts = deal d b ps 0 w in
      let l : i < length ts = in_range w cap b p (length ts) e (deal_length d b ps 0 w) in
      let g : get_or ts i (bag d []) ≡ bag d (keep (goes b i) ps) = deal_at d b ps 0 w i (in_range w cap b p w e refl) ∙ ap (λ (m : ℕ). bag d (keep (goes b m) ps)) (omega arith) in
      let n : nodes d (insert_s w cap d (part b i) p (get_or ts i (bag d []))) ≡ 1 + w * splits cap d (part b i) p (keep (goes b i) ps) = ap (λ (t : Tree d). nodes d (insert_s w cap d (part b i) p t)) g ∙ ih in
      let o : nodes d (get_or ts i (bag d [])) ≡ 1 = ap (nodes d) g ∙ nodes_bag d (keep (goes b i) ps) in
      omega (arith, sum_set (nodes d) (bag d []) ts i (insert_s w cap d (part b i) p (get_or ts i (bag d []))) l, nodes_deal d b ps 0 w)

  pub bag_nodes : (d : ℕ) (b : List Side) (p : Point) (ps : List Point) → 2 ^ length b ≡ w → length ps ≤ cap → nodes d (insert_s w cap d b p (bag d ps)) ≡ 1 + w * splits cap d b p ps
  unfolding insert_s bag splits
  bag_nodes zero b p ps e h = unfold nodes in omega arith
  bag_nodes (suc d) b p ps e h =
      let i = route b p.at in
      let kept = keep (goes b i) ps in
      let ih = split_nodes d b p ps e (bag_nodes d (part b i) p kept (part_ways w cap b i e) (le_trans (keep_length (goes b i) ps) h)) in
      cases d w (branch (into d (insert_s w cap d) b p (deal d b ps 0 w))) (ps ++ (p ∷ [])) (splits cap d (part b i) p kept) (splits cap d (part b i) p ps) ih (ltb (length ps) cap) (every (goes b i) ps)
      (λ l u. ap (splits cap d (part b i) p) (keep_every (goes b i) ps u))
      (λ l u. splits_room cap d (part b i) p kept (let z = keep_fewer (goes b i) ps u in omega arith))

  pub insert_nodes : (d : ℕ) (b : List Side) (p : Point) (t : Tree d) → 2 ^ length b ≡ w → Good w cap d b t → nodes d (insert_s w cap d b p t) ≡ nodes d t + w * needed cap d b p t
  unfolding needed nodes bag insert_s into
  insert_nodes zero b p ps e g = omega arith
  insert_nodes (suc d) b p (leaf ps) e g = bag_nodes (suc d) b p ps e g
  insert_nodes (suc d) b p (branch ts) e g =
      let i = route b p.at in
      let k = chosen w cap d b p ts e g.0 g.2 in
      omega (arith, sum_set (nodes d) (bag d []) ts i (insert_s w cap d (part b i) p (get_or ts i (bag d []))) (in_range w cap b p (length ts) e g.0), insert_nodes d (part b i) p (get_or ts i (bag d [])) (part_ways w cap b i e) k.1)

-- ---- delete adds no node
merge_nodes : (o : List ℕ) (cap d : ℕ) (ts : List (Tree d)) → nodes (suc d) (merge_s o cap d ts) ≤ suc (total (map (nodes d) ts))
unfolding merge_s nodes
merge_nodes o cap d ts =
    cond_same (λ (t : Node (Tree d)). nodes (suc d) t ≤ suc (total (map (nodes d) ts))) (leb (length (flatten (map (held d) ts))) cap) _ (branch ts) (λ h. omega arith) (λ h. le_refl (suc (total (map (nodes d) ts))))

pub delete_nodes : (w cap : ℕ) (o : List ℕ) (d : ℕ) (b : List Side) (p : Point) (t : Tree d) → 2 ^ length b ≡ w → Good w cap d b t → nodes d (delete_s o cap d b p t) ≤ nodes d t
unfolding delete_s nodes into
delete_nodes w cap o zero b p ps e g = le_refl 1
delete_nodes w cap o (suc d) b p (leaf ps) e g = le_refl 1
delete_nodes w cap o (suc d) b p (branch ts) e g =
    let i = route b p.at in
    let k = chosen w cap d b p ts e g.0 g.2 in
    omega (
      arith,
      merge_nodes o cap d (into d (delete_s o cap d) b p ts),
      sum_set (nodes d) (bag d []) ts i (delete_s o cap d (part b i) p (get_or ts i (bag d []))) (in_range w cap b p (length ts) e g.0),
      delete_nodes w cap o d (part b i) p (get_or ts i (bag d [])) (part_ways w cap b i e) k.1,
    )
