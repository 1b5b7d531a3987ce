-- Contains and delete_s find an equal point wherever one is held. Over any number of axes. Assumes nothing.
use Prim.Native.Nat.{ℕ, zero, suc, ◌+◌, ◌*◌, ◌^◌, ◌≤◌, ◌<◌, zero-le}
use native.Mathlib.Omega.{arith}
use mathlib.Core.Path.{◌≡◌, refl, ap, sym, ◌∙◌, subst}
use mathlib.Core.Bool.{Bool, true, false, not, cond}
use mathlib.Core.List.{List, [], ◌∷◌, map, flatten}
use lib.ListN.{length, get_or}
use lib.Dec.{T, eqb, eqb→eq}
use lib.Ieee.{Float, binary64, le, eq}
use lib.Ieee.Fits.{and_l, and_r}
use Rattle.floats.proofs.Order.{le_eq}
use Rattle.model.specs.Boxes.{Side, mid, part, route, same_place, turn}
use Rattle.model.specs.Soundness.{All, Each}
use Rattle.model.specs.Trees.{Point, Tree, bag, branch, held, leaf, same}
use Rattle.model.proofs.Counts.{Good, GoodChild, Order, chosen, cond_same, delete_count, held_bag, in_range, part_ways, strays}
use Rattle.model.proofs.Inside.{F64, mid_held}
use Rattle.model.proofs.Lists.{flatten_set, one_if, tally, tally_append}
use Rattle.model.proofs.Short.{contains_s, filled, first, goes, taken}
use Rattle.model.proofs.Skip.{all_f64, f64_all, none_more}

-- ---- equal places go the same way
same_route : (b : List Side) (xs ys : List Float) → All F64 xs → All F64 ys → T (same_place xs ys) → route b xs ≡ route b ys
unfolding route turn same_place
same_route [] xs ys p q h = refl
same_route (s ∷ b) [] [] p q h = refl
same_route (s ∷ b) [] (y ∷ ys) p q h = absurd h
same_route (s ∷ b) (x ∷ xs) [] p q h = absurd h
same_route (s ∷ b) (x ∷ xs) (y ∷ ys) p q h =
    let r = same_route b xs ys p.1 q.1 (and_r (eq x y) (same_place xs ys) h) in
    let e = le_eq binary64 (mid s) x y (mid_held s) p.0 q.0 (and_l (eq x y) (same_place xs ys) h) in
    ap (λ (t : Bool). cond t 1 0 + 2 * route b xs) e ∙ ap (λ (n : ℕ). cond (le (mid s) y) 1 0 + 2 * n) r

-- ---- what is taken out
pub first_same : (p : Point) (ps : List Point) → All (λ q. T (same p q)) (first p ps) × (length (first p ps) ≤ 1)
unfolding first
first_same p [] = (tt, zero-le)
first_same p (q ∷ qs) = cond_same (λ (l : List Point). All (λ q. T (same p q)) l × (length l ≤ 1)) (same p q) (q ∷ []) (first p qs) (λ h. ((h, tt), omega arith)) (λ h. first_same p qs)

pub taken_same : (d : ℕ) (b : List Side) (p : Point) (t : Tree d) → All (λ q. T (same p q)) (taken d b p t) × (length (taken d b p t) ≤ 1)
unfolding taken
taken_same zero b p ps = first_same p ps
taken_same (suc d) b p (leaf ps) = first_same p ps
taken_same (suc d) b p (branch ts) = taken_same d (part b (route b p.at)) p (get_or ts (route b p.at) (bag d []))

-- ---- nothing taken: nothing equal held
first_none : (p : Point) (ps : List Point) → filled (first p ps) ≡ false → tally (same p) ps ≡ 0
unfolding first tally filled
first_none p [] h = refl
first_none p (q ∷ qs) h = go (same p q) (first_none p qs) h
  where
    go : (t : Bool) → (filled (first p qs) ≡ false → tally (same p) qs ≡ 0) → filled {A = Point} (elim t as (λ z. List Point) [ true ↦ q ∷ [] | false ↦ first p qs ]) ≡ false → one_if t + tally (same p) qs ≡ 0
    go true ih h = absurd (subst (λ (b : Bool). T b) h tt)
    go false ih h = let z = ih h in omega arith

-- a list whose points all go to child i has none equal to a point that goes elsewhere
elsewhere : (b : List Side) (i : ℕ) (p : Point) (ps : List Point) → All F64 p.at → (route b p.at ≡ i → ⊥) → tally (strays b i) ps ≡ 0 → tally (λ q. not (all_f64 q.at)) ps ≡ 0 → tally (same p) ps ≡ 0
unfolding tally
elsewhere b i p [] h n s f = refl
elsewhere b i p (q ∷ qs) h n s f =
    let x = none_more (goes b i q) (tally (strays b i) qs) s in
    let y = none_more (all_f64 q.at) (tally (λ q. not (all_f64 q.at)) qs) f in
    no (same p q) (tally (same p) qs) (λ m. n (same_route b p.at q.at h (f64_all q.at y.0) (unfold same in and_l (same_place p.at q.at) (eqb p.payload q.payload) m) ∙ eqb→eq (route b q.at) i x.0)) (elsewhere b i p qs h n x.1 y.1)
  where
    no : (t : Bool) (n : ℕ) → (T t → ⊥) → n ≡ 0 → one_if t + n ≡ 0
    no true n h k = absurd (h tt)
    no false n h k = omega arith

others : (w cap d : ℕ) (b : List Side) (p : Point) (e : Tree d) (k : ℕ) (ts : List (Tree d)) (i : ℕ) → All F64 p.at → k + i ≡ route b p.at → Each (GoodChild w cap d b) k ts
    → tally (λ q. not (all_f64 q.at)) (flatten (map (held d) ts)) ≡ 0 → tally (same p) (held d (get_or ts i e)) ≡ 0 → tally (same p) (flatten (map (held d) ts)) ≡ 0
unfolding flatten tally
others w cap d b p e k [] i h r c f z = refl
others w cap d b p e k (t ∷ ts) zero h r c f z =
    let a = tally_append (same p) (held d t) (flatten (map (held d) ts)) in
    let o = tally_append (λ (q : Point). not (all_f64 q.at)) (held d t) (flatten (map (held d) ts)) in
    omega (arith, rest (suc k) ts (omega arith) c.1 (omega arith))
  where
    rest : (m : ℕ) (us : List (Tree d)) → route b p.at < m → Each (GoodChild w cap d b) m us → tally (λ q. not (all_f64 q.at)) (flatten (map (held d) us)) ≡ 0 → tally (same p) (flatten (map (held d) us)) ≡ 0
    rest m [] l c f = refl
    rest m (u ∷ us) l c f =
        let a = tally_append (same p) (held d u) (flatten (map (held d) us)) in
        let o = tally_append (λ (q : Point). not (all_f64 q.at)) (held d u) (flatten (map (held d) us)) in
        omega (arith, elsewhere b m p (held d u) h (λ (x : route b p.at ≡ m). omega arith) c.0.0 (omega arith), rest (suc m) us (omega arith) c.1 (omega arith))
others w cap d b p e k (t ∷ ts) (suc i) h r c f z =
    let a = tally_append (same p) (held d t) (flatten (map (held d) ts)) in
    let o = tally_append (λ (q : Point). not (all_f64 q.at)) (held d t) (flatten (map (held d) ts)) in
    omega (arith, elsewhere b k p (held d t) h (λ (x : route b p.at ≡ k). omega arith) c.0.0 (omega arith), others w cap d b p e (suc k) ts i h (omega arith) c.1 (omega arith) z)

module _ (w cap : ℕ) (p : Point) (h : All F64 p.at) where
  pub contains_none : (d : ℕ) (b : List Side) (t : Tree d) → 2 ^ length b ≡ w → Good w cap d b t → tally (λ q. not (all_f64 q.at)) (held d t) ≡ 0 → contains_s d b p t ≡ false → tally (same p) (held d t) ≡ 0
  unfolding contains_s taken held tally
  contains_none zero b ps e g f n = first_none p ps n
  contains_none (suc d) b (leaf ps) e g f n = first_none p ps n
  contains_none (suc d) b (branch ts) e g f n =
      let i = route b p.at in
      let k = chosen w cap d b p ts e g.0 g.2 in
      let l = in_range w cap b p (length ts) e g.0 in
      others w cap d b p (bag d []) 0 ts i h (omega arith) g.2 f
      (contains_none d (part b i) (get_or ts i (bag d [])) (part_ways w cap b i e) k.1 (inner d i ts l f) n)
    where
      inner : (d : ℕ) (i : ℕ) (ts : List (Tree d)) → i < length ts → tally (λ q. not (all_f64 q.at)) (flatten (map (held d) ts)) ≡ 0 → tally (λ q. not (all_f64 q.at)) (held d (get_or ts i (bag d []))) ≡ 0
      inner d i ts l f = let u : Point → Bool = λ q. not (all_f64 q.at) in omega (arith, flatten_set (held d) u (bag d []) ts i (bag d []) l, ap (tally u) (held_bag d []))

-- ---- something taken: it was held
some_same : (p : Point) (ps : List Point) → All (λ q. T (same p q)) ps → filled ps ≡ true → 0 < tally (same p) ps
unfolding filled tally
some_same p [] a n = absurd (subst (λ (b : Bool). T b) (sym n) tt)
some_same p (q ∷ qs) a n = one (same p q) (tally (same p) qs) a.0
  where
    one : (t : Bool) (n : ℕ) → T t → 0 < one_if t + n
    one true n h = omega arith
    one false n h = absurd h

pub contains_some : (w cap : ℕ) (o : List ℕ) (r : Order w o) (d : ℕ) (b : List Side) (p : Point) (t : Tree d) → 2 ^ length b ≡ w → Good w cap d b t → contains_s d b p t ≡ true → 0 < tally (same p) (held d t)
unfolding contains_s
contains_some w cap o r d b p t e g n = omega (arith, delete_count w cap o r d b p t (same p) e g, some_same p (taken d b p t) (taken_same d b p t).0 n)
