-- The order of children, one child after the other, and that it is the model's. Assumes nothing.
use mathlib.Core.Path.{◌≡◌, refl, ap, ap₂, sym, ◌∙◌, subst}
use mathlib.Core.Bool.{Bool, true, false}
use mathlib.Core.List.{List, [], ◌∷◌, ◌++◌, map, drop_last}
use Prim.Native.Nat.{ℕ, suc, ◌+◌, ◌-◌, ◌<◌, ◌≤◌, min}
use native.Mathlib.Numerals.{add-one}
use native.Mathlib.Omega.{arith}
use lib.ListN.{length, get_or, take, drop, length-append, length-map}
use lib.Seq.{append_snoc, drop-append-add, drop-cons, drop-drop, get_or_at, length-sets, length-take-le, sets, take_all, take-suc}
use lib.Dec.{ltb}
use lib.Ieee.{Float, nan, le}
use Rattle.model.specs.Boxes.{Side, node_distance, part}
use Rattle.model.specs.Searches.{At, Child, children, less, offer, offer_each, place, place_each, worst}
use Rattle.model.specs.Trees.{Tree}
use Rattle.model.proofs.Inside.{F64}
use Rattle.model.proofs.Nearest.{place_all}
use Rattle.knn.specs.Candidates.{at, dists, entries, settle, Written, InOrder, numbered, ordered}
use Rattle.knn.proofs.Arrays.{sets_front}
use Rattle.knn.proofs.Offers.{entries_written}
use Rattle.knn.proofs.Order.{F64s, place_length, place_order, settle_place}

-- ---- one more
numbered_more : (i : ℕ) (ds : List Float) (d : Float) → numbered i (ds ++ (d ∷ [])) ≡ numbered i ds ++ (at d (i + length ds) ∷ [])
unfolding numbered
numbered_more i [] d = ap (λ (j : ℕ). at d j ∷ []) {x = i} {y = i + 0} (omega arith)
numbered_more i (e ∷ ds) d = ap {B = List (At ℕ)} (λ l. at e i ∷ l) (numbered_more (suc i) ds d ∙ ap (λ (j : ℕ). numbered (suc i) ds ++ (at d j ∷ [])) {x = suc i + length ds} {y = i + suc (length ds)} (omega arith))

place_each_more : {A : Type 0} (t xs : List (At A)) (x : At A) → place_each t (xs ++ (x ∷ [])) ≡ place x (place_each t xs)
unfolding place_each
place_each_more t [] x = refl
place_each_more t (y ∷ xs) x = place_each_more (place y t) xs x

-- the first i of them, in order
pub first : List Float → ℕ → List (At ℕ)
first ds i = place_each [] (numbered 0 (take i ds))

first_more : (ds : List Float) (i : ℕ) → i < length ds → first ds (suc i) ≡ place (at (get_or ds i nan) i) (first ds i)
unfolding first
first_more ds i h =
    ap (λ (l : List Float). place_each [] (numbered 0 l)) (take-suc ds i nan h)
    ∙ ap (place_each []) (numbered_more 0 (take i ds) (get_or ds i nan))
    ∙ place_each_more [] (numbered 0 (take i ds)) (at (get_or ds i nan) (0 + length (take i ds)))
    ∙ ap (λ (j : ℕ). place (at (get_or ds i nan) j) (place_each [] (numbered 0 (take i ds)))) {x = 0 + length (take i ds)} {y = i} (omega (arith, length-take-le i ds (omega arith)))

-- ---- what the arrays hold after the first i
pub record Ordering (ds₀ : List Float) (ps₀ : List ℕ) (ds : List Float) (ps : List ℕ) (i : ℕ) : Type 0 where
  pub in_d : i ≤ length ds₀
  pub in_p : i ≤ length ps₀
  pub many : length (first ds₀ i) ≡ i
  pub sorted : InOrder (first ds₀ i)
  pub numbers : F64s (first ds₀ i)
  pub written : Written (first ds₀ i) ds₀ ps₀ ds ps

-- the second of two writes from the front, if it is no shorter, is the one that is seen
sets_over : {A : Type 0} (l vs us : List A) → length vs ≤ length us → length us ≤ length l → sets (sets l 0 vs) 0 us ≡ sets l 0 us
sets_over {A} l vs us h k =
    sets_front us (sets l 0 vs) (omega (arith, length-sets l 0 vs))
    ∙ ap (λ (r : List A). us ++ drop (length us) r) (sets_front vs l (omega arith))
    ∙ ap (λ (r : List A). us ++ r) past
    ∙ sym (sets_front us l k)
  where
    past : drop (length us) (vs ++ drop (length vs) l) ≡ drop (length us) l
    past = ap (λ (m : ℕ). drop m (vs ++ drop (length vs) l)) {x = length us} {y = length vs + (length us - length vs)} (omega arith)
        ∙ drop-append-add vs (drop (length vs) l) (length us - length vs) ∙ drop-drop (length us - length vs) (length vs) l
        ∙ ap (λ (m : ℕ). drop m l) {x = length vs + (length us - length vs)} {y = length us} (omega arith)

module _ (ds₀ : List Float) (ps₀ : List ℕ) (fs : (i : ℕ) → F64 (get_or ds₀ i nan)) where
  pub ordering_start : Ordering ds₀ ps₀ ds₀ ps₀ 0
  unfolding first place_each numbered
  ordering_start = record { in_d = omega arith; in_p = omega arith; many = refl; sorted = tt; numbers = tt; written = (refl, refl) }

  pub next_is : (ds : List Float) (ps : List ℕ) (i : ℕ) → Ordering ds₀ ps₀ ds ps i → i < length ds₀ → get_or ds i nan ≡ get_or ds₀ i nan
  next_is ds ps i o h =
      ap (λ (l : List Float). get_or l i nan) (o.written.0 ∙ sets_front (dists (first ds₀ i)) ds₀ (omega (arith, n, h)) ∙ ap (λ (r : List Float). dists (first ds₀ i) ++ r) (ap (λ (m : ℕ). drop m ds₀) n ∙ drop-cons ds₀ i nan h))
      ∙ get_or_at (dists (first ds₀ i)) (get_or ds₀ i nan) (drop (suc i) ds₀) nan i n
    where
      n : length (dists (first ds₀ i)) ≡ i
      n = length-map (first ds₀ i) (λ e. e.dist) ∙ o.many

  pub ordering_step : (ds : List Float) (ps : List ℕ) (ds' : List Float) (ps' : List ℕ) (i : ℕ) → Ordering ds₀ ps₀ ds ps i → i < length ds₀ → i < length ps₀
      → Written (settle (at (get_or ds i nan) i) (entries i ds ps)) ds ps ds' ps' → Ordering ds₀ ps₀ ds' ps' (i + 1)
  ordering_step ds ps ds' ps' i o h k w = subst (Ordering ds₀ ps₀ ds' ps') (sym (add-one i)) (record {
    in_d = h;
    in_p = k;
    many = ap length e ∙ place_length x (first ds₀ i) ∙ ap suc o.many;
    sorted = subst InOrder (sym e) (place_order x (first ds₀ i) (fs i) o.numbers o.sorted);
    numbers = subst F64s (sym e) (place_all (λ (y : At ℕ). F64 y.dist) x (first ds₀ i) (fs i) o.numbers);
    written = (w.0 ∙ over (λ e. e.dist) ds₀ ds o.written.0 h, w.1 ∙ over (λ e. e.item) ps₀ ps o.written.1 k);
  })
    where
      x : At ℕ
      x = at (get_or ds₀ i nan) i

      e : first ds₀ (suc i) ≡ place x (first ds₀ i)
      e = first_more ds₀ i h

      -- the newcomer settles where the model places it
      t : settle (at (get_or ds i nan) i) (entries i ds ps) ≡ first ds₀ (suc i)
      t = ap₂ (λ (d : Float) (l : List (At ℕ)). settle (at d i) l) (next_is ds ps i o h) (ap (λ (m : ℕ). entries m ds ps) (sym o.many) ∙ entries_written (first ds₀ i) ds₀ ps₀ ds ps (omega (arith, o.many, o.in_d)) (omega (arith, o.many, o.in_p)) o.written)
          ∙ settle_place x (first ds₀ i) (fs i) o.numbers o.sorted ∙ sym e

      over : {A : Type 0} (f : At ℕ → A) (l₀ l : List A) → l ≡ sets l₀ 0 (map f (first ds₀ i)) → i < length l₀
          → sets l 0 (map f (settle (at (get_or ds i nan) i) (entries i ds ps))) ≡ sets l₀ 0 (map f (first ds₀ (suc i)))
      over f l₀ l q lt =
          ap₂ (λ a b. sets a 0 (map f b)) q t
          ∙ sets_over l₀ (map f (first ds₀ i)) (map f (first ds₀ (suc i)))
          (omega (arith, length-map (first ds₀ i) f, length-map (first ds₀ (suc i)) f, ap length e ∙ place_length x (first ds₀ i)))
          (omega (arith, length-map (first ds₀ (suc i)) f, ap length e ∙ place_length x (first ds₀ i), o.many, lt))

  pub ordering_done : (ds : List Float) (ps : List ℕ) (i n w : ℕ) → Ordering ds₀ ps₀ ds ps i → i ≡ n → n ≡ min w 8 → w ≡ min (length ds₀) (length ps₀) → Written (ordered ds₀ ps₀) ds₀ ps₀ ds ps
  unfolding first
  ordering_done ds ps i n w o ei en ew = subst (λ (m : ℕ). Written (place_each [] (numbered 0 (take m ds₀))) ds₀ ps₀ ds ps) {x = i} {y = min 8 (min (length ds₀) (length ps₀))} (omega (arith, ei, en, ew)) o.written

-- ---- that the numbers in this order are the model's children in theirs
module _ {A B : Type 0} (f : A → B) where
  abbrev pub renamed : At A → At B
  renamed e = record { dist = e.dist; item = f e.item }

  place_renamed : (x : At A) (t : List (At A)) → place (renamed x) (map renamed t) ≡ map renamed (place x t)
  unfolding place
  place_renamed x [] = refl
  place_renamed x (y ∷ ys) = go (less x.dist y.dist) (place_renamed x ys)
    where
      go : (b : Bool) → place (renamed x) (map renamed ys) ≡ map renamed (place x ys) → elim b as (λ u. List (At B)) [ true ↦ renamed x ∷ renamed y ∷ map renamed ys | false ↦ renamed y ∷ place (renamed x) (map renamed ys) ]
          ≡ map renamed (elim b as (λ u. List (At A)) [ true ↦ x ∷ y ∷ ys | false ↦ y ∷ place x ys ])
      go true e = refl
      go false e = ap {B = List (At B)} (λ l. renamed y ∷ l) e

  place_each_renamed : (t xs : List (At A)) → place_each (map renamed t) (map renamed xs) ≡ map renamed (place_each t xs)
  unfolding place_each
  place_each_renamed t [] = refl
  place_each_renamed t (x ∷ xs) = ap (λ (l : List (At B)). place_each l (map renamed xs)) (place_renamed x t) ∙ place_each_renamed (place x t) xs

  -- an offer looks at distances only
  pub worst_renamed : (g : Float → Bool) (t : List (At A)) → worst g (map renamed t) ≡ worst g t
  unfolding worst
  worst_renamed g [] = refl
  worst_renamed g (y ∷ []) = refl
  worst_renamed g (y ∷ z ∷ zs) = worst_renamed g (z ∷ zs)

  drop_renamed : (t : List (At A)) → drop_last (map renamed t) ≡ map renamed (drop_last t)
  drop_renamed [] = refl
  drop_renamed (y ∷ []) = refl
  drop_renamed (y ∷ z ∷ zs) = ap {B = List (At B)} (λ l. renamed y ∷ l) (drop_renamed (z ∷ zs))

  offer_renamed : (k : ℕ) (x : At A) (t : List (At A)) → offer k (renamed x) (map renamed t) ≡ map renamed (offer k x t)
  unfolding offer
  offer_renamed k x t =
      ap₂ (λ (m : ℕ) (w : Bool). elim (ltb m k) as (λ u. List (At B)) [ true ↦ place (renamed x) (map renamed t) | false ↦ elim w as (λ u. List (At B)) [ true ↦ map renamed t | false ↦ place (renamed x) (drop_last (map renamed t)) ] ])
      (length-map t renamed) (worst_renamed (λ w. le w x.dist) t)
      ∙ go (ltb (length t) k) (worst (λ w. le w x.dist) t)
    where
      go : (b w : Bool) → elim b as (λ u. List (At B)) [ true ↦ place (renamed x) (map renamed t) | false ↦ elim w as (λ u. List (At B)) [ true ↦ map renamed t | false ↦ place (renamed x) (drop_last (map renamed t)) ] ]
          ≡ map renamed (elim b as (λ u. List (At A)) [ true ↦ place x t | false ↦ elim w as (λ u. List (At A)) [ true ↦ t | false ↦ place x (drop_last t) ] ])
      go true w = place_renamed x t
      go false true = refl
      go false false = ap (place (renamed x)) (drop_renamed t) ∙ place_renamed x (drop_last t)

  pub offer_each_renamed : (k : ℕ) (t xs : List (At A)) → offer_each k (map renamed t) (map renamed xs) ≡ map renamed (offer_each k t xs)
  unfolding offer_each
  offer_each_renamed k t [] = refl
  offer_each_renamed k t (x ∷ xs) = ap (λ (l : List (At B)). offer_each k l (map renamed xs)) (offer_renamed k x t) ∙ offer_each_renamed k (offer k x t) xs

module _ (d : ℕ) (b : List Side) (c : List Float) (z : Tree d) where
  abbrev pub child : List (Tree d) → ℕ → Child (Tree d)
  child ts i = record { bounds = part b i; tree = get_or ts i z }

  abbrev pub far : ℕ → List (Tree d) → List Float
  far n ts = map (λ (e : At (Child (Tree d))). e.dist) (children d b c n ts)

  numbered_children : (n : ℕ) (us ts : List (Tree d)) → length us ≡ n → map (renamed (child (us ++ ts))) (numbered n (far n ts)) ≡ children d b c n ts
  unfolding numbered children
  numbered_children n us [] e = refl
  numbered_children n us (t ∷ ts) e =
      ap₂ (λ (u : Tree d) (l : List (At (Child (Tree d)))). record { dist = node_distance (part b n) c; item = record { bounds = part b n; tree = u } } ∷ l) (get_or_at us t ts z n e)
      (subst (λ (l : List (Tree d)). map (renamed (child l)) (numbered (suc n) (far (suc n) ts)) ≡ children d b c (suc n) ts) (append_snoc us t ts)
      (numbered_children (suc n) (us ++ (t ∷ [])) ts (length-append us (t ∷ []) ∙ omega (arith, e))))

  pub children_order : (ts : List (Tree d)) → map (renamed (child ts)) (place_each [] (numbered 0 (far 0 ts))) ≡ place_each [] (children d b c 0 ts)
  children_order ts = sym (place_each_renamed (child ts) [] (numbered 0 (far 0 ts))) ∙ ap (place_each []) (numbered_children 0 [] ts refl)

  far_length : (n : ℕ) (ts : List (Tree d)) → length (far n ts) ≡ length ts
  unfolding children
  far_length n [] = refl
  far_length n (t ∷ ts) = ap suc (far_length (suc n) ts)

  -- the same, of what the function leaves
  pub ordered_children : (ts : List (Tree d)) (ps : List ℕ) → length ts ≤ 8 → length ts ≤ length ps → map (renamed (child ts)) (ordered (far 0 ts) ps) ≡ place_each [] (children d b c 0 ts)
  ordered_children ts ps h k =
      ap (λ (l : List Float). map (renamed (child ts)) (place_each [] (numbered 0 l))) (take_all (min 8 (min (length (far 0 ts)) (length ps))) (far 0 ts) (omega (arith, far_length 0 ts, h, k))) ∙ children_order ts
