-- k nearest over places: what the search leaves in the table, that it is what the model leaves, and one more place or one more child at a time. Assumes nothing.
use mathlib.Core.Path.{◌≡◌, refl, ap, ap₂, sym, ◌∙◌, subst}
use mathlib.Core.Bool.{Bool, true, false, not, ◌&&◌}
use mathlib.Core.List.{List, [], ◌∷◌, map}
use Prim.Native.Nat.{ℕ, zero, suc}
use native.Mathlib.Omega.{arith}
use lib.Dec.{T, ltb}
use lib.ListN.{length, get_or, length-map, get_or-map, get_or-eq_default}
use lib.Ieee.{Float, lt}
use Rattle.model.specs.Boxes.{Side, node_distance, part, squared}
use Rattle.model.specs.Searches.{At, Child, Entry, children, entry, offer_each, place_each, worst}
use Rattle.model.specs.Trees.{Point, Tree}
use Rattle.model.proofs.Nearest.{over, seek, skips}
use Rattle.knn.specs.Candidates.{numbered}
use Rattle.knn.proofs.Children.{child, children_order, far, offer_each_renamed, renamed, worst_renamed}
use Rattle.pool.specs.Trees.{leaf, branch, PTree, none, erase}
use Rattle.pool.proofs.Lists.{by_lt}
use Rattle.pool.proofs.Trees.{Full, flat_full}

-- a place at its point's distance from the centre
abbrev pub candidate : (ℕ → Point) → List Float → ℕ → At ℕ
candidate pt c p = record { dist = squared (pt p).at c; item = p }

-- children in their order: "the rest are skipped once the table is full (k entries) and a node distance exceeds the worst kept"
unfoldable pub over_p : ℕ → (ℕ → List (At ℕ) → List (At ℕ)) → List (At ℕ) → List (At ℕ) → List (At ℕ)
unfolding skips
over_p k go [] t = t
over_p k go (x ∷ xs) t = elim (not (ltb (length t) k) && worst (λ w. lt w x.dist) t) [ true ↦ t | false ↦ over_p k go xs (go x.item t) ]

-- the node distances of the first m children
unfoldable pub nears : List Side → List Float → ℕ → ℕ → List Float
nears b c i zero = []
nears b c i (suc m) = node_distance (part b i) c ∷ nears b c (suc i) m

unfoldable pub seek_p : ℕ → (ℕ → Point) → List Float → (ways d : ℕ) → List Side → PTree d → List (At ℕ) → List (At ℕ)
unfolding offer_each over_p place_each numbered nears
seek_p k pt c ways zero b l t = offer_each k t (map (candidate pt c) l)
seek_p k pt c ways (suc d) b (leaf l) t = offer_each k t (map (candidate pt c) l)
seek_p k pt c ways (suc d) b (branch g ts) t = over_p k (λ i u. seek_p k pt c ways d (part b i) (get_or ts i (none d)) u) (place_each [] (numbered 0 (nears b c 0 ways))) t

-- ---- it is the model's search
far_nears : (d : ℕ) (b : List Side) (c : List Float) (z : Tree d) (i : ℕ) (ts : List (Tree d)) → far d b c z i ts ≡ nears b c i (length ts)
unfolding children nears
far_nears d b c z i [] = refl
far_nears d b c z i (t ∷ ts) = ap {B = List Float} (λ l. node_distance (part b i) c ∷ l) (far_nears d b c z (suc i) ts)

module _ (pt : ℕ → Point) (k : ℕ) (c : List Float) where
  over_erase : (d : ℕ) (b : List Side) (f : ℕ → Child (Tree d)) (go : ℕ → List (At ℕ) → List (At ℕ)) (es T : List (At ℕ))
      → ((i : ℕ) (u : List (At ℕ)) → map (renamed pt) (go i u) ≡ seek k c d (f i).bounds (f i).tree (map (renamed pt) u))
      → map (renamed pt) (over_p k go es T) ≡ over k (λ n u. seek k c d n u) (map (renamed f) es) (map (renamed pt) T)
  unfolding over_p over skips
  over_erase d b f go [] T ih = refl
  over_erase d b f go (x ∷ xs) T ih =
      by (not (ltb (length T) k) && worst (λ w. lt w x.dist) T) (over_p k go xs (go x.item T))
      (over_erase d b f go xs (go x.item T) ih ∙ ap (over k (λ n u. seek k c d n u) (map (renamed f) xs)) (ih x.item T))
      ∙ ap₂ (λ (m : ℕ) (w : Bool). elim (not (ltb m k) && w) as (λ u. List Entry) [ true ↦ map (renamed pt) T | false ↦ over k (λ n u. seek k c d n u) (map (renamed f) xs) (seek k c d (f x.item).bounds (f x.item).tree (map (renamed pt) T)) ])
      (sym (length-map T (renamed pt))) (sym (worst_renamed pt (λ w. lt w x.dist) T))
    where
      by : (s : Bool) (l : List (At ℕ)) {m : List Entry} → map (renamed pt) l ≡ m → map (renamed pt) (elim s as (λ u. List (At ℕ)) [ true ↦ T | false ↦ l ]) ≡ elim s as (λ u. List Entry) [ true ↦ map (renamed pt) T | false ↦ m ]
      by true l e = refl
      by false l e = e

  list_erase : (l : List ℕ) (T : List (At ℕ)) → map (renamed pt) (offer_each k T (map (candidate pt c) l)) ≡ offer_each k (map (renamed pt) T) (map (entry c) (map pt l))
  unfolding entry
  list_erase l T = sym (offer_each_renamed pt k T (map (candidate pt c) l)) ∙ ap (offer_each k (map (renamed pt) T)) (same l)
    where
      same : (l : List ℕ) → map (renamed pt) (map (candidate pt c) l) ≡ map (entry c) (map pt l)
      same [] = refl
      same (p ∷ l) = ap {B = List Entry} (λ u. record { dist = squared (pt p).at c; item = pt p } ∷ u) (same l)

  pub seek_erase : (ways d : ℕ) (b : List Side) (t : PTree d) (T : List (At ℕ)) → Full d ways t → map (renamed pt) (seek_p k pt c ways d b t T) ≡ seek k c d b (erase pt d t) (map (renamed pt) T)
  unfolding seek_p seek erase
  seek_erase ways zero b l T f = list_erase l T
  seek_erase ways (suc d) b (leaf l) T f = list_erase l T
  seek_erase ways (suc d) b (branch g ts) T f =
      over_erase d b (child d b c z us) _ (place_each [] (numbered 0 (nears b c 0 ways))) T
      (λ i u. seek_erase ways d (part b i) (get_or ts i (none d)) u (full i) ∙ ap (λ (v : Tree d). seek k c d (part b i) v (map (renamed pt) u)) (sym (get_or-map (erase pt d) ts i (none d))))
      ∙ ap (λ (es : List (At (Child (Tree d)))). over k (λ n u. seek k c d n u) es (map (renamed pt) T))
      (ap (λ (ns : List Float). map (renamed (child d b c z us)) (place_each [] (numbered 0 ns))) (ap (nears b c 0) (sym (length-map ts (erase pt d) ∙ f.0)) ∙ sym (far_nears d b c z 0 us)) ∙ children_order d b c z us)
    where
      full : (i : ℕ) → Full d ways (get_or ts i (none d))
      full i = by_lt i ways (f.1 i) (λ h. subst (Full d ways) (sym (get_or-eq_default ts (none d) {n = i} (omega (arith, h, f.0)))) (flat_full d ways []))

      us : List (Tree d)
      us = map (erase pt d) ts

      z : Tree d
      z = erase pt d (none d)
