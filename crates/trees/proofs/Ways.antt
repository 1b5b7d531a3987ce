-- The nodes that are passed on the way down to an undivided node, noted on the first way and used on the second. Over any number of ways. Assumes nothing.
use mathlib.Core.Path.{◌≡◌, refl, ap, ap₂, sym, ◌∙◌, subst}
use mathlib.Core.Logic.{◌≢◌}
use mathlib.Core.List.{List, [], ◌∷◌}
use Prim.Native.Nat.{ℕ, zero, suc, ◌+◌, ◌*◌, ◌-◌, ◌<◌, ◌≤◌}
use native.Mathlib.Numerals.{add-one, sub-one}
use native.Mathlib.Omega.{arith}
use lib.Ieee.{Float}
use lib.ListN.{length, get_or, take, drop, drop_of_length-le}
use lib.Seq.{drop-cons, get_or-set_other, take_at}
use Rattle.model.specs.Boxes.{Side, part, route}
use Rattle.pool.specs.Lists.{ifz}
use Rattle.pool.specs.Writes.{counted, kid, lowered}
use Rattle.pool.proofs.Lists.{by-eq, ifz-no, ifz-yes}
use Rattle.knn.proofs.Arrays.{sets_front}
use Rattle.trees.proofs.Collects.{Noting, noting_end, noting_start, noting_step}
use Rattle.trees.proofs.Descents.{Spot, reach, reach_down, reach_here, reach_last}
use Rattle.trees.proofs.Walks.{Notes}

-- the nodes that are passed, the node where the way ends not among them
unfoldable pub way : (ways : ℕ) → List ℕ → List Float → (d : ℕ) → List Side → ℕ → List ℕ
unfolding route part
way ways n v zero b i = []
way ways n v (suc d) b i = ifz (get_or n (4 * i) 0) [] (i ∷ way ways n v d (part b (route b v)) (kid ways (get_or n (4 * i) 0) (route b v)))

module _ (ways : ℕ) (n : List ℕ) (v : List Float) where
  pub way_last : (d : ℕ) (b : List Side) (i : ℕ) → d ≡ 0 → way ways n v d b i ≡ []
  unfolding way
  way_last zero b i e = refl
  way_last (suc d) b i e = absurd (omega arith)

  pub way_here : (d : ℕ) (b : List Side) (i k : ℕ) → k ≡ get_or n (4 * i) 0 → k ≡ 0 → way ways n v d b i ≡ []
  unfolding way
  way_here zero b i k ek z = refl
  way_here (suc d) b i k ek z = ifz-yes (get_or n (4 * i) 0) _ _ (sym ek ∙ z)

  pub way_down : (d : ℕ) (b b' : List Side) (i k c j : ℕ) → 0 < d → k ≡ get_or n (4 * i) 0 → k ≢ 0 → c ≡ route b v → j ≡ kid ways k c → b' ≡ part b c → way ways n v d b i ≡ i ∷ way ways n v (d - 1) b' j
  unfolding way
  way_down zero b b' i k c j h ek z ec ej eb = absurd (omega arith)
  way_down (suc d) b b' i k c j h ek z ec ej eb =
      ifz-no (get_or n (4 * i) 0) _ _ (λ e. z (ek ∙ e))
      ∙ ap₂ (λ (u : List Side) (w : ℕ). i ∷ way ways n v d u w) (sym (eb ∙ ap (part b) ec)) (sym (ej ∙ ap₂ (kid ways) ek ec))
      ∙ ap (λ (e : ℕ). i ∷ way ways n v e b' j) (sym (sub-one (suc d)))

  pub way_short : (d : ℕ) (b : List Side) (i : ℕ) → length (way ways n v d b i) ≤ d
  unfolding way
  way_short zero b i = omega arith
  way_short (suc d) b i = by-eq (get_or n (4 * i) 0) 0
      (λ e. subst (λ (l : List ℕ). length l ≤ suc d) (sym (ifz-yes (get_or n (4 * i) 0) _ _ e)) (omega arith))
      (λ e. subst (λ (l : List ℕ). length l ≤ suc d) (sym (ifz-no (get_or n (4 * i) 0) _ _ e)) (omega (arith, way_short d (part b (route b v)) (kid ways (get_or n (4 * i) 0) (route b v)))))

  -- a way that passes a node passes this one, and goes on from its child
  pub record More (d : ℕ) (b : List Side) (i j : ℕ) (rest : List ℕ) : Type 0 where
    pub deep : d ≢ 0
    pub divided : get_or n (4 * i) 0 ≢ 0
    pub same : j ≡ i
    pub goes_on : rest ≡ way ways n v (d - 1) (part b (route b v)) (kid ways (get_or n (4 * i) 0) (route b v))
    pub ends : reach ways n v d b i ≡ reach ways n v (d - 1) (part b (route b v)) (kid ways (get_or n (4 * i) 0) (route b v))

  pub way_more : (d : ℕ) (b : List Side) (i j : ℕ) (rest : List ℕ) → j ∷ rest ≡ way ways n v d b i → More d b i j rest
  way_more d b i j rest e = by-eq d 0 (λ z. absurd (no_nil (e ∙ way_last d b i z)))
      (λ dz. by-eq (get_or n (4 * i) 0) 0 (λ z. absurd (no_nil (e ∙ way_here d b i (get_or n (4 * i) 0) refl z)))
      (λ nz. let s = e ∙ way_down d b (part b (route b v)) i (get_or n (4 * i) 0) (route b v) (kid ways (get_or n (4 * i) 0) (route b v)) (omega (arith, dz)) refl nz refl refl refl in
      record {
        deep = dz;
        divided = nz;
        same = ap (λ (l : List ℕ). get_or l 0 0) s;
        goes_on = ap (λ (l : List ℕ). drop 1 l) s;
        ends = reach_down ways n v d b (part b (route b v)) i (get_or n (4 * i) 0) (route b v) (kid ways (get_or n (4 * i) 0) (route b v)) (omega (arith, dz)) refl nz refl refl refl;
      }))
    where
      no_nil : j ∷ rest ≡ [] → ⊥
      no_nil q = omega (arith, ap length q)

-- ---- words with the same groups have the same ways
module _ (ways : ℕ) (n n' : List ℕ) (v : List Float) (h : (u : ℕ) → get_or n' (4 * u) 0 ≡ get_or n (4 * u) 0) where
  pub reach_same : (d : ℕ) (b : List Side) (i : ℕ) → reach ways n' v d b i ≡ reach ways n v d b i
  unfolding reach
  reach_same zero b i = refl
  reach_same (suc d) b i =
      ap (λ (s : Spot). ifz (get_or n' (4 * i) 0) (record { node = i; box = b; levels = suc d }) s) (reach_same d (part b (route b v)) (kid ways (get_or n' (4 * i) 0) (route b v)))
      ∙ ap (λ (g : ℕ). ifz g (record { node = i; box = b; levels = suc d }) (reach ways n v d (part b (route b v)) (kid ways g (route b v)))) (h i)

  pub way_same : (d : ℕ) (b : List Side) (i : ℕ) → way ways n' v d b i ≡ way ways n v d b i
  unfolding way
  way_same zero b i = refl
  way_same (suc d) b i =
      ap (λ (l : List ℕ). ifz (get_or n' (4 * i) 0) [] (i ∷ l)) (way_same d (part b (route b v)) (kid ways (get_or n' (4 * i) 0) (route b v)))
      ∙ ap (λ (g : ℕ). ifz g [] (i ∷ way ways n v d (part b (route b v)) (kid ways g (route b v)))) (h i)

pub counted_groups : (n : List ℕ) (i u : ℕ) → get_or (counted n i) (4 * u) 0 ≡ get_or n (4 * u) 0
unfolding counted
counted_groups n i u = get_or-set_other n (4 * i + 3) (4 * u) _ 0 (λ e. omega (arith, e))

pub lowered_groups : (n : List ℕ) (i u : ℕ) → get_or (lowered n i) (4 * u) 0 ≡ get_or n (4 * u) 0
unfolding lowered
lowered_groups n i u = get_or-set_other n (4 * i + 3) (4 * u) _ 0 (λ e. omega (arith, e))

-- ---- each node of a way counts one point more
unfoldable pub counted_all : List ℕ → List ℕ → List ℕ
unfolding counted
counted_all n [] = n
counted_all n (i ∷ l) = counted_all (counted n i) l

pub counted_step : (path n n' : List ℕ) (j : ℕ) → j < length path → n' ≡ counted n (get_or path j 0) → counted_all n' (drop (j + 1) path) ≡ counted_all n (drop j path)
unfolding counted_all
counted_step path n n' j h e = rw (drop-cons path j 0 h, e, ← add-one j)

pub counted_end : (path n : List ℕ) (j : ℕ) → length path ≤ j → n ≡ counted_all n (drop j path)
unfolding counted_all
counted_end path n j h = rw (drop_of_length-le path {i = j} h)

-- ---- the loop that goes down and notes
pub record Going (ways : ℕ) (n : List ℕ) (v : List Float) (d : ℕ) (b : List Side) (i : ℕ) (out : List ℕ) (left : ℕ) (e : List Side) (at : ℕ) (now : List ℕ) (m : ℕ) : Type 0 where
  pub spot : reach ways n v left e at ≡ reach ways n v d b i
  pub same : length now ≡ length out
  pub noting : Noting (way ways n v d b i) out 0 (way ways n v left e at) now m

module _ (ways : ℕ) (n : List ℕ) (v : List Float) (d : ℕ) (b : List Side) (i : ℕ) (out : List ℕ) where
  pub going_start : (left : ℕ) → left ≡ d → Going ways n v d b i out left b i out 0
  going_start left z = subst (λ (j : ℕ). Going ways n v d b i out j b i out 0) (sym z) (record { spot = refl; same = refl; noting = noting_start (way ways n v d b i) out 0 })

  pub going_down : (left left' : ℕ) (e e' : List Side) (at : ℕ) (now : List ℕ) (m : ℕ) (now' : List ℕ) (m' k c j : ℕ) → Going ways n v d b i out left e at now m → 0 < left → k ≡ get_or n (4 * at) 0 → k ≢ 0 → c ≡ route e v → j ≡ kid ways k c → e' ≡ part e c
      → length now' ≡ length now → Notes (at ∷ []) now m now' m' → left' ≡ left - 1 → Going ways n v d b i out left' e' j now' m'
  going_down left left' e e' at now m now' m' k c j w h ek nz ec ej ee l q z = subst (λ (u : ℕ). Going ways n v d b i out u e' j now' m') (sym z) (record {
    spot = sym (reach_down ways n v left e e' at k c j h ek nz ec ej ee) ∙ w.spot;
    same = l ∙ w.same;
    noting = noting_step (way ways n v d b i) out 0 (at ∷ []) (way ways n v (left - 1) e' j) now m now' m' l
        (subst (λ (u : List ℕ). Noting (way ways n v d b i) out 0 u now m) (way_down ways n v left e e' at k c j h ek nz ec ej ee) w.noting) q;
  })

  going_stop : (left : ℕ) (e : List Side) (at : ℕ) (now : List ℕ) (m : ℕ) → Going ways n v d b i out left e at now m → way ways n v left e at ≡ [] → Notes (way ways n v d b i) out 0 now m
  going_stop left e at now m w z = noting_end (way ways n v d b i) out 0 now m (subst (λ (u : List ℕ). Noting (way ways n v d b i) out 0 u now m) z w.noting)

  pub going_here : (left : ℕ) (e : List Side) (at : ℕ) (now : List ℕ) (m k : ℕ) → Going ways n v d b i out left e at now m → k ≡ get_or n (4 * at) 0 → k ≡ 0
      → (◌≡◌ {A = Spot} (record { node = at; box = e; levels = left }) (reach ways n v d b i)) × Notes (way ways n v d b i) out 0 now m
  going_here left e at now m k w ek z = (sym (reach_here ways n v left e at k ek z) ∙ w.spot, going_stop left e at now m w (way_here ways n v left e at k ek z))

  pub going_last : (left : ℕ) (e : List Side) (at : ℕ) (now : List ℕ) (m : ℕ) → Going ways n v d b i out left e at now m → left ≡ 0
      → (◌≡◌ {A = Spot} (record { node = at; box = e; levels = 0 }) (reach ways n v d b i)) × Notes (way ways n v d b i) out 0 now m
  going_last left e at now m w z = (ap (λ (u : ℕ). record { node = at; box = e; levels = u }) (sym z) ∙ sym (reach_last ways n v left e at z) ∙ w.spot, going_stop left e at now m w (way_last ways n v left e at z))

  pub path_short : (now : List ℕ) (m : ℕ) → d ≤ length out → Notes (way ways n v d b i) out 0 now m → m ≤ d
  path_short now m h q =
      let s : length (way ways n v d b i) ≤ d = way_short ways n v d b i in
      omega (arith, s, q.count (omega (arith, h, s)))

  -- a path with room for all of it is the way
  pub path_is : (now : List ℕ) (m : ℕ) → d ≤ length out → Notes (way ways n v d b i) out 0 now m → take m now ≡ way ways n v d b i
  path_is now m h q =
      let l = way ways n v d b i in
      let s : length l ≤ d = way_short ways n v d b i in
      ap₂ (λ (j : ℕ) (o : List ℕ). take j o) (q.count (omega (arith, h, s)) ∙ plain (length l)) (q.written (omega (arith, h, s)) ∙ sets_front l out (omega (arith, h, s))) ∙ take_at l (drop (length l) out) (length l) refl
    where
      plain : (k : ℕ) → 0 + k ≡ k
      plain k = omega arith
