-- What the search for k nearest promises of any words that hold a tree, and the steps by which it keeps it. Assumes nothing.
use mathlib.Core.Path.{◌≡◌, refl, ap, ap₂, sym, ◌∙◌, subst, subst₂}
use mathlib.Core.Logic.{◌≢◌}
use mathlib.Core.Bool.{Bool, true, false, not, ◌&&◌}
use mathlib.Core.List.{List, [], ◌∷◌, ◌++◌, map, append-nil}
use Prim.Native.Nat.{ℕ, zero, suc, ◌+◌, ◌*◌, ◌-◌, ◌%◌, ◌<◌, ◌≤◌, min}
use native.Mathlib.Nat.{mod-eq_of_lt}
use native.Mathlib.Numerals.{add-one, sub-one}
use native.Mathlib.Omega.{arith}
use lib.Dec.{ltb}
use lib.ListN.{length, get_or, take, drop, drop_of_length-le, length-map}
use lib.Seq.{drop-cons, get_or-take, sets, take_all}
use lib.Ieee.{Float, lt, nan}
use Rattle.model.specs.Boxes.{Side, node_distance, part}
use Rattle.model.specs.Searches.{At, offer, offer_each, place, place_each, worst}
use Rattle.model.specs.Soundness.{All}
use Rattle.model.specs.Trees.{Point}
use Rattle.model.proofs.Nearest.{place_each_all}
use Rattle.knn.specs.Candidates.{at, bar, dists, entries, items, room, InOrder, ByModel, Written, numbered, ordered}
use Rattle.knn.proofs.Arrays.{sets_front}
use Rattle.knn.proofs.Bar.{skip_is}
use Rattle.knn.proofs.Order.{place_length}
use Rattle.pool.specs.Read.{chain}
use Rattle.pool.specs.Trees.{leaf, branch, PTree, none, places_at}
use Rattle.pool.specs.Worlds.{Rep}
use Rattle.pool.specs.Writes.{kid}
use Rattle.pool.proofs.Read.{list_is}
use Rattle.trees.proofs.Collects.{Kids, kid_once, kids_of}
use Rattle.trees.proofs.Seeks.{candidate, nears, over_p, seek_p}

-- ---- a table in its own order becomes another
abbrev pub Tables : (List (At ℕ) → List (At ℕ)) → (ds : List Float) (ps : List ℕ) (n : ℕ) (ds' : List Float) (ps' : List ℕ) (r : ℕ) → Type 0
Tables f ds ps n ds' ps' r = InOrder (entries n ds ps) → (entries r ds' ps' ≡ f (entries n ds ps)) × InOrder (entries r ds' ps')

-- what is left to do leads to all that is to be done
unfoldable pub Turning : (whole : List (At ℕ) → List (At ℕ)) (ds : List Float) (ps : List ℕ) (n : ℕ) (rest : List (At ℕ) → List (At ℕ)) (now-d : List Float) (now-p : List ℕ) (m : ℕ) → Type 0
Turning whole ds ps n rest now-d now-p m = (ds' : List Float) (ps' : List ℕ) (r : ℕ) → Tables rest now-d now-p m ds' ps' r → Tables whole ds ps n ds' ps' r

module _ (whole : List (At ℕ) → List (At ℕ)) (ds : List Float) (ps : List ℕ) (n : ℕ) where
  pub turning_start : Turning whole ds ps n whole ds ps n
  unfolding Turning
  turning_start ds' ps' r q = q

  pub turning_step : (f rest rest' : List (At ℕ) → List (At ℕ)) (nd : List Float) (np : List ℕ) (m : ℕ) (nd' : List Float) (np' : List ℕ) (m' : ℕ) → Turning whole ds ps n rest nd np m
      → (InOrder (entries m nd np) → rest (entries m nd np) ≡ rest' (f (entries m nd np))) → Tables f nd np m nd' np' m' → Turning whole ds ps n rest' nd' np' m'
  unfolding Turning
  turning_step f rest rest' nd np m nd' np' m' w e q ds' ps' r v = w ds' ps' r (λ o. let a = q o in let b = v a.1 in (b.0 ∙ ap rest' a.0 ∙ sym (e o), b.1))

  pub turning_end : (rest : List (At ℕ) → List (At ℕ)) (nd : List Float) (np : List ℕ) (m : ℕ) → Turning whole ds ps n rest nd np m → (rest (entries m nd np) ≡ entries m nd np) → Tables whole ds ps n nd np m
  unfolding Turning
  turning_end rest nd np m w e = w nd np m (λ o. (sym e, o))

-- ---- the loop over a list
unfoldable pub offering : ℕ → (ℕ → At ℕ) → ℕ → List ℕ → ℕ → List (At ℕ) → List (At ℕ)
unfolding offer_each chain
offering k g left x q t = offer_each k t (map g (chain left x q))

pub record Offering (k : ℕ) (g : ℕ → At ℕ) (l : List ℕ) (ds : List Float) (ps : List ℕ) (n : ℕ) (left : List ℕ) (nd : List Float) (np : List ℕ) (m : ℕ) : Type 0 where
  pub same_d : length nd ≡ length ds
  pub same_p : length np ≡ length ps
  pub turning : Turning (λ t. offer_each (room k ds ps) t (map g l)) ds ps n (λ t. offer_each (room k ds ps) t (map g left)) nd np m

offering_more : (k : ℕ) (g : ℕ → At ℕ) (old left : List ℕ) (q : ℕ) (e : At ℕ) (t : List (At ℕ)) → old ≡ q ∷ left → e ≡ g q → offer_each k t (map g old) ≡ offer_each k (offer k e t) (map g left)
unfolding offer_each
offering_more k g old left q e t eo eg = ap (λ (l : List ℕ). offer_each k t (map g l)) eo ∙ ap (λ (a : At ℕ). offer_each k (offer k a t) (map g left)) (sym eg)

offering_none : (k : ℕ) (g : ℕ → At ℕ) (old : List ℕ) (t : List (At ℕ)) → old ≡ [] → offer_each k t (map g old) ≡ t
unfolding offer_each
offering_none k g old t e = ap (λ (l : List ℕ). offer_each k t (map g l)) e

same_room : (k : ℕ) (ds nd : List Float) (ps np : List ℕ) → length nd ≡ length ds → length np ≡ length ps → room k nd np ≡ room k ds ps
same_room k ds nd ps np a b = ap₂ (λ (i j : ℕ). min (min k 512) (min i j)) a b

module _ (k : ℕ) (g : ℕ → At ℕ) (l : List ℕ) (ds : List Float) (ps : List ℕ) (n : ℕ) where
  pub offering_start : (left : List ℕ) → left ≡ l → Offering k g l ds ps n left ds ps n
  offering_start left e = subst (λ (r : List ℕ). Offering k g l ds ps n r ds ps n) (sym e) (record { same_d = refl; same_p = refl; turning = turning_start _ ds ps n })

  pub offering_step : (old left : List ℕ) (nd : List Float) (np : List ℕ) (q m : ℕ) (d : Float) (nd' : List Float) (np' : List ℕ) (m' : ℕ) → Offering k g l ds ps n old nd np m → old ≡ q ∷ left → at d q ≡ g q
      → length nd' ≡ length nd → length np' ≡ length np → ByModel m k d q nd np nd' np' m' → Offering k g l ds ps n left nd' np' m'
  offering_step old left nd np q m d nd' np' m' w eo eg a b v = record {
    same_d = a ∙ w.same_d;
    same_p = b ∙ w.same_p;
    turning = turning_step _ ds ps n (offer (room k ds ps) (at d q)) _ _ nd np m nd' np' m' w.turning (λ o. offering_more (room k ds ps) g old left q (at d q) (entries m nd np) eo eg)
        (subst (λ (j : ℕ). InOrder (entries m nd np) → (entries m' nd' np' ≡ offer j (at d q) (entries m nd np)) × InOrder (entries m' nd' np')) (same_room k ds nd ps np w.same_d w.same_p) v);
  }

  pub offering_end : (old : List ℕ) (nd : List Float) (np : List ℕ) (m : ℕ) → Offering k g l ds ps n old nd np m → old ≡ [] → Tables (λ t. offer_each (room k ds ps) t (map g l)) ds ps n nd np m
  offering_end old nd np m w e = turning_end _ ds ps n _ nd np m w.turning (offering_none (room k ds ps) g old (entries m nd np) e)

-- ---- one tree
module _ (pt : ℕ → Point) (c : List Float) (k ways : ℕ) (n x : List ℕ) where
  unfoldable pub Seeks : (d : ℕ) → List Side → ℕ → (ds : List Float) (ps : List ℕ) (m : ℕ) (ds' : List Float) (ps' : List ℕ) (r : ℕ) → Type 0
  Seeks d b i ds ps m ds' ps' r = (t : PTree d) → Rep d ways n x i t → ((p : ℕ) → places_at d p t ≤ 1) → length ds ≡ length ps → 1 ≤ room k ds ps → Tables (seek_p (room k ds ps) pt c ways d b t) ds ps m ds' ps' r

  pub seeks_list : (d : ℕ) (b : List Side) (i g h : ℕ) (ds : List Float) (ps : List ℕ) (m : ℕ) (ds' : List Float) (ps' : List ℕ) (r : ℕ) → g ≡ get_or n (4 * i) 0 → g ≡ 0 → h ≡ get_or n (4 * i + 1) 0
      → Tables (offering (room k ds ps) (candidate pt c) (length x) x h) ds ps m ds' ps' r → Seeks d b i ds ps m ds' ps' r
  unfolding Seeks seek_p offering
  seeks_list zero b i g h ds ps m ds' ps' r eg z eh w l q u ed one = subst (λ (s : List ℕ). Tables (λ t. offer_each (room k ds ps) t (map (candidate pt c) s)) ds ps m ds' ps' r) (ap (chain (length x) x) eh ∙ list_is n x i l q u) w
  seeks_list (suc d) b i g h ds ps m ds' ps' r eg z eh w (leaf l) q u ed one = subst (λ (s : List ℕ). Tables (λ t. offer_each (room k ds ps) t (map (candidate pt c) s)) ds ps m ds' ps' r) (ap (chain (length x) x) eh ∙ list_is n x i l q u) w
  seeks_list (suc d) b i g h ds ps m ds' ps' r eg z eh w (branch f ts) q u ed one = absurd (q.2 (sym q.1 ∙ sym eg ∙ z))

  pub seeks_none : (d : ℕ) (b : List Side) (i g : ℕ) (ds : List Float) (ps : List ℕ) (m : ℕ) → g ≡ get_or n (4 * i) 0 → g ≢ 0 → d ≡ 0 → Seeks d b i ds ps m ds ps m
  unfolding Seeks
  seeks_none zero b i g ds ps m eg z e t r u ed one = absurd (z (eg ∙ r.1))
  seeks_none (suc d) b i g ds ps m eg z e t r u ed one = absurd (omega arith)

  -- ---- its children, by their distances, from number j of the order on
  abbrev order : List Side → List (At ℕ)
  order b = place_each [] (numbered 0 (nears b c 0 ways))

  unfoldable pub below : (k d : ℕ) → List Side → List (PTree d) → ℕ → List (At ℕ) → List (At ℕ)
  unfolding seek_p
  below k d b ts i u = seek_p k pt c ways d (part b i) (get_or ts i (none d)) u

  pub record Nexts (d : ℕ) (b : List Side) (g : ℕ) (ds : List Float) (ps : List ℕ) (m j : ℕ) (nd : List Float) (np : List ℕ) (m' : ℕ) : Type 0 where
    pub same_d : length nd ≡ length ds
    pub same_p : length np ≡ length ps
    pub turning : (ts : List (PTree d)) → Kids ways n x d g ts → length ds ≡ length ps → 1 ≤ room k ds ps
        → Turning (over_p (room k ds ps) (below (room k ds ps) d b ts) (order b)) ds ps m (over_p (room k ds ps) (below (room k ds ps) d b ts) (drop j (order b))) nd np m'

  pub nexts_start : (d : ℕ) (b : List Side) (g : ℕ) (ds : List Float) (ps : List ℕ) (m : ℕ) → Nexts d b g ds ps m 0 ds ps m
  nexts_start d b g ds ps m = record { same_d = refl; same_p = refl; turning = λ ts z e one. turning_start _ ds ps m }

  over_go : (M : ℕ) (go : ℕ → List (At ℕ) → List (At ℕ)) (es : List (At ℕ)) (j : ℕ) (e : At ℕ) (t : List (At ℕ)) → j < length es → get_or es j e ≡ e → not (ltb (length t) M) && worst (λ w. lt w e.dist) t ≡ false
      → over_p M go (drop j es) t ≡ over_p M go (drop (suc j) es) (go e.item t)
  unfolding over_p
  over_go M go es j e t h q s =
      ap (λ (us : List (At ℕ)). over_p M go us t) (drop-cons es j e h ∙ ap (λ (y : At ℕ). y ∷ drop (suc j) es) q)
      ∙ ap (λ (b : Bool). elim b as (λ u. List (At ℕ)) [ true ↦ t | false ↦ over_p M go (drop (suc j) es) (go e.item t) ]) s

  over_skip : (M : ℕ) (go : ℕ → List (At ℕ) → List (At ℕ)) (es : List (At ℕ)) (j : ℕ) (e : At ℕ) (t : List (At ℕ)) → j < length es → get_or es j e ≡ e → not (ltb (length t) M) && worst (λ w. lt w e.dist) t ≡ true
      → over_p M go (drop j es) t ≡ t
  unfolding over_p
  over_skip M go es j e t h q s =
      ap (λ (us : List (At ℕ)). over_p M go us t) (drop-cons es j e h ∙ ap (λ (y : At ℕ). y ∷ drop (suc j) es) q)
      ∙ ap (λ (b : Bool). elim b as (λ u. List (At ℕ)) [ true ↦ t | false ↦ over_p M go (drop (suc j) es) (go e.item t) ]) s

  -- a child that is visited
  pub nexts_step : (d : ℕ) (b b' : List Side) (g : ℕ) (ds : List Float) (ps : List ℕ) (m j i node : ℕ) (y w : Float) (nd : List Float) (np : List ℕ) (m' : ℕ) (nd' : List Float) (np' : List ℕ) (m'' : ℕ)
      → Nexts d b g ds ps m j nd np m' → j < length (order b) → get_or (order b) j (at y i) ≡ at y i → i < ways → w ≡ bar (min (min k 512) (length nd)) (take m' nd) → lt w y ≡ false
      → node ≡ kid ways g i → b' ≡ part b i → length nd' ≡ length nd → length np' ≡ length np → Seeks d b' node nd np m' nd' np' m'' → Nexts d b g ds ps m (j + 1) nd' np' m''
  unfolding Seeks below
  nexts_step d b b' g ds ps m j i node y w nd np m' nd' np' m'' q hj ej li ew s en eb ld lp v = record {
    same_d = ld ∙ q.same_d;
    same_p = lp ∙ q.same_p;
    turning = λ ts z e one.
        let re : room k nd np ≡ room k ds ps = same_room k ds nd ps np q.same_d q.same_p in
        subst (λ (o : ℕ). Turning (over_p (room k ds ps) (below (room k ds ps) d b ts) (order b)) ds ps m (over_p (room k ds ps) (below (room k ds ps) d b ts) (drop o (order b))) nd' np' m'') (sym (add-one j))
        (turning_step _ ds ps m (below (room k ds ps) d b ts i) _ _ nd np m' nd' np' m'' (q.turning ts z e one)
        (λ o. over_go (room k ds ps) (below (room k ds ps) d b ts) (order b) j (at y i) (entries m' nd np) hj ej
        (ap (λ (M : ℕ). not (ltb (length (entries m' nd np)) M) && worst (λ w. lt w y) (entries m' nd np)) (sym re)
        ∙ sym (skip_is m' k nd np y (q.same_d ∙ e ∙ sym q.same_p) (subst (λ (M : ℕ). 1 ≤ M) (sym re) one)) ∙ ap (λ (u : Float). lt u y) (sym ew) ∙ s))
        (subst (λ (M : ℕ). Tables (below M d b ts i) nd np m' nd' np' m'') re
        (subst (λ (u : List Side). Tables (seek_p (room k nd np) pt c ways d u (get_or ts i (none d))) nd np m' nd' np' m'') eb
        (v (get_or ts i (none d)) (subst (λ (u : ℕ). Rep d ways n x u (get_or ts i (none d))) (sym en) (z.each i li)) (kid_once ways n x d g ts z i li) (q.same_d ∙ e ∙ sym q.same_p) (subst (λ (M : ℕ). 1 ≤ M) (sym re) one)))));
  }

  -- in the end the divided node is searched
  whole : (d : ℕ) (b : List Side) (i g : ℕ) (ds : List Float) (ps : List ℕ) (m : ℕ) (nd : List Float) (np : List ℕ) (m' : ℕ) → g ≡ get_or n (4 * i) 0 → g ≢ 0 → d ≢ 0
      → ((ts : List (PTree (d - 1))) → Kids ways n x (d - 1) g ts → length ds ≡ length ps → 1 ≤ room k ds ps → Tables (over_p (room k ds ps) (below (room k ds ps) (d - 1) b ts) (order b)) ds ps m nd np m')
      → Seeks d b i ds ps m nd np m'
  unfolding Seeks seek_p below
  whole zero b i g ds ps m nd np m' eg z nz w t r u e one = absurd (nz refl)
  whole (suc d) b i g ds ps m nd np m' eg z nz w (leaf l) r u e one = absurd (z (eg ∙ r.1))
  whole (suc d) b i g ds ps m nd np m' eg z nz w (branch h ts) r u e one =
      subst (λ (v : ℕ). (us : List (PTree v)) → Kids ways n x v g us → length ds ≡ length ps → 1 ≤ room k ds ps → Tables (over_p (room k ds ps) (below (room k ds ps) v b us) (order b)) ds ps m nd np m') (sub-one (suc d)) w ts
      (kids_of ways n x d i g h ts r u eg) e one

  pub nexts_skip : (d : ℕ) (b : List Side) (i g : ℕ) (ds : List Float) (ps : List ℕ) (m j o : ℕ) (y w : Float) (nd : List Float) (np : List ℕ) (m' : ℕ) → g ≡ get_or n (4 * i) 0 → g ≢ 0 → d ≢ 0
      → Nexts (d - 1) b g ds ps m j nd np m' → j < length (order b) → get_or (order b) j (at y o) ≡ at y o → w ≡ bar (min (min k 512) (length nd)) (take m' nd) → lt w y ≡ true → Seeks d b i ds ps m nd np m'
  nexts_skip d b i g ds ps m j o y w nd np m' eg z nz q hj ej ew s =
      whole d b i g ds ps m nd np m' eg z nz (λ ts kids e one.
      let re : room k nd np ≡ room k ds ps = same_room k ds nd ps np q.same_d q.same_p in
      turning_end _ ds ps m _ nd np m' (q.turning ts kids e one)
      (over_skip (room k ds ps) (below (room k ds ps) (d - 1) b ts) (order b) j (at y o) (entries m' nd np) hj ej
      (ap (λ (M : ℕ). not (ltb (length (entries m' nd np)) M) && worst (λ w. lt w y) (entries m' nd np)) (sym re)
      ∙ sym (skip_is m' k nd np y (q.same_d ∙ e ∙ sym q.same_p) (subst (λ (M : ℕ). 1 ≤ M) (sym re) one)) ∙ ap (λ (u : Float). lt u y) (sym ew) ∙ s)))

  pub nexts_end : (d : ℕ) (b : List Side) (i g : ℕ) (ds : List Float) (ps : List ℕ) (m j : ℕ) (nd : List Float) (np : List ℕ) (m' : ℕ) → g ≡ get_or n (4 * i) 0 → g ≢ 0 → d ≢ 0
      → Nexts (d - 1) b g ds ps m j nd np m' → length (order b) ≤ j → Seeks d b i ds ps m nd np m'
  nexts_end d b i g ds ps m j nd np m' eg z nz q h =
      whole d b i g ds ps m nd np m' eg z nz (λ ts kids e one. turning_end _ ds ps m _ nd np m' (q.turning ts kids e one)
      (ap (λ (us : List (At ℕ)). over_p (room k ds ps) (below (room k ds ps) (d - 1) b ts) us (entries m' nd np)) (drop_of_length-le (order b) {i = j} h) ∙ unfold over_p in refl))

-- ---- the order of children in two arrays
nears_length : (b : List Side) (c : List Float) (i m : ℕ) → length (nears b c i m) ≡ m
unfolding nears
nears_length b c i zero = refl
nears_length b c i (suc m) = ap suc (nears_length b c (suc i) m)

numbered_length : (i : ℕ) (ds : List Float) → length (numbered i ds) ≡ length ds
unfolding numbered
numbered_length i [] = refl
numbered_length i (d ∷ ds) = ap suc (numbered_length (suc i) ds)

place_each_length : (t xs : List (At ℕ)) → length (place_each t xs) ≡ length t + length xs
unfolding place_each
place_each_length t [] = omega arith
place_each_length t (x ∷ xs) = place_each_length (place x t) xs ∙ omega (arith, place_length x t)

-- so many children
pub order_length : (b : List Side) (c : List Float) (ways : ℕ) → length (place_each [] (numbered 0 (nears b c 0 ways))) ≡ ways
order_length b c ways = place_each_length [] (numbered 0 (nears b c 0 ways)) ∙ omega (arith, numbered_length 0 (nears b c 0 ways), nears_length b c 0 ways)

-- each with a number below that
numbers_below : (i m : ℕ) (ds : List Float) → i + length ds ≤ m → All (λ (e : At ℕ). e.item < m) (numbered i ds)
unfolding numbered
numbers_below i m [] h = tt
numbers_below i m (d ∷ ds) h = (omega arith, numbers_below (suc i) m ds (omega arith))

all_get : (P : At ℕ → Type 0) (es : List (At ℕ)) (j : ℕ) (z : At ℕ) → All P es → j < length es → P (get_or es j z)
all_get P [] j z a h = absurd (omega arith)
all_get P (e ∷ es) zero z a h = a.0
all_get P (e ∷ es) (suc j) z a h = all_get P es j z a.1 (omega arith)

order_below : (b : List Side) (c : List Float) (ways j : ℕ) (z : At ℕ) → j < ways → (get_or (place_each [] (numbered 0 (nears b c 0 ways))) j z).item < ways
order_below b c ways j z h =
    all_get (λ (e : At ℕ). e.item < ways) (place_each [] (numbered 0 (nears b c 0 ways))) j z
    (place_each_all (λ (e : At ℕ). e.item < ways) [] (numbered 0 (nears b c 0 ways)) tt (numbers_below 0 ways (nears b c 0 ways) (omega (arith, nears_length b c 0 ways))))
    (omega (arith, h, order_length b c ways))

-- an entry read from the two arrays
entry_at : (es : List (At ℕ)) (j : ℕ) (z : At ℕ) → j < length es → get_or es j z ≡ at (get_or (dists es) j nan) (get_or (items es) j 0)
entry_at [] j z h = absurd (omega arith)
entry_at (e ∷ es) zero z h = refl
entry_at (e ∷ es) (suc j) z h = entry_at es j z (omega arith)

order_at : (es : List (At ℕ)) (ds : List Float) (ps : List ℕ) (j : ℕ) → ds ≡ dists es → ps ≡ items es → j < length es → get_or es j (at (get_or ds j nan) (get_or ps j 0)) ≡ at (get_or ds j nan) (get_or ps j 0)
order_at es ds ps j ed ep h = entry_at es j _ h ∙ ap₂ (λ (a : List Float) (b : List ℕ). at (get_or a j nan) (get_or b j 0)) (sym ed) (sym ep)

-- ---- the node distances of all children, put in order
-- an array that has the distance of each child has them all in front
pub nears_read : (b : List Side) (c : List Float) (i m : ℕ) (ds : List Float) → m ≤ length ds → ((j : ℕ) → j < m → get_or ds j nan ≡ node_distance (part b (i + j)) c) → take m ds ≡ nears b c i m
unfolding nears
nears_read b c i zero ds h f = refl
nears_read b c i (suc m) [] h f = absurd (omega arith)
nears_read b c i (suc m) (d ∷ ds) h f =
    ap₂ {C = List Float} (λ (u : Float) (v : List Float). u ∷ v) (f 0 (omega arith) ∙ at i (i + 0) (omega arith))
    (nears_read b c (suc i) m ds (omega arith) (λ j l. f (suc j) (omega arith) ∙ at (suc i + j) (i + suc j) (omega arith)))
  where
    at : (p q : ℕ) → q ≡ p → node_distance (part b q) c ≡ node_distance (part b p) c
    at p q e = ap (λ (n : ℕ). node_distance (part b n) c) e

pub front_of : {A : Type 0} (w : ℕ) (l r : List A) → length l ≡ w → take w (l ++ r) ≡ l
front_of zero [] r e = refl
front_of (suc w) [] r e = absurd (omega (arith, e))
front_of zero (a ∷ l) r e = absurd (omega (arith, e))
front_of (suc w) (a ∷ l) r e = ap (λ (k : List _). a ∷ k) (front_of w l r (omega (arith, e)))

front_all : {A : Type 0} (vs l : List A) → length vs ≡ length l → sets l 0 vs ≡ vs
front_all {A} vs l e = sets_front vs l (omega (arith, e)) ∙ ap (λ (r : List A). vs ++ r) (drop_of_length-le l {i = length vs} (omega (arith, e))) ∙ append-nil vs

pub ordered_all : (b : List Side) (c : List Float) (ways : ℕ) (ds : List Float) (ps : List ℕ) (ds' : List Float) (ps' : List ℕ) → ways ≤ 8 → ds ≡ nears b c 0 ways → length ps ≡ ways → Written (ordered ds ps) ds ps ds' ps'
    → (ds' ≡ dists (place_each [] (numbered 0 (nears b c 0 ways)))) × (ps' ≡ items (place_each [] (numbered 0 (nears b c 0 ways))))
ordered_all b c ways ds ps ds' ps' h ed ep w = (
  w.0 ∙ ap (λ (t : List (At ℕ)). sets ds 0 (dists t)) same ∙ front_all (dists es) ds (length-map es (λ e. e.dist) ∙ order_length b c ways ∙ sym long),
  w.1 ∙ ap (λ (t : List (At ℕ)). sets ps 0 (items t)) same ∙ front_all (items es) ps (length-map es (λ e. e.item) ∙ order_length b c ways ∙ sym ep),
)
  where
    es : List (At ℕ)
    es = place_each [] (numbered 0 (nears b c 0 ways))

    long : length ds ≡ ways
    long = ap length ed ∙ nears_length b c 0 ways

    same : ordered ds ps ≡ place_each [] (numbered 0 (nears b c 0 ways))
    same = ap (λ (l : List Float). place_each [] (numbered 0 l)) (take_all (min 8 (min (length ds) (length ps))) ds (omega (arith, long, ep, h)) ∙ ed)

-- an entry of the first ways in longer arrays, where a number is read in as many bits as all of them may need
pub order_entry : (b : List Side) (c : List Float) (w m j : ℕ) (ds : List Float) (ps : List ℕ) → w ≤ m → j < w → take w ds ≡ dists (place_each [] (numbered 0 (nears b c 0 w))) → take w ps ≡ items (place_each [] (numbered 0 (nears b c 0 w)))
    → (get_or (place_each [] (numbered 0 (nears b c 0 w))) j (at (get_or ds j nan) (get_or ps j 0 % m)) ≡ at (get_or ds j nan) (get_or ps j 0 % m)) × (get_or ps j 0 % m < w)
order_entry b c w m j ds ps few h ed ep = (subst₂ (λ (d : Float) (i : ℕ). get_or es j (at d i) ≡ at d i) (get_or-take w ds j nan h) (sym small) here, omega (arith, small, low))
  where
    es : List (At ℕ)
    es = place_each [] (numbered 0 (nears b c 0 w))

    here : get_or (place_each [] (numbered 0 (nears b c 0 w))) j (at (get_or (take w ds) j nan) (get_or (take w ps) j 0)) ≡ at (get_or (take w ds) j nan) (get_or (take w ps) j 0)
    here = order_at (place_each [] (numbered 0 (nears b c 0 w))) (take w ds) (take w ps) j ed ep (omega (arith, h, order_length b c w))

    low : get_or (take w ps) j 0 < w
    low = subst (λ (i : ℕ). i < w) (ap (λ (e : At ℕ). e.item) here) (order_below b c w j (at (get_or (take w ds) j nan) (get_or (take w ps) j 0)) h)

    small : get_or ps j 0 % m ≡ get_or (take w ps) j 0
    small = mod-eq_of_lt (omega (arith, few, low, get_or-take w ps j 0 h)) ∙ sym (get_or-take w ps j 0 h)

-- ---- a table's own k is the one that was given
pub model_as : (n k k' : ℕ) (d : Float) (q : ℕ) (ds : List Float) (ps : List ℕ) (ds' : List Float) (ps' : List ℕ) (r : ℕ) → k' ≡ k → ByModel n k' d q ds ps ds' ps' r → ByModel n k d q ds ps ds' ps' r
model_as n k k' d q ds ps ds' ps' r e m = subst (λ (j : ℕ). ByModel n j d q ds ps ds' ps' r) e m

pub bar_as : (k k' l : ℕ) (ds : List Float) (w : Float) → k' ≡ k → w ≡ bar (min (min k' 512) l) ds → w ≡ bar (min (min k 512) l) ds
bar_as k k' l ds w e h = h ∙ ap (λ (j : ℕ). bar (min (min j 512) l) ds) e

pub seeks_as : (pt : ℕ → Point) (c : List Float) (k k' ways : ℕ) (n x : List ℕ) (d : ℕ) (b : List Side) (i : ℕ) (ds : List Float) (ps : List ℕ) (m : ℕ) (ds' : List Float) (ps' : List ℕ) (r : ℕ)
    → k' ≡ k → Seeks pt c k' ways n x d b i ds ps m ds' ps' r → Seeks pt c k ways n x d b i ds ps m ds' ps' r
seeks_as pt c k k' ways n x d b i ds ps m ds' ps' r e h = subst (λ (j : ℕ). Seeks pt c j ways n x d b i ds ps m ds' ps' r) e h
