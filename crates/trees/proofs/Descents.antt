-- The way down to the undivided node that a point goes to, and what is found there. Over any number of ways. Assumes nothing.
use mathlib.Core.Path.{◌≡◌, refl, ap, ap₂, sym, ◌∙◌, subst}
use mathlib.Core.Logic.{◌≢◌}
use mathlib.Core.Bool.{Bool, true, false, ◌&&◌}
use mathlib.Core.List.{List, [], ◌∷◌, map}
use Prim.Native.Nat.{ℕ, zero, suc, ◌+◌, ◌*◌, ◌-◌, ◌%◌, ◌^◌, ◌<◌, ◌≤◌}
use native.Mathlib.Nat.{mod-eq_of_lt}
use native.Mathlib.Numerals.{sub-one}
use native.Mathlib.Omega.{arith}
use lib.Dec.{eqb}
use lib.Ieee.{Float}
use lib.ListN.{length, get_or, get_or-map, length-map}
use borrow.Author.Tests.{eq-eqb, le-ltb, ne_eqb}
use Rattle.model.specs.Boxes.{Side, part, route}
use Rattle.model.specs.Trees.{Point, bag, every}
use Rattle.model.proofs.Counts.{part_length, route_lt}
use Rattle.model.proofs.Room.{splits, splits_room}
use Rattle.model.proofs.Short.{first, goes, taken}
use Rattle.pool.specs.Lists.{ifz, occ}
use Rattle.pool.specs.Read.{chain}
use Rattle.pool.specs.Trees.{leaf, branch, PTree, none, erase, places_at}
use Rattle.pool.specs.Worlds.{RepLeaf, Rep}
use Rattle.pool.specs.Writes.{kid}
use Rattle.pool.proofs.Erase.{erase_flat}
use Rattle.pool.proofs.Read.{list_is}
use Rattle.pool.proofs.Lists.{ifz-no, ifz-yes, sum_at}

-- a node with its box and the levels below it
pub record Spot : Type 0 where
  pub node : ℕ
  pub box : List Side
  pub levels : ℕ

-- the node that any words lead to
unfoldable pub reach : (ways : ℕ) → List ℕ → List Float → (d : ℕ) → List Side → ℕ → Spot
unfolding route part
reach ways n v zero b i = record { node = i; box = b; levels = zero }
reach ways n v (suc d) b i = ifz (get_or n (4 * i) 0) (record { node = i; box = b; levels = suc d }) (reach ways n v d (part b (route b v)) (kid ways (get_or n (4 * i) 0) (route b v)))

module _ (ways : ℕ) (n : List ℕ) (v : List Float) where
  pub reach_last : (d : ℕ) (b : List Side) (i : ℕ) → d ≡ 0 → reach ways n v d b i ≡ record { node = i; box = b; levels = d }
  unfolding reach
  reach_last zero b i e = refl
  reach_last (suc d) b i e = absurd (omega arith)

  pub reach_here : (d : ℕ) (b : List Side) (i k : ℕ) → k ≡ get_or n (4 * i) 0 → k ≡ 0 → reach ways n v d b i ≡ record { node = i; box = b; levels = d }
  unfolding reach
  reach_here zero b i k ek z = refl
  reach_here (suc d) b i k ek z = ifz-yes (get_or n (4 * i) 0) _ _ (sym ek ∙ z)

  pub reach_down : (d : ℕ) (b b' : List Side) (i k c j : ℕ) → 0 < d → k ≡ get_or n (4 * i) 0 → k ≢ 0 → c ≡ route b v → j ≡ kid ways k c → b' ≡ part b c → reach ways n v d b i ≡ reach ways n v (d - 1) b' j
  unfolding reach
  reach_down zero b b' i k c j h ek z ec ej eb = absurd (omega arith)
  reach_down (suc d) b b' i k c j h ek z ec ej eb =
      ifz-no (get_or n (4 * i) 0) _ _ (λ e. z (ek ∙ e))
      ∙ ap₂ (λ (u : List Side) (w : ℕ). reach ways n v d u w) (sym (eb ∙ ap (part b) ec)) (sym (ej ∙ ap₂ (kid ways) ek ec))
      ∙ ap (λ (e : ℕ). reach ways n v e b' j) (sym (sub-one (suc d)))

-- ---- in words that hold a tree
-- the list of the undivided node that a point goes to
unfoldable pub list_at : List Float → (d : ℕ) → List Side → PTree d → List ℕ
unfolding route part
list_at v zero b l = l
list_at v (suc d) b (leaf l) = l
list_at v (suc d) b (branch k ts) = list_at v d (part b (route b v)) (get_or ts (route b v) (none d))

-- what the spot has to do with the tree
pub record Found (n x : List ℕ) (v : List Float) (l : List ℕ) (s : Spot) : Type 0 where
  pub rep : RepLeaf n x s.node l
  pub once : (p : ℕ) → occ p l ≤ 1

pub reach_found : (ways : ℕ) (n x : List ℕ) (v : List Float) (d : ℕ) (b : List Side) (i : ℕ) (t : PTree d) → Rep d ways n x i t → ((p : ℕ) → places_at d p t ≤ 1) → route b v < ways → ((e : List Side) → length e ≡ length b → route e v < ways)
    → Found n x v (list_at v d b t) (reach ways n v d b i)
unfolding reach list_at
reach_found ways n x v zero b i l r u lr all = record { rep = r; once = u }
reach_found ways n x v (suc d) b i (leaf l) r u lr all = subst (Found n x v l) (sym (ifz-yes (get_or n (4 * i) 0) _ _ r.1)) (record { rep = r; once = u })
reach_found ways n x v (suc d) b i (branch k ts) r u lr all =
    subst (Found n x v (list_at v d (part b (route b v)) (get_or ts (route b v) (none d)))) (sym (ifz-no (get_or n (4 * i) 0) _ _ (λ e. r.2 (sym r.1 ∙ e)) ∙ ap (λ (g : ℕ). reach ways n v d (part b (route b v)) (kid ways g (route b v))) r.1))
    (reach_found ways n x v d (part b (route b v)) (kid ways k (route b v)) (get_or ts (route b v) (none d)) (r.5 (route b v) lr) (λ p. omega (arith, u p, sum_at (places_at d p) ts (route b v) (none d) (omega (arith, lr, r.4))))
    (all (part b (route b v)) (part_length b (route b v))) (λ e q. all e (q ∙ part_length b (route b v))))

-- ---- what the model takes out, and the splits that it counts, at this list
module _ (pt : ℕ → Point) where
  pub child_erase : (d : ℕ) (ts : List (PTree d)) (c : ℕ) → get_or (map (erase pt d) ts) c (bag d []) ≡ erase pt d (get_or ts c (none d))
  child_erase d ts c = ap (get_or (map (erase pt d) ts) c) (sym (erase_flat pt d [])) ∙ get_or-map (erase pt d) ts c (none d)

  pub taken_at : (p : Point) (d : ℕ) (b : List Side) (t : PTree d) → taken d b p (erase pt d t) ≡ first p (map pt (list_at p.at d b t))
  unfolding taken erase list_at
  taken_at p zero b l = refl
  taken_at p (suc d) b (leaf l) = refl
  taken_at p (suc d) b (branch k ts) = ap (taken d (part b (route b p.at)) p) (child_erase d ts (route b p.at)) ∙ taken_at p d (part b (route b p.at)) (get_or ts (route b p.at) (none d))

-- a route is the number of a child, so that a remainder changes nothing
pub small_route : (b : List Side) (v : List Float) (ways r : ℕ) → 2 ^ length b ≡ ways → r ≡ route b v → r % ways ≡ route b v
small_route b v ways r e er = ap (λ (m : ℕ). m % ways) er ∙ mod-eq_of_lt (subst (λ (m : ℕ). route b v < m) e (route_lt b v))

-- ---- how often a full list splits
-- whether all points of a chain go to child c
unfoldable pub together : (ℕ → ℕ) → ℕ → ℕ → List ℕ → ℕ → Bool
unfolding every chain
together f c left x q = every (λ p. eqb (f p) c) (chain left x q)

module _ (f : ℕ → ℕ) (c : ℕ) where
  -- whether all of these go to child c
  unfoldable pub alike : List ℕ → Bool
  unfolding every
  alike l = every (λ p. eqb (f p) c) l

  pub alike_start : (x : List ℕ) (n h : ℕ) (l : List ℕ) → l ≡ chain n x h → alike l ≡ together f c n x h
  unfolding alike together
  alike_start x n h l e = ap alike e

  pub alike_end : (old : List ℕ) → old ≡ [] → alike old ≡ true
  unfolding alike every
  alike_end old e = ap alike e

  pub alike_no : (old left : List ℕ) (q t : ℕ) → old ≡ q ∷ left → t ≡ f q → t ≢ c → alike old ≡ false
  unfolding alike every
  alike_no old left q t eo e ne = ap alike eo ∙ ap (λ (b : Bool). b && alike left) (ap (λ (u : ℕ). eqb u c) (sym e) ∙ ne_eqb t c ne)

  pub alike_next : (old left : List ℕ) (q t : ℕ) → old ≡ q ∷ left → t ≡ f q → t ≡ c → alike old ≡ alike left
  unfolding alike every
  alike_next old left q t eo e ec = ap alike eo ∙ ap (λ (b : Bool). b && alike left) (ap (λ (u : ℕ). eqb u c) (sym e) ∙ eq-eqb t c ec)

every_at : (pt : ℕ → Point) (b : List Side) (c : ℕ) (l : List ℕ) → every (λ p. eqb (route b (pt p).at) c) l ≡ every (goes b c) (map pt l)
unfolding every
every_at pt b c [] = refl
every_at pt b c (q ∷ l) = ap (λ (t : Bool). eqb (route b (pt q).at) c && t) (every_at pt b c l)

-- the splits of a full list, level by level
module _ (cap : ℕ) (p : Point) (ps : List Point) (full : cap ≤ length ps) where
  split_by : (d : ℕ) (b : List Side) → splits cap (suc d) b p ps ≡ elim (every (goes b (route b p.at)) ps) as (λ u. ℕ) [ true ↦ suc (splits cap d (part b (route b p.at)) p ps) | false ↦ 1 ]
  unfolding splits
  split_by d b = ap (λ (t : Bool). elim t as (λ u. ℕ) [ true ↦ 0 | false ↦ elim (every (goes b (route b p.at)) ps) as (λ u. ℕ) [ true ↦ suc (splits cap d (part b (route b p.at)) p ps) | false ↦ 1 ] ]) (le-ltb (length ps) cap full)

  pub splits_apart : (d : ℕ) (b : List Side) → 0 < d → every (goes b (route b p.at)) ps ≡ false → splits cap d b p ps ≡ 1
  splits_apart zero b h e = absurd (omega arith)
  splits_apart (suc d) b h e = split_by d b ∙ ap (λ (t : Bool). elim t as (λ u. ℕ) [ true ↦ suc (splits cap d (part b (route b p.at)) p ps) | false ↦ 1 ]) e

  pub splits_on : (d : ℕ) (b b' : List Side) → 0 < d → every (goes b (route b p.at)) ps ≡ true → b' ≡ part b (route b p.at) → splits cap d b p ps ≡ suc (splits cap (d - 1) b' p ps)
  splits_on zero b b' h e eb = absurd (omega arith)
  splits_on (suc d) b b' h e eb =
      split_by d b ∙ ap (λ (t : Bool). elim t as (λ u. ℕ) [ true ↦ suc (splits cap d (part b (route b p.at)) p ps) | false ↦ 1 ]) e
      ∙ ap₂ (λ (j : ℕ) (u : List Side). suc (splits cap j u p ps)) (sym (sub-one (suc d))) (sym eb)

pub splits_none : (cap : ℕ) (p : Point) (ps : List Point) (d : ℕ) (b : List Side) → d ≡ 0 → splits cap d b p ps ≡ 0
unfolding splits
splits_none cap p ps zero b e = refl
splits_none cap p ps (suc d) b e = absurd (omega arith)

-- ---- the count that an insertion makes before it writes
module _ (cap : ℕ) (pt : ℕ → Point) (v : List Float) (n x : List ℕ) (i : ℕ) where
  abbrev asked : ℕ → Point
  asked m = record { at = v; payload = m }

  unfoldable pub Needs : (d : ℕ) → List Side → ℕ → Type 0
  unfolding splits
  Needs d b r = (m : ℕ) (l : List ℕ) → RepLeaf n x i l → ((p : ℕ) → occ p l ≤ 1) → r ≡ splits cap d b (asked m) (map pt l)

  pub needs_room : (d : ℕ) (b : List Side) (c : ℕ) → c ≡ get_or n (4 * i + 3) 0 → c < cap → Needs d b 0
  unfolding Needs
  needs_room d b c ec h m l r u = sym (splits_room cap d b (asked m) (map pt l) (omega (arith, ec, h, r.4, length-map l pt)))

  -- after `more` splits, with `left` levels below the box e
  pub record Counting (d : ℕ) (b : List Side) (left : ℕ) (e : List Side) (more : ℕ) : Type 0 where
    pub few : more + left ≡ d
    pub counts : (m : ℕ) (l : List ℕ) → RepLeaf n x i l → ((p : ℕ) → occ p l ≤ 1) → cap ≤ length l → more + splits cap left e (asked m) (map pt l) ≡ splits cap d b (asked m) (map pt l)

  pub counting_start : (d : ℕ) (b : List Side) (left : ℕ) → left ≡ d → Counting d b left b 0
  counting_start d b left z = subst (λ (j : ℕ). Counting d b j b 0) (sym z) (record { few = omega arith; counts = λ m l r u h. omega arith })

  same_way : (b : List Side) (c h : ℕ) (t : Bool) (m : ℕ) (l : List ℕ) → RepLeaf n x i l → ((p : ℕ) → occ p l ≤ 1) → h ≡ get_or n (4 * i + 1) 0 → c ≡ route b v → t ≡ together (λ p. route b (pt p).at) c (length x) x h → t ≡ every (goes b (route b v)) (map pt l)
  unfolding together
  same_way b c h t m l r u eh ec e = e ∙ ap₂ (λ (j : ℕ) (k : List ℕ). every (λ p. eqb (route b (pt p).at) j) k) ec (ap (chain (length x) x) eh ∙ list_is n x i l r u) ∙ every_at pt b (route b v) l

  pub counting_on : (d : ℕ) (b : List Side) (left left' : ℕ) (e e' : List Side) (more c h : ℕ) (t : Bool) → Counting d b left e more → 0 < left → h ≡ get_or n (4 * i + 1) 0 → c ≡ route e v → t ≡ together (λ p. route e (pt p).at) c (length x) x h → t ≡ true → e' ≡ part e c
      → left' ≡ left - 1 → Counting d b left' e' (more + 1)
  counting_on d b left left' e e' more c h t q hl eh ec et y ee z = subst (λ (j : ℕ). Counting d b j e' (more + 1)) (sym z) (record {
    few = omega (arith, q.few, hl);
    counts = λ m l r u f. omega (arith, q.counts m l r u f, splits_on cap (asked m) (map pt l) (omega (arith, f, length-map l pt)) left e e' hl (sym (same_way e c h t m l r u eh ec et) ∙ y) (ee ∙ ap (part e) ec));
  })

  pub counting_apart : (d : ℕ) (b : List Side) (left : ℕ) (e : List Side) (more c h k : ℕ) (t : Bool) → Counting d b left e more → 0 < left → h ≡ get_or n (4 * i + 1) 0 → c ≡ route e v → t ≡ together (λ p. route e (pt p).at) c (length x) x h → t ≡ false
      → k ≡ get_or n (4 * i + 3) 0 → cap ≤ k → Needs d b (more + 1)
  unfolding Needs
  counting_apart d b left e more c h k t q hl eh ec et y ek f m l r u =
      let g : cap ≤ length l = omega (arith, ek, f, r.4) in
      omega (arith, q.counts m l r u g, splits_apart cap (asked m) (map pt l) (omega (arith, g, length-map l pt)) left e hl (sym (same_way e c h t m l r u eh ec et) ∙ y))

  pub counting_end : (d : ℕ) (b : List Side) (left : ℕ) (e : List Side) (more all k : ℕ) → Counting d b left e more → left ≡ 0 → all ≡ more → k ≡ get_or n (4 * i + 3) 0 → cap ≤ k → Needs d b all
  unfolding Needs
  counting_end d b left e more all k q z y ek f m l r u =
      let g : cap ≤ length l = omega (arith, ek, f, r.4) in
      omega (arith, y, q.counts m l r u g, splits_none cap (asked m) (map pt l) left e z)
