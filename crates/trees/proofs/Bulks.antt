-- A bulk as a loop over insertions, one point at a time. Over any kind of tree. Assumes nothing.
use mathlib.Core.Path.{◌≡◌, refl, ap, ap₂, sym, ◌∙◌, subst}
use mathlib.Core.Bool.{Bool, true, false}
use mathlib.Core.List.{List, [], ◌∷◌}
use Prim.Native.Nat.{ℕ, zero, suc, ◌+◌, ◌-◌, ◌<◌, ◌≤◌}
use native.Mathlib.Omega.{arith}
use lib.Dec.{leb, ltb}
use native.Mathlib.Numerals.{add-one}
use lib.Ieee.{Float}
use lib.ListN.{drop}
use Rattle.model.specs.Boxes.{inside}
use Rattle.model.specs.Calls.{Bulk, Insert, Kind, Outcome, Plan, Reply, bulk_call, call, full, give, no_nodes, number, outside, refuse, step, tree, with_root}
use Rattle.model.specs.Trees.{Point, count, nodes}
use Rattle.model.proofs.Calls.{after}
use Rattle.pool.specs.Read.{up_to}
use Rattle.trees.specs.Pieces.{DoesHeld, Gives, Pieces, Says}
use Rattle.trees.proofs.Changes.{insert_crowded, insert_done, insert_full, insert_outside}

-- ---- the model's bulk, one point on
module _ (k : Kind) (a : Plan) (n : ℕ) (p : Point) (ps : List Point) where
  -- it stops with this reply
  abbrev pub stopped : Reply → Outcome
  stopped rp = record { reply = rp; state = tree a; figure = n; points = [] }

  bulk_past : inside a.boundary p.at ≡ false → bulk_call k a n (p ∷ ps) ≡ bulk_call k a n ps
  unfolding bulk_call
  bulk_past e = rw (e, bulk_call)

  bulk_full : inside a.boundary p.at ≡ true → ltb (count 32 a.root) 512 ≡ false → bulk_call k a n (p ∷ ps) ≡ stopped full
  unfolding bulk_call
  bulk_full e c = rw (e, c, bulk_call)

  bulk_crowded : inside a.boundary p.at ≡ true → ltb (count 32 a.root) 512 ≡ true → leb (nodes 32 (after k a p)) k.most ≡ false → bulk_call k a n (p ∷ ps) ≡ stopped no_nodes
  unfolding bulk_call
  bulk_crowded e c l = rw (e, c, l, bulk_call)

  bulk_kept : inside a.boundary p.at ≡ true → ltb (count 32 a.root) 512 ≡ true → leb (nodes 32 (after k a p)) k.most ≡ true → bulk_call k a n (p ∷ ps) ≡ bulk_call k (with_root a (after k a p)) (suc n) ps
  unfolding bulk_call
  bulk_kept e c l = rw (e, c, l, bulk_call)

  -- what an insertion that replied r makes of it
  pub data Turn (c c' : Pieces) (r : ℕ) : Type 0 where
    past : r ≡ 1 → c' ≡ c → bulk_call k a n (p ∷ ps) ≡ bulk_call k a n ps → Turn c c' r
    kept : (u : Plan) → r ≡ 0 → Says k c' (tree u) → bulk_call k a n (p ∷ ps) ≡ bulk_call k u (suc n) ps → Turn c c' r
    stop : (rp : Reply) → r ≡ number rp → 1 < r → c' ≡ c → bulk_call k a n (p ∷ ps) ≡ stopped rp → Turn c c' r

  module _ (c c' : Pieces) (r : ℕ) (g : Gives k (step k (tree a) (Insert p)) c c' r 0) where
    by : (o : Outcome) → step k (tree a) (Insert p) ≡ o → Gives k o c c' r 0
    by o e = subst (λ (u : Outcome). Gives k u c c' r 0) e g

    turn : (u v w : Bool) → inside a.boundary p.at ≡ u → ltb (count 32 a.root) 512 ≡ v → leb (nodes 32 (after k a p)) k.most ≡ w → Turn c c' r
    unfolding number
    turn false v w e f l = let z = by (refuse outside (tree a)) (insert_outside k a p e) in past z.reply (z.refused (λ o. absurd (omega (arith, o))) refl) (bulk_past e)
    turn true false w e f l = let z = by (refuse full (tree a)) (insert_full k a p e f) in stop full z.reply (omega (arith, z.reply)) (z.refused (λ o. absurd (omega (arith, o))) refl) (bulk_full e f)
    turn true true false e f l = let z = by (refuse no_nodes (tree a)) (insert_crowded k a p e f l) in stop no_nodes z.reply (omega (arith, z.reply)) (z.refused (λ o. absurd (omega (arith, o))) refl) (bulk_crowded e f l)
    turn true true true e f l = let z = by (give (tree (with_root a (after k a p))) 0) (insert_done k a p e f l) in kept (with_root a (after k a p)) z.reply z.after (bulk_kept e f l)

    pub turned : Turn c c' r
    turned = turn (inside a.boundary p.at) (ltb (count 32 a.root) 512) (leb (nodes 32 (after k a p)) k.most) refl refl refl

-- ---- the loop: n points are stored, and these are left
module _ (k : Kind) (s : Pieces) (all : List Point) where
  -- from the plan a
  pub record From (a : Plan) (c : Pieces) (n : ℕ) (rest : List Point) : Type 0 where
    pub plan : Plan
    pub says : Says k c (tree plan)
    pub same : bulk_call k a 0 all ≡ bulk_call k plan n rest
    pub none : n ≡ 0 → c ≡ s

  unfoldable pub Bulking : Pieces → ℕ → List Point → Type 0
  Bulking c n rest = (a : Plan) → Says k s (tree a) → From a c n rest

  pub bulking_start : Bulking s 0 all
  unfolding Bulking
  bulking_start a y = record { plan = a; says = y; same = refl; none = λ e. refl }

  -- a reply of 0 is one point more, a reply of 1 is none
  bulking_next : (c c' : Pieces) (n r : ℕ) (p : Point) (ps : List Point) → Bulking c n (p ∷ ps) → DoesHeld k (Insert p) c c' r 0 → r ≤ 1 → Bulking c' (n + (1 - r)) ps
  unfolding Bulking DoesHeld
  bulking_next c c' n r p ps bk ins le a y = go (bk a y)
    where
      go : From a c n (p ∷ ps) → From a c' (n + (1 - r)) ps
      go f = by (turned k f.plan n p ps c c' r (ins f.plan f.says))
        where
          by : Turn k f.plan n p ps c c' r → From a c' (n + (1 - r)) ps
          by (past e k1 k2) =
              subst (λ (j : ℕ). From a c' j ps) {x = n} {y = n + (1 - r)} (omega (arith, e))
              (record { plan = f.plan; says = subst (λ (u : Pieces). Says k u (tree f.plan)) (sym k1) f.says; same = f.same ∙ k2; none = λ z. k1 ∙ f.none z })
          by (kept u e k1 k2) = subst (λ (j : ℕ). From a c' j ps) {x = suc n} {y = n + (1 - r)} (omega (arith, e)) (record { plan = u; says = k1; same = f.same ∙ k2; none = λ z. absurd (omega (arith, z)) })
          by (stop rp e k1 k2 k3) = absurd (omega (arith, le, k1))

  -- ---- the two ways out
  outcome : (a : Plan) → step k (tree a) (Bulk all) ≡ bulk_call k a 0 all
  unfolding step call
  outcome a = refl

  end : (a : Plan) (n : ℕ) → bulk_call k a n [] ≡ give (tree a) n
  unfolding bulk_call
  end a n = refl

  bulking_end : (c : Pieces) (n : ℕ) (rest : List Point) → Bulking c n rest → rest ≡ [] → DoesHeld k (Bulk all) s c 0 n
  unfolding Bulking DoesHeld number
  bulking_end c n rest bk e a y =
      let f = bk a y in
      subst (λ (o : Outcome). Gives k o s c 0 n) (sym (outcome a ∙ f.same ∙ ap (bulk_call k f.plan n) e ∙ end f.plan n))
      (record { reply = refl; figure = refl; after = f.says; refused = λ ne z. absurd (ne refl) })

  bulking_stop : (c c' : Pieces) (n r : ℕ) (p : Point) (ps : List Point) → Bulking c n (p ∷ ps) → DoesHeld k (Insert p) c c' r 0 → 1 < r → DoesHeld k (Bulk all) s c' r n
  unfolding Bulking DoesHeld
  bulking_stop c c' n r p ps bk ins more a y = go (bk a y)
    where
      go : From a c n (p ∷ ps) → Gives k (step k (tree a) (Bulk all)) s c' r n
      go f = by (turned k f.plan n p ps c c' r (ins f.plan f.says))
        where
          by : Turn k f.plan n p ps c c' r → Gives k (step k (tree a) (Bulk all)) s c' r n
          by (past e k1 k2) = absurd (omega (arith, more, e))
          by (kept u e k1 k2) = absurd (omega (arith, more, e))
          by (stop rp e k1 k2 k3) = subst (λ (o : Outcome). Gives k o s c' r n) (sym (outcome a ∙ f.same ∙ k3))
              (record { reply = e; figure = refl; after = subst (λ (u : Pieces). Says k u (tree f.plan)) (sym k2) f.says; refused = λ ne z. k2 ∙ f.none z })

-- ---- the points that are lent, one after another
left_next : {K : Type 0} (i m : ℕ) (f : ℕ → K) → i < m → drop i (up_to m f) ≡ f i ∷ drop (suc i) (up_to m f)
unfolding up_to
left_next i zero f h = absurd (omega arith)
left_next zero (suc m) f h = refl
left_next (suc i) (suc m) f h = left_next i m (λ c. f (suc c)) (omega (arith, h))

left_none : {K : Type 0} (i m : ℕ) (f : ℕ → K) → m ≤ i → drop i (up_to m f) ≡ []
unfolding up_to
left_none zero zero f h = refl
left_none (suc i) zero f h = refl
left_none zero (suc m) f h = absurd (omega arith)
left_none (suc i) (suc m) f h = left_none i m (λ c. f (suc c)) (omega (arith, h))

module _ (k : Kind) (s : Pieces) (m : ℕ) (g : ℕ → List Float) (h : ℕ → ℕ) where
  -- m points, number i at g i with the payload h i
  abbrev pub row : List Point
  row = up_to m (λ i. record { at = g i; payload = h i })

  taken_on : (c : Pieces) (n i : ℕ) (vs : List Float) (mark : ℕ) → i < m → vs ≡ g i → mark ≡ h i → Bulking k s row c n (drop i row) → Bulking k s row c n (record { at = vs; payload = mark } ∷ drop (i + 1) row)
  taken_on c n i vs mark lt ev em b =
      subst (Bulking k s row c n) (left_next i m (λ i. record { at = g i; payload = h i }) lt ∙ ap₂ {C = List Point} (λ p ps. p ∷ ps) (ap₂ {C = Point} (λ a b. record { at = a; payload = b }) (sym ev) (sym em)) (ap (λ (j : ℕ). drop j row) (sym (add-one i)))) b

  pub bulk_next : (c c' : Pieces) (n n' r i : ℕ) (vs : List Float) (mark : ℕ) → Bulking k s row c n (drop i row) → i < m → vs ≡ g i → mark ≡ h i → DoesHeld k (Insert (record { at = vs; payload = mark })) c c' r 0 → r ≤ 1
      → n' ≡ n + (1 - r) → Bulking k s row c' n' (drop (i + 1) row)
  bulk_next c c' n n' r i vs mark b lt ev em ins le en = subst (λ (j : ℕ). Bulking k s row c' j (drop (i + 1) row)) (sym en) (bulking_next k s row c c' n r (record { at = vs; payload = mark }) (drop (i + 1) row) (taken_on c n i vs mark lt ev em b) ins le)

  pub bulk_stop : (c c' : Pieces) (n r i : ℕ) (vs : List Float) (mark : ℕ) → Bulking k s row c n (drop i row) → i < m → vs ≡ g i → mark ≡ h i → DoesHeld k (Insert (record { at = vs; payload = mark })) c c' r 0 → 1 < r
      → DoesHeld k (Bulk row) s c' r n
  bulk_stop c c' n r i vs mark b lt ev em ins gt = bulking_stop k s row c c' n r (record { at = vs; payload = mark }) (drop (i + 1) row) (taken_on c n i vs mark lt ev em b) ins gt

  pub bulk_end : (c : Pieces) (n i : ℕ) → Bulking k s row c n (drop i row) → m ≤ i → DoesHeld k (Bulk row) s c 0 n
  bulk_end c n i b le = bulking_end k s row c n (drop i row) b (left_none i m (λ i. record { at = g i; payload = h i }) le)
