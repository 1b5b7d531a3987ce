-- The first place of a list that passes a test, and the place before it. Assumes nothing.
use mathlib.Core.Path.{◌≡◌, refl, ap, sym, ◌∙◌}
use mathlib.Core.Logic.{◌≢◌}
use mathlib.Core.Bool.{Bool, true, false, not, ◌&&◌}
use mathlib.Core.List.{List, [], ◌∷◌, ◌++◌, map}
use Prim.Native.Nat.{zero, suc, ℕ}
use native.Mathlib.Omega.{arith}
use lib.Dec.{eqb}
use borrow.Author.Tests.{eq-eqb, ne_eqb}
use lib.Ieee.{Float}
use lib.ListN.{length}
use Rattle.model.specs.Boxes.{same_place}
use Rattle.model.specs.Trees.{Point, same}
use Rattle.model.proofs.Short.{filled, first, without_s}
use Rattle.pool.specs.Lists.{occ, last_or}
use Rattle.pool.specs.Read.{chain}
use Rattle.pool.proofs.Lists.{is_eq}
use Rattle.trees.proofs.Tests.{and_false, and_true}

-- a place or 0, and the one before it or 0
pub record Place : Type 0 where
  pub place : ℕ
  pub before : ℕ

unfoldable pub seek : (ℕ → Bool) → List ℕ → ℕ → Place
seek f [] z = record { place = 0; before = z }
seek f (q ∷ l) z = elim (f q) [ true ↦ record { place = q; before = z } | false ↦ seek f l q ]

-- ---- the loop
pub seek_end : (f : ℕ → Bool) (old : List ℕ) (z : ℕ) → old ≡ [] → seek f old z ≡ record { place = 0; before = z }
unfolding seek
seek_end f old z e = ap (λ (l : List ℕ). seek f l z) e

pub seek_hit : (f : ℕ → Bool) (old left : List ℕ) (q z : ℕ) (t : Bool) → old ≡ q ∷ left → t ≡ f q → t ≡ true → record { place = q; before = z } ≡ seek f old z
unfolding seek
seek_hit f old left q z t eo e y = sym (ap (λ (l : List ℕ). seek f l z) eo ∙ ap (λ (b : Bool). elim b as (λ u. Place) [ true ↦ record { place = q; before = z } | false ↦ seek f left q ]) (sym e ∙ y))

pub seek_next : (f : ℕ → Bool) (old left : List ℕ) (q z : ℕ) (t : Bool) → old ≡ q ∷ left → t ≡ f q → t ≡ false → seek f left q ≡ seek f old z
unfolding seek
seek_next f old left q z t eo e y = sym (ap (λ (l : List ℕ). seek f l z) eo ∙ ap (λ (b : Bool). elim b as (λ u. Place) [ true ↦ record { place = q; before = z } | false ↦ seek f left q ]) (sym e ∙ y))

-- no place of a chain is 0
pub chain_some : (n : ℕ) (x : List ℕ) (h q : ℕ) (l : List ℕ) → chain n x h ≡ q ∷ l → q ≢ 0
unfolding chain
chain_some zero x h q l e z = absurd (omega (arith, ap length e))
chain_some (suc n) x zero q l e z = absurd (omega (arith, ap length e))
chain_some (suc n) x (suc h) q l e z = let k : suc h ≡ q = cc in absurd (omega (arith, k, z))

-- ---- by the model's words: the first equal point, and the list without it
module _ (pt : ℕ → Point) (p : Point) where
  abbrev pub equal : ℕ → Bool
  equal q = same p (pt q)

  -- l is two parts with the place between them, and g is what is left
  pub record Taken (l : List ℕ) (z : ℕ) (s : Place) (g : List Point) : Type 0 where
    pub front : List ℕ
    pub back : List ℕ
    pub whole : l ≡ front ++ (s.place ∷ back)
    pub behind : s.before ≡ last_or z front
    pub gone : g ≡ map pt (front ++ back)

  pub seek_taken : (l : List ℕ) (z : ℕ) → (seek equal l z).place ≢ 0 → Taken l z (seek equal l z) (without_s p (map pt l))
  unfolding seek without_s
  seek_taken [] z h = absurd (h refl)
  seek_taken (q ∷ l) z h = go (same p (pt q)) h (seek_taken l q)
    where
      go : (t : Bool) → (elim t as (λ u. Place) [ true ↦ record { place = q; before = z } | false ↦ seek equal l q ]).place ≢ 0 → ((seek equal l q).place ≢ 0 → Taken l q (seek equal l q) (without_s p (map pt l)))
          → Taken (q ∷ l) z (elim t as (λ u. Place) [ true ↦ record { place = q; before = z } | false ↦ seek equal l q ]) (elim t as (λ u. List Point) [ true ↦ map pt l | false ↦ pt q ∷ without_s p (map pt l) ])
      go true h k = record { front = []; back = l; whole = refl; behind = refl; gone = refl }
      go false h k = let r = k h in record { front = q ∷ r.front; back = r.back; whole = ap (λ (u : List ℕ). q ∷ u) r.whole; behind = r.behind; gone = ap (λ (u : List Point). pt q ∷ u) r.gone }

  pub seek_filled : (l : List ℕ) (z : ℕ) → occ 0 l ≡ 0 → filled (first p (map pt l)) ≡ not (eqb (seek equal l z).place 0)
  unfolding seek first filled
  seek_filled [] z o = refl
  seek_filled (q ∷ l) z o = go (same p (pt q)) (seek_filled l q (omega arith))
    where
      go : (t : Bool) → filled (first p (map pt l)) ≡ not (eqb (seek equal l q).place 0)
          → filled {A = Point} (elim t as (λ u. List Point) [ true ↦ pt q ∷ [] | false ↦ first p (map pt l) ]) ≡ not (eqb (elim t as (λ u. Place) [ true ↦ record { place = q; before = z } | false ↦ seek equal l q ]).place 0)
      go true e = ap not (sym (ne_eqb q 0 (λ k. absurd (omega (arith, o, is_eq 0 q (sym k))))))
      go false e = e

-- the payload is asked first
pub same_other : (v : List Float) (m k : ℕ) (q : Point) → k ≡ q.payload → k ≢ m → false ≡ same (record { at = v; payload = m }) q
unfolding same
same_other v m k q ek ne = sym (ap (λ (t : Bool). same_place v q.at && t) (ap (eqb m) (sym ek) ∙ ne_eqb m k (λ e. ne (sym e))) ∙ and_false (same_place v q.at))

pub same_here : (v w : List Float) (m k : ℕ) (q : Point) (a : Bool) → a ≡ same_place v w → w ≡ q.at → k ≡ q.payload → k ≡ m → a ≡ same (record { at = v; payload = m }) q
unfolding same
same_here v w m k q a ea ew ek e = ea ∙ ap (same_place v) ew ∙ sym (ap (λ (t : Bool). same_place v q.at && t) (ap (eqb m) (sym ek) ∙ eq-eqb m k (sym e)) ∙ and_true (same_place v q.at))
