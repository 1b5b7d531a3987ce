-- What an offer leaves in the two arrays. Assumes nothing.
use mathlib.Core.Path.{◌≡◌, refl, ap, ap₂, sym, ◌∙◌, subst}
use mathlib.Core.Logic.{◌≢◌}
use mathlib.Core.Bool.{Bool, true, false}
use mathlib.Core.List.{List, [], ◌∷◌, ◌++◌, zip_with, drop_last}
use Prim.Native.Nat.{ℕ, zero, suc, ◌+◌, ◌-◌, ◌<◌, ◌≤◌, min}
use native.Mathlib.Omega.{arith}
use lib.ListN.{length, get_or, take, drop, length-map, take-append-drop}
use lib.Seq.{length-take-le, sets}
use lib.Dec.{T}
use borrow.Author.Tests.{lt-ltb, le-ltb}
use lib.Ieee.{Float, nan, le}
use Rattle.model.specs.Searches.{At, offer, worst}
use Rattle.model.proofs.Inside.{F64}
use Rattle.knn.specs.Candidates.{at, dists, items, entries, room, settle, offered, kept, InOrder, Written, ByModel}
use Rattle.knn.proofs.Arrays.{entries_length, dists_entries, items_entries, sets_front}
use Rattle.knn.proofs.Order.{F64s, offered_is, offer_order, settle_length}

-- ---- the entries that there are
pub entries_clip : (n : ℕ) (ds : List Float) (ps : List ℕ) → entries n ds ps ≡ entries (min n (min (length ds) (length ps))) ds ps
unfolding zip_with
entries_clip zero ds ps = ap (λ (m : ℕ). entries m ds ps) {x = 0} {y = min 0 (min (length ds) (length ps))} (omega arith)
entries_clip (suc n) [] ps = ap (λ (m : ℕ). entries m [] ps) {x = 0} {y = min (suc n) (min 0 (length ps))} (omega arith)
entries_clip (suc n) (d ∷ ds) [] = ap (λ (m : ℕ). entries m (d ∷ ds) []) {x = 0} {y = min (suc n) (min (suc (length ds)) 0)} (omega arith)
entries_clip (suc n) (d ∷ ds) (p ∷ ps) =
    ap {B = List (At ℕ)} (λ l. at d p ∷ l) (entries_clip n ds ps)
    ∙ ap (λ (m : ℕ). entries m (d ∷ ds) (p ∷ ps)) {x = suc (min n (min (length ds) (length ps)))} {y = min (suc n) (min (suc (length ds)) (suc (length ps)))} (omega arith)

pub entries_full : (n : ℕ) (ds : List Float) (ps : List ℕ) → n ≤ length ds → n ≤ length ps → length (entries n ds ps) ≡ n
entries_full n ds ps h k = entries_length n ds ps ∙ omega arith

entries_drop : (n : ℕ) (ds : List Float) (ps : List ℕ) → n < length ds → n < length ps → drop_last (entries (suc n) ds ps) ≡ entries n ds ps
unfolding zip_with
entries_drop n [] ps h k = absurd (omega arith)
entries_drop n (d ∷ ds) [] h k = absurd (omega arith)
entries_drop zero (d ∷ ds) (p ∷ ps) h k = refl
entries_drop (suc n) (d ∷ []) (p ∷ ps) h k = absurd (omega arith)
entries_drop (suc n) (d ∷ e ∷ ds) (p ∷ []) h k = absurd (omega arith)
entries_drop (suc n) (d ∷ e ∷ ds) (p ∷ q ∷ ps) h k = ap {B = List (At ℕ)} (λ l. at d p ∷ l) (entries_drop n (e ∷ ds) (q ∷ ps) (omega arith) (omega arith))

pub entries_worst : (f : Float → Bool) (n : ℕ) (ds : List Float) (ps : List ℕ) → n < length ds → n < length ps → worst f (entries (suc n) ds ps) ≡ f (get_or ds n nan)
unfolding zip_with worst
entries_worst f n [] ps h k = absurd (omega arith)
entries_worst f n (d ∷ ds) [] h k = absurd (omega arith)
entries_worst f zero (d ∷ ds) (p ∷ ps) h k = refl
entries_worst f (suc n) (d ∷ []) (p ∷ ps) h k = absurd (omega arith)
entries_worst f (suc n) (d ∷ e ∷ ds) (p ∷ []) h k = absurd (omega arith)
entries_worst f (suc n) (d ∷ e ∷ ds) (p ∷ q ∷ ps) h k = entries_worst f n (e ∷ ds) (q ∷ ps) (omega arith) (omega arith)

-- a table that is written where it stands is read as it was written
entries_front : (t : List (At ℕ)) (rd : List Float) (rp : List ℕ) → entries (length t) (dists t ++ rd) (items t ++ rp) ≡ t
unfolding zip_with
entries_front [] rd rp = refl
entries_front (e ∷ t) rd rp = ap {B = List (At ℕ)} (λ l. e ∷ l) (entries_front t rd rp)

pub entries_written : (t : List (At ℕ)) (ds : List Float) (ps : List ℕ) (ds' : List Float) (ps' : List ℕ) → length t ≤ length ds → length t ≤ length ps
    → Written t ds ps ds' ps' → entries (length t) ds' ps' ≡ t
entries_written t ds ps ds' ps' h k w =
    ap₂ (λ (a : List Float) (b : List ℕ). entries (length t) a b)
    (w.0 ∙ sets_front (dists t) ds (omega (arith, length-map t (λ e. e.dist)))) (w.1 ∙ sets_front (items t) ps (omega (arith, length-map t (λ e. e.item))))
    ∙ entries_front t (drop (length (dists t)) ds) (drop (length (items t)) ps)

-- a table that is written back leaves the arrays as they were
front : {A : Type 0} (n : ℕ) (vs l : List A) → vs ≡ take n l → n ≤ length l → l ≡ sets l 0 vs
front {A} n vs l e h =
    sym (sets_front vs l (omega (arith, v)) ∙ ap₂ (λ (a b : List A). a ++ b) e (ap (λ (m : ℕ). drop m l) v) ∙ take-append-drop n l)
  where
    v : length vs ≡ n
    v = ap length e ∙ length-take-le n l h

written_same : (n : ℕ) (ds : List Float) (ps : List ℕ) → n ≤ length ds → n ≤ length ps → Written (entries n ds ps) ds ps ds ps
written_same n ds ps h k = (front n _ ds (dists_entries n ds ps k) h, front n _ ps (items_entries n ds ps h) k)

pub entries_fit : (n : ℕ) (ds : List Float) (ps : List ℕ) → ((i : ℕ) → F64 (get_or ds i nan)) → F64s (entries n ds ps)
unfolding zip_with
entries_fit zero ds ps f = tt
entries_fit (suc n) [] ps f = tt
entries_fit (suc n) (d ∷ ds) [] f = tt
entries_fit (suc n) (d ∷ ds) (p ∷ ps) f = (f 0, entries_fit n ds ps (λ i. f (suc i)))

-- ---- the four ways of an offer
module _ {A : Type 0} (k : ℕ) (x : At A) (t : List (At A)) where
  offered_room : length t < k → offered k x t ≡ settle x t
  unfolding offered
  offered_room h = rw (lt-ltb (length t) k h, offered) refl

  offered_keep : k ≤ length t → worst (λ w. le w x.dist) t ≡ true → offered k x t ≡ t
  unfolding offered
  offered_keep h e = rw (le-ltb (length t) k h, e, offered) refl

  offered_drop : k ≤ length t → worst (λ w. le w x.dist) t ≡ false → offered k x t ≡ settle x (drop_last t)
  unfolding offered
  offered_drop h e = rw (le-ltb (length t) k h, e, offered) refl

pub record Sizes (count k : ℕ) (ds : List Float) (ps : List ℕ) (n r : ℕ) : Type 0 where
  pub table : entries count ds ps ≡ entries n ds ps
  pub most : room k ds ps ≡ r
  pub in_d : n ≤ length ds
  pub in_p : n ≤ length ps
  pub room_d : r ≤ length ds
  pub room_p : r ≤ length ps

pub sizes : (count k : ℕ) (ds : List Float) (ps : List ℕ) (n r w a : ℕ) → w ≡ min (length ds) (length ps) → a ≡ min k 512 → r ≡ min a w → n ≡ min count w → Sizes count k ds ps n r
sizes count k ds ps n r w a ew ea er en = record {
  table = entries_clip count ds ps ∙ ap (λ (m : ℕ). entries m ds ps) (ap (min count) (sym ew) ∙ sym en);
  most = ap₂ min (sym ea) (sym ew) ∙ sym er;
  in_d = omega (arith, ew, en);
  in_p = omega (arith, ew, en);
  room_d = omega (arith, ew, er);
  room_p = omega (arith, ew, er);
}

module _ (count k : ℕ) (d : Float) (p : ℕ) (ds : List Float) (ps : List ℕ) (ds' : List Float) (ps' : List ℕ) (n r : ℕ)
    (z : Sizes count k ds ps n r) (fd : F64 d) (fs : (i : ℕ) → F64 (get_or ds i nan)) where
  long : length (entries count ds ps) ≡ n
  long = ap length z.table ∙ entries_full n ds ps z.in_d z.in_p

  t_fits : F64s (entries count ds ps)
  t_fits = entries_fit count ds ps fs

  abbrev Offers : ℕ → Type 0
  Offers m = (m ≡ length (kept count k d p ds ps)) × (Written (kept count k d p ds ps) ds ps ds' ps' × ByModel count k d p ds ps ds' ps' m)

  -- a table T of m entries that was written is what the contract says
  done : (T : List (At ℕ)) (m : ℕ) → kept count k d p ds ps ≡ T → m ≡ length T → m ≤ length ds → m ≤ length ps → Written T ds ps ds' ps' → Offers m
  done T m e em hd hp w = (
    em ∙ ap length (sym e),
    (
      subst (λ (u : List (At ℕ)). Written u ds ps ds' ps') (sym e) w,
      λ o.
          let q : entries m ds' ps' ≡ offer (room k ds ps) (at d p) (entries count ds ps) = ap (λ (j : ℕ). entries j ds' ps') em ∙ entries_written T ds ps ds' ps' (omega (arith, em)) (omega (arith, em)) w ∙ sym e ∙ offered_is (room k ds ps) (at d p) (entries count ds ps) fd t_fits o in
          (q, subst InOrder (sym q) (offer_order (room k ds ps) (at d p) (entries count ds ps) fd t_fits o)),
    ),
  )

  pub offer_room : n < r → Written (settle (at d p) (entries n ds ps)) ds ps ds' ps' → Offers (n + 1)
  offer_room h w = done (settle (at d p) (entries n ds ps)) (n + 1)
      (offered_room (room k ds ps) (at d p) (entries count ds ps) (omega (arith, long, z.most)) ∙ ap (settle (at d p)) z.table)
      (sym (settle_length (at d p) (entries n ds ps) ∙ ap suc (entries_full n ds ps z.in_d z.in_p) ∙ omega arith)) (omega (arith, z.room_d)) (omega (arith, z.room_p)) w

  same : ds' ≡ ds → ps' ≡ ps → Written (entries n ds ps) ds ps ds' ps'
  same a b = let w = written_same n ds ps z.in_d z.in_p in (a ∙ w.0, b ∙ w.1)

  pub offer_none : r ≤ n → n ≡ 0 → ds' ≡ ds → ps' ≡ ps → Offers 0
  offer_none h e a b = done (entries n ds ps) 0 (offered_keep (room k ds ps) (at d p) (entries count ds ps) (omega (arith, long, z.most)) (nothing (entries count ds ps) (omega (arith, long))) ∙ z.table) (sym (entries_full n ds ps z.in_d z.in_p ∙ e)) (omega arith) (omega arith) (same a b)
    where
      nothing : (t : List (At ℕ)) → length t ≡ 0 → worst (λ w. le w d) t ≡ true
      nothing [] e = unfold worst in refl
      nothing (y ∷ ys) e = absurd (omega arith)

  last : n ≢ 0 → worst (λ w. le w d) (entries count ds ps) ≡ le (get_or ds (n - 1) nan) d
  last e = ap (worst (λ w. le w d)) (z.table ∙ ap (λ (m : ℕ). entries m ds ps) {x = n} {y = suc (n - 1)} (omega arith)) ∙ entries_worst (λ w. le w d) (n - 1) ds ps (omega (arith, z.in_d)) (omega (arith, z.in_p))

  pub offer_away : r ≤ n → n ≢ 0 → le (get_or ds (n - 1) nan) d ≡ true → ds' ≡ ds → ps' ≡ ps → Offers n
  offer_away h e l a b = done (entries n ds ps) n (offered_keep (room k ds ps) (at d p) (entries count ds ps) (omega (arith, long, z.most)) (last e ∙ l) ∙ z.table) (sym (entries_full n ds ps z.in_d z.in_p)) z.in_d z.in_p (same a b)

  pub offer_drop : r ≤ n → n ≢ 0 → le (get_or ds (n - 1) nan) d ≡ false → Written (settle (at d p) (entries (n - 1) ds ps)) ds ps ds' ps' → Offers n
  offer_drop h e l w = done (settle (at d p) (entries (n - 1) ds ps)) n
      (offered_drop (room k ds ps) (at d p) (entries count ds ps) (omega (arith, long, z.most)) (last e ∙ l)
      ∙ ap (settle (at d p)) (ap drop_last (z.table ∙ ap (λ (m : ℕ). entries m ds ps) {x = n} {y = suc (n - 1)} (omega arith)) ∙ entries_drop (n - 1) ds ps (omega (arith, z.in_d)) (omega (arith, z.in_p))))
      (sym (settle_length (at d p) (entries (n - 1) ds ps) ∙ ap suc (entries_full (n - 1) ds ps (omega (arith, z.in_d)) (omega (arith, z.in_p))) ∙ omega arith)) z.in_d z.in_p w
