-- What the loops over marks keep. Assumes nothing.
use mathlib.Core.Path.{◌≡◌, refl, ap, ap₂, sym, ◌∙◌, subst}
use mathlib.Core.Logic.{◌≢◌}
use mathlib.Core.Bool.{Bool, true, false, not, ◌&&◌}
use mathlib.Core.List.{List, [], ◌∷◌}
use Prim.Native.Nat.{ℕ, zero, suc, ◌+◌, ◌-◌, ◌*◌, ◌<◌, ◌≤◌}
use native.Mathlib.Omega.{arith}
use lib.ListN.{length, get_or, drop}
use lib.Dec.{eqb}
use Rattle.std.specs.List.{list_all}
use Rattle.std.proofs.lemmas.Bool.{eqb-true, eqb-false, ne_eqb, and_parts}
use Rattle.trees.proofs.Marks.{Claims, AllMet, Frees, Freeing, freeing_start, freeing_step, freeing_end, freeing_over, Linked}
use Rattle.pool.specs.Writes.{kid}
use Rattle.trees.proofs.Tests.{no_true}

-- ---- all of them but 0
all_hold : (m : List ℕ) → list_all (λ x. not (eqb x 0)) m ≡ true → (p : ℕ) → p < length m → get_or m p 0 ≢ 0
all_hold [] e p h z = absurd (omega arith)
all_hold (x ∷ m) e zero h z = no_true (sym (ap (λ v. not (eqb v 0) && list_all (λ x. not (eqb x 0)) m) z) ∙ e)
all_hold (x ∷ m) e (suc p) h z = all_hold m ((and_parts (not (eqb x 0)) _ e).1) p (omega arith) z

hold_all : (m : List ℕ) → ((p : ℕ) → p < length m → get_or m p 0 ≢ 0) → list_all (λ x. not (eqb x 0)) m ≡ true
hold_all [] f = refl
hold_all (x ∷ m) f = ap₂ (λ b c. not b && c) (ne_eqb x 0 (f 0 (omega arith))) (hold_all m (λ p h. f (suc p) (omega arith)))

pub all_met_is : (m : List ℕ) (r : Bool) → r ≡ list_all (λ x. not (eqb x 0)) (drop 1 m) → AllMet m r
all_met_is [] r e = record { sure = λ t p z l. absurd (omega arith); only = λ f. e }
all_met_is (x ∷ m) r e = record {
  sure = λ t p z l. at p z l (sym e ∙ t);
  only = λ f. e ∙ hold_all m (λ p h. f (suc p) (λ q. absurd (omega arith)) (omega arith));
}
  where
    at : (p : ℕ) → p ≢ 0 → p < length (x ∷ m) → list_all (λ x. not (eqb x 0)) m ≡ true → get_or (x ∷ m) p 0 ≢ 0
    at zero z l h q = absurd (z refl)
    at (suc p) z l h q = all_hold m h p (omega arith) q

-- ---- a list that is walked: what is there is what has a mark
pub frees_as : (next : ℕ → ℕ) (ok : ℕ → Type 0) (m : List ℕ) (h : ℕ) (m' : List ℕ) (r : Bool) → Frees next (λ p. p < length m) m h m' r → Frees next ok m h m' r
unfolding Frees
frees_as next ok m h m' r w f b =
    let v = w (record { within = λ p l. l; below = λ p l. l }) b in
    record {
      sure = λ t low. let q = v.sure t low in record { list = q.list; rest = q.rest; linked = along h q.list q.linked; steps = q.steps; ends = q.ends; marked = q.marked };
      only = λ low l rest k s d n. v.only low l rest (back h l k) s d n;
    }
  where
    along : (h : ℕ) (l : List ℕ) → Linked next (λ p. p < length m) h l → Linked next ok h l
    along h [] k = k
    along h (p ∷ l) k = (k.0, k.1, f.within p k.2, along (next p) l k.3)

    back : (h : ℕ) (l : List ℕ) → Linked next ok h l → Linked next (λ p. p < length m) h l
    back h [] k = k
    back h (p ∷ l) k = (k.0, k.1, f.below p k.2, back (next p) l k.3)

pub groups_freed : (ways : ℕ) (n m m' : List ℕ) (r : Bool) → Frees (λ g. get_or n (4 * kid ways g 0) 0) (λ p. p < length m) m (get_or n (4 * kid ways 0 0) 0) m' r
    → Frees (λ g. get_or n (4 * kid ways g 0) 0) (λ g. 4 * kid ways g ways ≤ length n) m (get_or n 0 0) m' r
groups_freed ways n m m' r w =
    subst (λ h. Frees (λ g. get_or n (4 * kid ways g 0) 0) (λ g. 4 * kid ways g ways ≤ length n) m h m' r) (ap (λ i. get_or n i 0) first) (frees_as _ _ _ _ _ _ w)
  where
    first : 4 * kid ways 0 0 ≡ 0
    first = omega arith

-- ---- the walk, by how many steps were made
pub walk_start : {next : ℕ → ℕ} {ok : ℕ → Type 0} (m : List ℕ) (h q : ℕ) → q ≡ h → Freeing next ok m h m q (length m - 0)
walk_start {next} {ok} m h q e = subst (Freeing next ok m h m q) (all (length m)) (freeing_start next ok m h q e)
  where
    all : (n : ℕ) → n ≡ n - 0
    all n = omega arith

pub walk_step : {next : ℕ → ℕ} {ok : ℕ → Type 0} (m : List ℕ) (h : ℕ) (now : List ℕ) (q k : ℕ) → Freeing next ok m h now q (length m - k) → (now' : List ℕ) (q' : ℕ) (t : Bool) → q ≢ 0 → k < length m → Claims now now' q t → t ≡ true → q' ≡ next q → Freeing next ok m h now' q' (length m - (k + 1))
walk_step {next} {ok} m h now q k g now' q' t nz l c e eq =
    subst (Freeing next ok m h now' q') (one_less (length m)) (freeing_step next ok m h now q (length m - k) g now' q' t nz (some (length m) l) c e eq)
  where
    one_less : (n : ℕ) → n - k - 1 ≡ n - (k + 1)
    one_less n = omega arith

    some : (n : ℕ) → k < n → n - k ≡ 0 → ⊥
    some n l e = omega arith

pub walk_done : {next : ℕ → ℕ} {ok : ℕ → Type 0} (m : List ℕ) (h : ℕ) (now : List ℕ) (q k : ℕ) → Freeing next ok m h now q (length m - k) → length m ≤ k → Frees next ok m h now (eqb q 0)
walk_done {next} {ok} m h now q k g l = go (eqb q 0) refl
  where
    none : (n : ℕ) → n ≤ k → n - k ≡ 0
    none n l = omega arith

    go : (t : Bool) → eqb q 0 ≡ t → Frees next ok m h now (eqb q 0)
    go true e = subst (Frees next ok m h now) (sym e) (freeing_end next ok m h now q (length m - k) g (eqb-true q 0 e))
    go false e = subst (Frees next ok m h now) (sym e) (freeing_over next ok m h now q (length m - k) g now (eqb-false q 0 e) (none (length m) l))
