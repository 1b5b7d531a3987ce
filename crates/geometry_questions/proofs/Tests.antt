-- Laws of the tests by which a question is found: a count and a word. Assumes nothing.
use Prim.Native.Nat.{ℕ, zero, suc}
use mathlib.Core.Path.{◌≡◌, refl, sym, ap₂, ◌∙◌, subst}
use mathlib.Core.Bool.{Bool, true, false, not, ◌&&◌, and-false, and-eq-true_iff}
use mathlib.Core.List.{List, [], ◌∷◌}
use lib.Dec.{T, eqb}
use lib.Pointwise.{pointwise}
use lib.Ieee.{Float}
use lib.ListN.{drop, get_or}
use borrow.Author.Tests.{eq-eqb, eqb-true, not-true}
use Rattle.record.specs.Text.{same}
use Rattle.record.proofs.Parts.{same_eq, same_refl, says_other, says_same}
use Rattle.geometry_answers.specs.Shown.{Said, unknown}
use Rattle.geometry_questions.specs.Asked.{Question, answer, asks}

-- question number k, from 0
abbrev pub row : List Question → ℕ → Question
row qs k = get_or qs k (asks [] 0 (λ v. unknown))

-- whether question number k is there and none before it has its word
abbrev pub alone : List Question → ℕ → Bool
alone [] k = false
alone (q ∷ qs) zero = true
alone (q ∷ qs) (suc k) = not (same (row qs k).word q.word) && alone qs k

own : (qs : List Question) (k : ℕ) (v : List Float) → alone qs k ≡ true → (row qs k).says v ≡ answer qs (row qs k).count (row qs k).word v
unfolding answer
own [] k v a = absurd (subst T (sym a) tt)
own (q ∷ qs) zero v a = simp (eq-eqb q.count q.count refl, same_refl q.word)
own (q ∷ qs) (suc k) v a =
    let both = (and-eq-true_iff (not (same (row qs k).word q.word)) (alone qs k)).0 a in
    own qs k v both.1 ∙ simp (not-true (same (row qs k).word q.word) both.0, and-false)

-- the test of a question was met
pub met : (qs : List Question) (k n : ℕ) (r : Bool) (w : List ℕ) (v : List Float) {x : Said} → alone qs k ≡ true → x ≡ (row qs k).says v → (r ≡ true → w ≡ (row qs k).word) → eqb n (row qs k).count && r ≡ true → x ≡ answer qs n w v
met qs k n r w v a e g h =
    let both = (and-eq-true_iff (eqb n (row qs k).count) r).0 h in
    e ∙ own qs k v a ∙ ap₂ (λ (m : ℕ) (u : List ℕ). answer qs m u v) (sym (eqb-true n (row qs k).count both.0)) (sym (g both.1))

missed : (n k : ℕ) (r : Bool) (w t : List ℕ) → (w ≡ t → r ≡ true) → eqb n k && r ≡ false → eqb n k && same w t ≡ false
missed n k r w t g h = go (eqb n k) h (same w t) refl
  where
    go : (e : Bool) → e && r ≡ false → (b : Bool) → same w t ≡ b → e && b ≡ false
    go true q true z = sym (g (same_eq w t z)) ∙ q
    go true q false z = refl
    go false q b z = refl

-- it was not: the questions after it are left
pub past : (qs : List Question) (k n : ℕ) (r : Bool) (w : List ℕ) (v : List Float) → (w ≡ (row qs k).word → r ≡ true) → eqb n (row qs k).count && r ≡ false → answer (drop (suc k) qs) n w v ≡ answer (drop k qs) n w v
unfolding answer
past [] zero n r w v g h = refl
past [] (suc k) n r w v g h = refl
past (q ∷ qs) zero n r w v g h = simp (missed n q.count r w q.word g h)
past (q ∷ qs) (suc k) n r w v g h = past qs k n r w v g h

-- Both, for a test that compares the word with a text.
named : (r : Bool) (w t u : List ℕ) → r ≡ pointwise eqb w t → t ≡ u → w ≡ u → r ≡ true
named true w t u g q e = refl
named false w t u g q e = sym (says_other false w t u g q refl) ∙ subst (λ (x : List ℕ). same w x ≡ true) e (same_refl w)

pub met_by : (qs : List Question) (k n : ℕ) (r : Bool) (w t : List ℕ) (v : List Float) {x : Said} → alone qs k ≡ true → x ≡ (row qs k).says v → r ≡ pointwise eqb w t → t ≡ (row qs k).word → eqb n (row qs k).count && r ≡ true → x ≡ answer qs n w v
met_by qs k n r w t v a e g q h = met qs k n r w v a e (says_same r w t (row qs k).word g q) h

pub past_by : (qs : List Question) (k n : ℕ) (r : Bool) (w t : List ℕ) (v : List Float) → r ≡ pointwise eqb w t → t ≡ (row qs k).word → eqb n (row qs k).count && r ≡ false → answer (drop (suc k) qs) n w v ≡ answer (drop k qs) n w v
past_by qs k n r w t v g q h = past qs k n r w v (named r w t (row qs k).word g q) h

-- no question is left
pub no_more : (n : ℕ) (w : List ℕ) (v : List Float) → unknown ≡ answer [] n w v
unfolding answer
no_more n w v = refl
