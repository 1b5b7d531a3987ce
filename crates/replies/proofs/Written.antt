-- Laws of bytes that are written one after the other, and of digits. Assumes nothing.
use Prim.Native.Nat.{ℕ, zero, suc, ◌+◌, ◌*◌, ◌^◌, ◌≤◌, ◌<◌, max}
use mathlib.Core.Path.{◌≡◌, refl, sym, ap, ◌∙◌, subst}
use mathlib.Core.List.{List, [], ◌∷◌, ◌++◌, append_assoc, append-nil}
use native.Mathlib.Nat.{add-zero}
use native.Mathlib.Omega.{arith}
use lib.ListN.{length, length-append}
use lib.Seq.{sets}
use borrow.Author.Tests.{lt-ltb, le-ltb}
use Rattle.record.specs.Numbers.{glyph, spelt, places, decimal}
use Rattle.trees.proofs.Walks.{sets_append}
use Rattle.replies.specs.Lines.{crlf}
use Rattle.replies.specs.Programs.{Puts, Wrote}

-- what was written after what was written
pub then : (o₀ o₁ o₂ xs ys : List ℕ) (at r₁ r₂ : ℕ) → Wrote o₀ at xs o₁ r₁ → Wrote o₁ r₁ ys o₂ r₂ → Wrote o₀ at (xs ++ ys) o₂ r₂
then o₀ o₁ o₂ xs ys at r₁ r₂ f g = (
  omega (arith, f.0, g.0, length-append xs ys),
  (g.1 ∙ ap (λ (l : List ℕ). sets l r₁ ys) f.1 ∙ ap (λ (k : ℕ). sets (sets o₀ at xs) k ys) f.0 ∙ sym (sets_append xs ys o₀ at)),
)

-- no room, and room enough
pub unwritten : (o : List ℕ) (at : ℕ) → Wrote o at [] o at
unwritten o at = (sym (add-zero at), refl)

pub puts_none : (room : ℕ) (o : List ℕ) (at : ℕ) (bytes : List ℕ) → length o < at + room → Puts room o at bytes o at
puts_none room o at bytes h = record { wrote = λ l. absurd (omega arith); none = λ l. unwritten o at }

-- who writes hands back what was written
pub puts_out : {room : ℕ} {before bytes : List ℕ} {at r : ℕ} (o : List ℕ) {o' : List ℕ} → o ≡ o' → Puts room before at bytes o r → Puts room before at bytes o' r
puts_out {room} {before} {bytes} {at} {r} o e h = subst (λ (x : List ℕ). Puts room before at bytes x r) e h

pub puts_some : (room : ℕ) (o : List ℕ) (at : ℕ) (bytes o' : List ℕ) (r : ℕ) → at + room ≤ length o → Wrote o at bytes o' r → Puts room o at bytes o' r
puts_some room o at bytes o' r h w = record { wrote = λ l. w; none = λ l. absurd (omega arith) }

-- ---- how many digits

pub places_1 : (n : ℕ) → n < 10 → 1 ≡ places n
unfolding places
places_1 n l = simp (lt-ltb n 10 l)

pub places_2 : (n : ℕ) → 10 ≤ n → n < 100 → 2 ≡ places n
unfolding places
places_2 n h l = simp (le-ltb n 10 (omega arith), lt-ltb n 100 l)

pub places_3 : (n : ℕ) → 100 ≤ n → n < 1000 → 3 ≡ places n
unfolding places
places_3 n h l = simp (le-ltb n 10 (omega arith), le-ltb n 100 (omega arith), lt-ltb n 1000 l)

pub places_4 : (n : ℕ) → 1000 ≤ n → n < 10000 → 4 ≡ places n
unfolding places
places_4 n h l = simp (le-ltb n 10 (omega arith), le-ltb n 100 (omega arith), le-ltb n 1000 (omega arith), lt-ltb n 10000 l)

pub places_5 : (n : ℕ) → 10000 ≤ n → n < 100000 → 5 ≡ places n
unfolding places
places_5 n h l = simp (le-ltb n 10 (omega arith), le-ltb n 100 (omega arith), le-ltb n 1000 (omega arith), le-ltb n 10000 (omega arith), lt-ltb n 100000 l)

pub places_6 : (n : ℕ) → 100000 ≤ n → n < 1000000 → 6 ≡ places n
unfolding places
places_6 n h l = simp (le-ltb n 10 (omega arith), le-ltb n 100 (omega arith), le-ltb n 1000 (omega arith), le-ltb n 10000 (omega arith), le-ltb n 100000 (omega arith), lt-ltb n 1000000 l)

pub places_7 : (n : ℕ) → 1000000 ≤ n → n < 10000000 → 7 ≡ places n
unfolding places
places_7 n h l = simp (le-ltb n 10 (omega arith), le-ltb n 100 (omega arith), le-ltb n 1000 (omega arith), le-ltb n 10000 (omega arith), le-ltb n 100000 (omega arith), le-ltb n 1000000 (omega arith), lt-ltb n 10000000 l)

pub places_8 : (n : ℕ) → 10000000 ≤ n → n < 100000000 → 8 ≡ places n
unfolding places
places_8 n h l = simp (le-ltb n 10 (omega arith), le-ltb n 100 (omega arith), le-ltb n 1000 (omega arith), le-ltb n 10000 (omega arith), le-ltb n 100000 (omega arith), le-ltb n 1000000 (omega arith), le-ltb n 10000000 (omega arith), lt-ltb n 100000000 l)

pub places_9 : (n : ℕ) → 100000000 ≤ n → n < 1000000000 → 9 ≡ places n
unfolding places
places_9 n h l = simp (le-ltb n 10 (omega arith), le-ltb n 100 (omega arith), le-ltb n 1000 (omega arith), le-ltb n 10000 (omega arith), le-ltb n 100000 (omega arith), le-ltb n 1000000 (omega arith), le-ltb n 10000000 (omega arith), le-ltb n 100000000 (omega arith), lt-ltb n 1000000000 l)

pub places_10 : (n : ℕ) → 1000000000 ≤ n → 10 ≡ places n
unfolding places
places_10 n h = simp (le-ltb n 10 (omega arith), le-ltb n 100 (omega arith), le-ltb n 1000 (omega arith), le-ltb n 10000 (omega arith), le-ltb n 100000 (omega arith), le-ltb n 1000000 (omega arith), le-ltb n 10000000 (omega arith), le-ltb n 100000000 (omega arith), le-ltb n 1000000000 (omega arith))

-- by the greatest power of ten in it
pub places_is : (n m k : ℕ) → m ≡ max n 1 → 10 ^ k ≤ m → m < 10 * 10 ^ k → k < 10 → k + 1 ≡ places n
places_is n m zero e l h f = let b : m < 10 = h in places_1 n (omega arith)
places_is n m (suc zero) e l h f = let a : 10 ≤ m = l in let b : m < 100 = h in places_2 n (omega arith) (omega arith)
places_is n m (suc (suc zero)) e l h f = let a : 100 ≤ m = l in let b : m < 1000 = h in places_3 n (omega arith) (omega arith)
places_is n m (suc (suc (suc zero))) e l h f = let a : 1000 ≤ m = l in let b : m < 10000 = h in places_4 n (omega arith) (omega arith)
places_is n m (suc (suc (suc (suc zero)))) e l h f = let a : 10000 ≤ m = l in let b : m < 100000 = h in places_5 n (omega arith) (omega arith)
places_is n m (suc (suc (suc (suc (suc zero))))) e l h f = let a : 100000 ≤ m = l in let b : m < 1000000 = h in places_6 n (omega arith) (omega arith)
places_is n m (suc (suc (suc (suc (suc (suc zero)))))) e l h f = let a : 1000000 ≤ m = l in let b : m < 10000000 = h in places_7 n (omega arith) (omega arith)
places_is n m (suc (suc (suc (suc (suc (suc (suc zero))))))) e l h f = let a : 10000000 ≤ m = l in let b : m < 100000000 = h in places_8 n (omega arith) (omega arith)
places_is n m (suc (suc (suc (suc (suc (suc (suc (suc zero)))))))) e l h f = let a : 100000000 ≤ m = l in let b : m < 1000000000 = h in places_9 n (omega arith) (omega arith)
places_is n m (suc (suc (suc (suc (suc (suc (suc (suc (suc zero))))))))) e l h f = let a : 1000000000 ≤ m = l in places_10 n (omega arith)
places_is n m (suc (suc (suc (suc (suc (suc (suc (suc (suc (suc k)))))))))) e l h f = absurd (omega arith)

pub decimal_written : (o o' : List ℕ) (at r n k : ℕ) → k ≡ places n → Wrote o at (spelt 10 k n) o' r → Wrote o at (decimal n) o' r
unfolding decimal
decimal_written o o' at r n k e w = subst (λ (j : ℕ). Wrote o at (spelt 10 j n) o' r) e w

-- ---- a line that begins with the reply 0
zero_is : 48 ∷ [] ≡ decimal 0
unfolding decimal spelt places glyph
zero_is = refl

pub done_written : (o₀ o₁ o₂ o₃ xs : List ℕ) (at r₁ r₂ r₃ : ℕ) → Wrote o₀ at (48 ∷ []) o₁ r₁ → Wrote o₁ r₁ xs o₂ r₂ → Wrote o₂ r₂ crlf o₃ r₃ → Wrote o₀ at (decimal 0 ++ xs ++ crlf) o₃ r₃
done_written o₀ o₁ o₂ o₃ xs at r₁ r₂ r₃ f g h =
    then o₀ o₂ o₃ (decimal 0 ++ xs) crlf at r₂ r₃ (then o₀ o₁ o₂ (decimal 0) xs at r₁ r₂ (subst (λ (s : List ℕ). Wrote o₀ at s o₁ r₁) zero_is f) g) h

-- ---- what is left to print leads to all that is to be printed
pub record Printing (whole o₀ : List ℕ) (at : ℕ) (rest o : List ℕ) (w : ℕ) : Type 0 where
  pub same : length o ≡ length o₀
  pub done : List ℕ
  pub wrote : Wrote o₀ at done o w
  pub left : done ++ rest ≡ whole

pub printing_start : (whole o : List ℕ) (at : ℕ) → Printing whole o at whole o at
printing_start whole o at = record { same = refl; done = []; wrote = (sym (add-zero at), refl); left = refl }

pub printing_step : (whole o₀ rest xs rest' o o' : List ℕ) (at w w' : ℕ) → Printing whole o₀ at rest o w → rest ≡ xs ++ rest' → length o' ≡ length o → Wrote o w xs o' w' → Printing whole o₀ at rest' o' w'
printing_step whole o₀ rest xs rest' o o' at w w' p e l f = record {
  same = l ∙ p.same;
  done = p.done ++ xs;
  wrote = then o₀ o o' p.done xs at w w' p.wrote f;
  left = append_assoc p.done xs rest' ∙ ap (λ (t : List ℕ). p.done ++ t) (sym e) ∙ p.left;
}

pub printing_end : (whole o₀ rest o : List ℕ) (at w : ℕ) → Printing whole o₀ at rest o w → rest ≡ [] → Wrote o₀ at whole o w
printing_end whole o₀ rest o at w p e = subst (λ (t : List ℕ). Wrote o₀ at t o w) (sym (append-nil p.done) ∙ ap (λ (t : List ℕ). p.done ++ t) (sym e) ∙ p.left) p.wrote
