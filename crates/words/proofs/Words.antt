-- Laws of words in bytes. Assumes nothing.
use mathlib.Core.Path.{◌≡◌, refl, ap, ap₂, sym, ◌∙◌}
use mathlib.Core.List.{List, [], ◌∷◌, ◌++◌, map}
use Prim.Native.Nat.{ℕ, zero, suc, ◌+◌, ◌-◌, ◌*◌, ◌/◌, ◌%◌, ◌^◌, ◌<◌, ◌≤◌}
use native.Mathlib.Omega.{arith}
use native.Mathlib.Numerals.{add-one, add-two, add-three}
use lib.ListN.{length, length-drop, length-take, take, drop, get_or, set, get_or-eq_default}
use lib.Seq.{set_out, sets, sets-eq, take-length}
use borrow.Rule.Slice.PartMut.{put_mid}
use Rattle.std.proofs.lemmas.List.{get_or-map}
use Rattle.std.proofs.lemmas.Slice.{put_mid-paste}
use Rattle.std.specs.Int.{w32, from_le_bytes, to_le_bytes}
use Rattle.std.specs.Simd.{first_chunks}
use Rattle.words.specs.Words.{le4, words}

-- four times i, so that it computes
quad : ℕ → ℕ
quad zero = zero
quad (suc i) = suc (suc (suc (suc (quad i))))

quad_is : (i : ℕ) → quad i ≡ 4 * i
unfolding quad
quad_is zero = refl
quad_is (suc i) = omega (arith, quad_is i)

-- how many words there are
pub length_words : (s : List ℕ) → length (words s) ≡ length s / 4
unfolding words
length_words [] = refl
length_words (a ∷ []) = refl
length_words (a ∷ b ∷ []) = refl
length_words (a ∷ b ∷ c ∷ []) = refl
length_words (a ∷ b ∷ c ∷ d ∷ s) = omega (arith, length_words s)

at_quad : (s : List ℕ) (i : ℕ) → i < length (words s)
    → get_or (words s) i 0 ≡ le4 (get_or s (quad i) 0) (get_or s (suc (quad i)) 0) (get_or s (suc (suc (quad i))) 0) (get_or s (suc (suc (suc (quad i)))) 0)
unfolding words quad
at_quad [] i h = absurd (omega arith)
at_quad (a ∷ []) i h = absurd (omega arith)
at_quad (a ∷ b ∷ []) i h = absurd (omega arith)
at_quad (a ∷ b ∷ c ∷ []) i h = absurd (omega arith)
at_quad (a ∷ b ∷ c ∷ d ∷ s) zero h = refl
at_quad (a ∷ b ∷ c ∷ d ∷ s) (suc i) h = at_quad s i (omega arith)

-- a word by its bytes
pub words_at : (s : List ℕ) (i : ℕ) → i < length s / 4
    → get_or (words s) i 0 ≡ le4 (get_or s (4 * i) 0) (get_or s (4 * i + 1) 0) (get_or s (4 * i + 2) 0) (get_or s (4 * i + 3) 0)
words_at s i h = rw (← quad_is i, add-one, add-two, add-three) (at_quad s i (omega (arith, length_words s)))

-- past the last whole word
pub words_out : (s : List ℕ) (i : ℕ) → length s / 4 ≤ i → get_or (words s) i 0 ≡ 0
words_out s i h = get_or-eq_default (words s) 0 (omega (arith, length_words s))

set_quad : (s : List ℕ) (i a b c d : ℕ) → i < length (words s)
    → words (set (set (set (set s (quad i) a) (suc (quad i)) b) (suc (suc (quad i))) c) (suc (suc (suc (quad i)))) d) ≡ set (words s) i (le4 a b c d)
unfolding words quad
set_quad [] i a b c d h = absurd (omega arith)
set_quad (x ∷ []) i a b c d h = absurd (omega arith)
set_quad (x ∷ y ∷ []) i a b c d h = absurd (omega arith)
set_quad (x ∷ y ∷ z ∷ []) i a b c d h = absurd (omega arith)
set_quad (x ∷ y ∷ z ∷ w ∷ s) zero a b c d h = refl
set_quad (x ∷ y ∷ z ∷ w ∷ s) (suc i) a b c d h = ap (λ l. le4 x y z w ∷ l) (set_quad s i a b c d (omega arith))

-- nothing is stored past the last whole word
pub words_set_out : (s : List ℕ) (i v : ℕ) → length s / 4 ≤ i → words s ≡ set (words s) i v
words_set_out s i v h = sym (set_out (words s) i v (omega (arith, length_words s)))

-- ---- where no byte is left past the last whole word, the words determine the bytes
pub words_determine : (s t : List ℕ) → length s ≡ length t → length s % 4 ≡ 0 → ((k : ℕ) → get_or s k 0 < 256) → ((k : ℕ) → get_or t k 0 < 256) → words s ≡ words t → s ≡ t
unfolding words
words_determine [] [] e z hs ht w = refl
words_determine [] (x ∷ t) e z hs ht w = absurd (omega arith)
words_determine (a ∷ s) [] e z hs ht w = absurd (omega arith)
words_determine (a ∷ []) (x ∷ t) e z hs ht w = absurd (omega arith)
words_determine (a ∷ b ∷ []) (x ∷ t) e z hs ht w = absurd (omega arith)
words_determine (a ∷ b ∷ c ∷ []) (x ∷ t) e z hs ht w = absurd (omega arith)
words_determine (a ∷ b ∷ c ∷ d ∷ s) (x ∷ []) e z hs ht w = absurd (omega arith)
words_determine (a ∷ b ∷ c ∷ d ∷ s) (x ∷ y ∷ []) e z hs ht w = absurd (omega arith)
words_determine (a ∷ b ∷ c ∷ d ∷ s) (x ∷ y ∷ u ∷ []) e z hs ht w = absurd (omega arith)
words_determine (a ∷ b ∷ c ∷ d ∷ s) (x ∷ y ∷ u ∷ v ∷ t) e z hs ht w =
    ap (λ (k : ℕ). k ∷ b ∷ c ∷ d ∷ s) {x = a} {y = x} (omega (arith, top, hs 0, ht 0))
    ∙ ap (λ (k : ℕ). x ∷ k ∷ c ∷ d ∷ s) {x = b} {y = y} (omega (arith, top, hs 0, ht 0, hs 1, ht 1))
    ∙ ap (λ (k : ℕ). x ∷ y ∷ k ∷ d ∷ s) {x = c} {y = u} (omega (arith, top, hs 0, ht 0, hs 1, ht 1, hs 2, ht 2))
    ∙ ap (λ (k : ℕ). x ∷ y ∷ u ∷ k ∷ s) {x = d} {y = v} (omega (arith, top, hs 0, ht 0, hs 1, ht 1, hs 2, ht 2))
    ∙ ap (λ (l : List ℕ). x ∷ y ∷ u ∷ v ∷ l) (words_determine s t (omega (arith, e)) (omega (arith, z)) (λ k. hs (suc (suc (suc (suc k))))) (λ k. ht (suc (suc (suc (suc k))))) (ap rest w))
  where
    top : le4 a b c d ≡ le4 x y u v
    top = ap (λ (l : List ℕ). get_or l 0 0) w

    rest : List ℕ → List ℕ
    rest [] = []
    rest (k ∷ l) = l

-- ---- words as the library reads and writes them, four bytes at a time
pub words_chunks : (s : List ℕ) (k : ℕ) → k ≡ length s / 4 → words s ≡ map (from_le_bytes w32) (first_chunks 4 k s)
unfolding words
words_chunks [] zero h = refl
words_chunks [] (suc k) h = absurd (omega arith)
words_chunks (a ∷ []) zero h = refl
words_chunks (a ∷ []) (suc k) h = absurd (omega arith)
words_chunks (a ∷ b ∷ []) zero h = refl
words_chunks (a ∷ b ∷ []) (suc k) h = absurd (omega arith)
words_chunks (a ∷ b ∷ c ∷ []) zero h = refl
words_chunks (a ∷ b ∷ c ∷ []) (suc k) h = absurd (omega arith)
words_chunks (a ∷ b ∷ c ∷ d ∷ s) zero h = absurd (omega arith)
words_chunks (a ∷ b ∷ c ∷ d ∷ s) (suc k) h = ap₂ (λ n l. n ∷ l) (le4_is a b c d) (words_chunks s k (omega arith))
  where
    le4_is : (a b c d : ℕ) → le4 a b c d ≡ from_le_bytes w32 (a ∷ b ∷ c ∷ d ∷ [])
    le4_is a b c d = omega arith

pub words_sets : (s : List ℕ) (i v : ℕ) → v < 2 ^ 32 → i < length s / 4 → words (sets s (4 * i) (to_le_bytes w32 v)) ≡ set (words s) i v
words_sets s i v hv h = rw (← quad_is i) (set_quad s i _ _ _ _ (omega (arith, length_words s))) ∙ ap (set (words s) i) (whole v hv)
  where
    whole : (v : ℕ) → v < 2 ^ 32 → le4 (get_or (to_le_bytes w32 v) 0 0) (get_or (to_le_bytes w32 v) 1 0) (get_or (to_le_bytes w32 v) 2 0) (get_or (to_le_bytes w32 v) 3 0) ≡ v
    whole v h = omega arith

-- n bytes that were written are a run of stores
pub stored : (t ys : List ℕ) (k n : ℕ) → k + n ≤ length t → length ys ≡ length (take (k + n - k) (drop k t)) → put_mid k (k + n - k) t ys ≡ sets t k ys
stored t ys k n h e =
    let f : length ys ≡ k + n - k = omega (arith, simp (length-take, length-drop) at e) in
    put_mid-paste k (k + n - k) t ys ys (length ys) refl f refl ∙ ap (λ l. take k t ++ l ++ drop (k + length ys) t) (take-length ys) ∙ sym (sets-eq ys t k (omega arith))

-- a word is read from its chunk
pub chunk_read : (s bytes : List ℕ) (cs : List (List ℕ)) (i : ℕ) → cs ≡ first_chunks 4 (length s / 4) s → i < length cs → bytes ≡ get_or cs i bytes → from_le_bytes w32 bytes ≡ get_or (words s) i 0
chunk_read s bytes cs i q h e =
    sym (ap (λ w. get_or w i 0) (words_chunks s (length s / 4) refl ∙ ap (map (from_le_bytes w32)) (sym q)) ∙ get_or-map (from_le_bytes w32) cs i bytes 0 h ∙ ap (from_le_bytes w32) (sym e))
