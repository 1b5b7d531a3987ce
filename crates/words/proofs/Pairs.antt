-- Laws of words in twos, and of floats in them. Assumes nothing.
use mathlib.Core.Path.{◌≡◌, refl, ap, ap₂, sym, ◌∙◌}
use mathlib.Core.Logic.{◌≢◌}
use mathlib.Core.List.{List, [], ◌∷◌, ◌++◌, map}
use Prim.Native.Nat.{ℕ, zero, suc, ◌+◌, ◌*◌, ◌/◌, ◌%◌, ◌^◌, ◌<◌, ◌≤◌}
use native.Mathlib.Omega.{arith}
use native.Mathlib.Numerals.{add-one}
use lib.ListN.{length, get_or, set, get_or-eq_default}
use lib.Seq.{get_or-set_same, get_or-set_other}
use lib.Dec.{T}
use lib.Ieee.{Float, binary64, fits, of_bits, to_bits}
use lib.Ieee.Bits.{of_bits-to_bits}
use Rattle.std.specs.Int.{w32, w64, from_le_bytes, to_le_bytes}
use Rattle.std.specs.Simd.{first_chunks}
use lib.Seq.{length-sets, sets}
use Rattle.std.proofs.lemmas.List.{get_or-map}
use Rattle.words.specs.Words.{le4, words, pairs, set_pair}
use Rattle.words.proofs.Words.{length_words, words_sets}

-- how many there are
pub length_pairs : (w : List ℕ) → length (pairs w) ≡ length w / 2
unfolding pairs
length_pairs [] = refl
length_pairs (a ∷ []) = refl
length_pairs (a ∷ b ∷ w) = omega (arith, length_pairs w)

pub length_set_pair : (w : List ℕ) (i v : ℕ) → length (set_pair w i v) ≡ length w
unfolding set_pair
length_set_pair [] i v = refl
length_set_pair (a ∷ []) i v = refl
length_set_pair (a ∷ b ∷ w) zero v = refl
length_set_pair (a ∷ b ∷ w) (suc i) v = omega (arith, length_set_pair w i v)

-- twice i, so that it computes
twice : ℕ → ℕ
twice zero = zero
twice (suc i) = suc (suc (twice i))

twice_is : (i : ℕ) → twice i ≡ 2 * i
unfolding twice
twice_is zero = refl
twice_is (suc i) = omega (arith, twice_is i)

pub pairs_out : (w : List ℕ) (i : ℕ) → length w / 2 ≤ i → get_or (pairs w) i 0 ≡ 0
pairs_out w i h = get_or-eq_default (pairs w) 0 (omega (arith, length_pairs w))

set_twice : (w : List ℕ) (i v : ℕ) → i < length w / 2 → set (set w (twice i) (v % 4294967296)) (suc (twice i)) (v / 4294967296) ≡ set_pair w i v
unfolding set_pair twice
set_twice [] i v h = absurd (omega arith)
set_twice (a ∷ []) i v h = absurd (omega arith)
set_twice (a ∷ b ∷ w) zero v h = refl
set_twice (a ∷ b ∷ w) (suc i) v h = ap (λ l. a ∷ b ∷ l) (set_twice w i v (omega arith))

-- its two words are stored
pub pair_set : (w : List ℕ) (i v : ℕ) → i < length w / 2 → set (set w (2 * i) (v % 4294967296)) (2 * i + 1) (v / 4294967296) ≡ set_pair w i v
pair_set w i v h = rw (← twice_is i, add-one) (set_twice w i v h)

pub pair_set_out : (w : List ℕ) (i v : ℕ) → length w / 2 ≤ i → w ≡ set_pair w i v
unfolding set_pair
pair_set_out [] i v h = refl
pair_set_out (a ∷ []) i v h = refl
pair_set_out (a ∷ b ∷ w) zero v h = absurd (omega arith)
pair_set_out (a ∷ b ∷ w) (suc i) v h = ap (λ l. a ∷ b ∷ l) (pair_set_out w i v (omega arith))

-- what was written is read back, and every other number is as it was
pub pairs_set_pair : (w : List ℕ) (i v : ℕ) → pairs (set_pair w i v) ≡ set (pairs w) i v
unfolding pairs set_pair
pairs_set_pair [] i v = refl
pairs_set_pair (a ∷ []) i v = refl
pairs_set_pair (a ∷ b ∷ w) zero v = ap (λ n. n ∷ pairs w) (parts v)
  where
    parts : (v : ℕ) → v % 4294967296 + 4294967296 * (v / 4294967296) ≡ v
    parts v = omega arith
pairs_set_pair (a ∷ b ∷ w) (suc i) v = ap (λ l. (a + 4294967296 * b) ∷ l) (pairs_set_pair w i v)

-- and so is every word of another number
pub set_pair_other : (w : List ℕ) (i v j : ℕ) → j / 2 ≢ i → get_or (set_pair w i v) j 0 ≡ get_or w j 0
unfolding set_pair
set_pair_other [] i v j h = refl
set_pair_other (a ∷ []) i v j h = refl
set_pair_other (a ∷ b ∷ w) zero v zero h = absurd (h refl)
set_pair_other (a ∷ b ∷ w) zero v (suc zero) h = absurd (h refl)
set_pair_other (a ∷ b ∷ w) zero v (suc (suc j)) h = refl
set_pair_other (a ∷ b ∷ w) (suc i) v zero h = refl
set_pair_other (a ∷ b ∷ w) (suc i) v (suc zero) h = refl
set_pair_other (a ∷ b ∷ w) (suc i) v (suc (suc j)) h = set_pair_other w i v j (λ e. h (omega arith))

-- a number does not see a word that is not one of its two
pub pairs_apart : (w : List ℕ) (i j v : ℕ) → j / 2 ≢ i → get_or (pairs (set w j v)) i 0 ≡ get_or (pairs w) i 0
unfolding pairs
pairs_apart [] i j v h = refl
pairs_apart (a ∷ []) i zero v h = refl
pairs_apart (a ∷ []) i (suc j) v h = refl
pairs_apart (a ∷ b ∷ w) zero zero v h = absurd (h refl)
pairs_apart (a ∷ b ∷ w) zero (suc zero) v h = absurd (h refl)
pairs_apart (a ∷ b ∷ w) zero (suc (suc j)) v h = refl
pairs_apart (a ∷ b ∷ w) (suc i) zero v h = refl
pairs_apart (a ∷ b ∷ w) (suc i) (suc zero) v h = refl
pairs_apart (a ∷ b ∷ w) (suc i) (suc (suc j)) v h = pairs_apart w i j v (λ e. h (omega arith))

-- ---- as the library reads and writes them, eight bytes at a time
pub pairs_chunks : (s : List ℕ) (k : ℕ) → k ≡ length s / 8 → pairs (words s) ≡ map (from_le_bytes w64) (first_chunks 8 k s)
unfolding words pairs
pairs_chunks (a ∷ b ∷ c ∷ d ∷ e ∷ f ∷ g ∷ h ∷ s) zero q = absurd (omega arith)
pairs_chunks (a ∷ b ∷ c ∷ d ∷ e ∷ f ∷ g ∷ h ∷ s) (suc k) q = ap₂ (λ n l. n ∷ l) (le8_is a b c d e f g h) (pairs_chunks s k (omega arith))
  where
    le8_is : (a b c d e f g h : ℕ) → le4 a b c d + 4294967296 * le4 e f g h ≡ from_le_bytes w64 (a ∷ b ∷ c ∷ d ∷ e ∷ f ∷ g ∷ h ∷ [])
    le8_is a b c d e f g h = omega arith
pairs_chunks [] zero q = refl
pairs_chunks (a ∷ []) zero q = refl
pairs_chunks (a ∷ b ∷ []) zero q = refl
pairs_chunks (a ∷ b ∷ c ∷ []) zero q = refl
pairs_chunks (a ∷ b ∷ c ∷ d ∷ []) zero q = refl
pairs_chunks (a ∷ b ∷ c ∷ d ∷ e ∷ []) zero q = refl
pairs_chunks (a ∷ b ∷ c ∷ d ∷ e ∷ f ∷ []) zero q = refl
pairs_chunks (a ∷ b ∷ c ∷ d ∷ e ∷ f ∷ g ∷ []) zero q = refl
pairs_chunks s (suc k) q = absurd (omega arith)

pub chunk_read : (s bytes : List ℕ) (cs : List (List ℕ)) (i : ℕ) → cs ≡ first_chunks 8 (length s / 8) s → i < length cs → bytes ≡ get_or cs i bytes → from_le_bytes w64 bytes ≡ get_or (pairs (words s)) i 0
chunk_read s bytes cs i q h e =
    sym (ap (λ w. get_or w i 0) (pairs_chunks s (length s / 8) refl ∙ ap (map (from_le_bytes w64)) (sym q)) ∙ get_or-map (from_le_bytes w64) cs i bytes 0 h ∙ ap (from_le_bytes w64) (sym e))

pub chunk_missing : (s : List ℕ) (i : ℕ) → length s / 8 ≤ i → get_or (pairs (words s)) i 0 ≡ 0
chunk_missing s i h = pairs_out (words s) i (omega (arith, length_words s))

-- the eight bytes of a number are those of its low word and of its high one
halves : (v : ℕ) → to_le_bytes w64 v ≡ to_le_bytes w32 (v % 4294967296) ++ to_le_bytes w32 (v / 4294967296)
halves v =
    let e : v % 256 ≡ v % 4294967296 % 256 = omega arith in
    let f : v / 256 % 256 ≡ v % 4294967296 / 256 % 256 = omega arith in
    let g : v / 65536 % 256 ≡ v % 4294967296 / 65536 % 256 = omega arith in
    let h : v / 16777216 % 256 ≡ v % 4294967296 / 16777216 % 256 = omega arith in
    let l : v / 1099511627776 % 256 ≡ v / 4294967296 / 256 % 256 = omega arith in
    let m : v / 281474976710656 % 256 ≡ v / 4294967296 / 65536 % 256 = omega arith in
    let n : v / 72057594037927936 % 256 ≡ v / 4294967296 / 16777216 % 256 = omega arith in
    rw (e, f, g, h, l, m, n)

pub pair_sets : (s : List ℕ) (i v : ℕ) → v < 2 ^ 64 → i < length s / 8 → words (sets s (8 * i) (to_le_bytes w64 v)) ≡ set_pair (words s) i v
pair_sets s i v hv h =
    let first : 8 * i ≡ 4 * (2 * i) = omega arith in
    let second : suc (suc (suc (suc (8 * i)))) ≡ 4 * (2 * i + 1) = omega arith in
    ap words (ap (sets s (8 * i)) (halves v) ∙ ap₂ (λ a b. sets (sets s a low) b high) first second)
    ∙ words_sets (sets s (4 * (2 * i)) low) (2 * i + 1) (v / 4294967296) (omega arith) (omega (arith, length-sets s (4 * (2 * i)) low))
    ∙ ap (λ w. set w (2 * i + 1) (v / 4294967296)) (words_sets s (2 * i) (v % 4294967296) (omega arith) (omega arith))
    ∙ pair_set (words s) i v (omega (arith, length_words s))
  where
    low : List ℕ
    low = to_le_bytes w32 (v % 4294967296)

    high : List ℕ
    high = to_le_bytes w32 (v / 4294967296)

pub pair_not_stored : (s : List ℕ) (i v : ℕ) → length s / 8 ≤ i → words s ≡ set_pair (words s) i v
pair_not_stored s i v h = pair_set_out (words s) i v (omega (arith, length_words s))

-- a float that was written is read back
pub float_back : (w : List ℕ) (i : ℕ) (x : Float) → T (fits binary64 x) → i < length w / 2 → of_bits binary64 (get_or (pairs (set_pair w i (to_bits binary64 x))) i 0) ≡ x
float_back w i x f h =
    ap (λ l. of_bits binary64 (get_or l i 0)) (pairs_set_pair w i (to_bits binary64 x))
    ∙ ap (of_bits binary64) (get_or-set_same (pairs w) i (to_bits binary64 x) 0 (omega (arith, length_pairs w)))
    ∙ of_bits-to_bits binary64 x f

-- and every other float is as it was
pub float_other : (w : List ℕ) (i j : ℕ) (x : Float) → j ≢ i → of_bits binary64 (get_or (pairs (set_pair w i (to_bits binary64 x))) j 0) ≡ of_bits binary64 (get_or (pairs w) j 0)
float_other w i j x ne =
    ap (λ l. of_bits binary64 (get_or l j 0)) (pairs_set_pair w i (to_bits binary64 x)) ∙ ap (of_bits binary64) (get_or-set_other (pairs w) i j (to_bits binary64 x) 0 ne)

-- a float does not see a word that is not one of its two
pub float_apart : (w : List ℕ) (i j v : ℕ) → j / 2 ≢ i → of_bits binary64 (get_or (pairs (set w j v)) i 0) ≡ of_bits binary64 (get_or (pairs w) i 0)
float_apart w i j v ne = ap (of_bits binary64) (pairs_apart w i j v ne)
