-- The records of an input: document 01, "Records of the command program". Definitions only, for either program: `of` says what one record says.
use Rattle.std.specs.Prelude.{ℕ, ◌-◌, ◌<◌, ◌≡◌, Bool, true, false, cond, List, [], ◌∷◌, length, get_or, take, drop, eqb, leb, Option, None}
use Rattle.model.specs.Calls.{Call}
use Rattle.record.specs.Text.{split, same}

-- "Each record ends with CRLF or LF": what stands before a line feed, without the carriage return that belongs to the line end
unfoldable pub strip : List ℕ → List ℕ
strip s = cond (eqb (get_or s (length s - 1) 0) 13) (take (length s - 1) s) s

-- "At most 128 bytes stand before the line end; a longer record is answered 9 once and skipped."
unfoldable pub ended : (List ℕ → Option Call) → List ℕ → Option Call
unfolding strip
ended of s = cond (leb (length (strip s)) 128) (of (strip s)) None

-- "a last record with no line end is answered 9. Nothing after the last line end, or no input at all, is no record."
unfoldable pub unended : List ℕ → List (Option Call)
unended [] = []
unended (b ∷ s) = None ∷ []

-- what the parts between line feeds say: all but the last have their line end
unfoldable pub parts : (List ℕ → Option Call) → List (List ℕ) → List (Option Call)
unfolding ended unended
parts of [] = []
parts of (p ∷ []) = unended p
parts of (p ∷ q ∷ ps) = ended of p ∷ parts of (q ∷ ps)

-- "The three bytes EF BB BF at the very start are skipped."
abbrev pub mark : List ℕ
mark = 239 ∷ 187 ∷ 191 ∷ []

unfoldable pub unmarked : List ℕ → List ℕ
unfolding same
unmarked s = cond (same (take 3 s) mark) (drop 3 s) s

-- the input from a place on, which is the very start or not
unfoldable pub begun : (start : Bool) → List ℕ → List ℕ
unfolding unmarked
begun true s = unmarked s
begun false s = s

-- what the records from a place on say, one after the other
unfoldable pub records : (List ℕ → Option Call) → (start : Bool) → List ℕ → List (Option Call)
unfolding parts begun split
records of start s = parts of (split 10 (begun start s))

-- no line feed among the bytes: a line that has not ended
abbrev pub Unended : List ℕ → Type 0
Unended s = (i : ℕ) → i < length s → get_or s i 0 ≡ 10 → ⊥
