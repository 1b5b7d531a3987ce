-- What is printed from the bytes that a search hands over, with no float in between; the proofs say that these are the lines of its points. Definitions only.
use Rattle.std.specs.Prelude.{◌≡◌, ◌≢◌, List, [], ◌∷◌, ◌++◌, ℕ, zero, suc, ◌+◌, ◌*◌, ◌/◌, ◌%◌, ◌<◌, ◌≤◌, get_or, take, drop}
use Rattle.words.specs.Words.{words}
use Rattle.trees.specs.Pieces.{room_for}
use Rattle.record.specs.Numbers.{glyph, decimal}
use Rattle.replies.specs.Lines.{crlf, field}
use Rattle.replies.specs.Programs.{Puts, Wrote}

-- the hex digits of a number from its bytes, of which the first is the low one
unfoldable pub nibbles : List ℕ → List ℕ
unfolding glyph
nibbles [] = []
nibbles (b ∷ s) = nibbles s ++ (glyph (b / 16) ∷ glyph (b % 16) ∷ [])

-- the digits of float number i
abbrev pub hex_at : List ℕ → ℕ → List ℕ
hex_at cs i = nibbles (take 8 (drop (8 * i) cs))

-- the fields of so many floats from number i on
unfoldable pub hexes : ℕ → List ℕ → ℕ → List ℕ
unfolding nibbles
hexes zero cs i = []
hexes (suc a) cs i = field (hex_at cs i) ++ hexes a cs (i + 1)

-- the fields of point number j
abbrev pub point_at : (axes : ℕ) (cs ms : List ℕ) (j : ℕ) → List ℕ
point_at axes cs ms j = hexes axes cs (axes * j) ++ field (decimal (get_or (words ms) j 0))

-- the fields of so many points from number j on
unfoldable pub points_from : (axes n : ℕ) (cs ms : List ℕ) (j : ℕ) → List ℕ
unfolding hexes decimal words
points_from axes zero cs ms j = []
points_from axes (suc n) cs ms j = point_at axes cs ms j ++ points_from axes n cs ms (j + 1)

-- the line of a search, whatever became of it, printed from what it handed over. Done, it needs room for the reply, the count and the line end, 14 bytes at most, and for each float 17 with its comma and each payload 11; a
-- count of more points than were lent is no answer, and nothing is written
pub record PutsTold (axes : ℕ) (coords payloads : List ℕ) (reply count : ℕ) (before : List ℕ) (at : ℕ) (after : List ℕ) (r : ℕ) : Type 0 where
  pub refused : reply ≢ 0 → Puts 12 before at (decimal reply ++ crlf) after r
  pub done : reply ≡ 0 → count ≤ room_for axes coords payloads → Puts (14 + (17 * axes + 11) * count) before at (decimal 0 ++ (field (decimal count) ++ points_from axes count coords payloads 0) ++ crlf) after r
  pub unlent : reply ≡ 0 → room_for axes coords payloads < count → Wrote before at [] after r
