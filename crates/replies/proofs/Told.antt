-- What is printed from the bytes of an answer is the line of its points, over any number of axes. Assumes nothing.
use mathlib.Core.Path.{◌≡◌, refl, sym, ap, ap₂, ◌∙◌, subst}
use mathlib.Core.Logic.{◌≢◌}
use mathlib.Core.Bool.{cond}
use mathlib.Core.List.{List, [], ◌∷◌, ◌++◌, append_assoc, map, flatten}
use Prim.Native.Nat.{ℕ, zero, suc, ◌+◌, ◌*◌, ◌/◌, ◌%◌, ◌≤◌, ◌<◌, min}
use native.Mathlib.Nat.{mul-suc}
use native.Mathlib.Numerals.{add-one}
use native.Mathlib.Omega.{arith}
use lib.Dec.{eqb}
use lib.Ieee.{Float, binary64, to_bits}
use lib.ListN.{length, get_or, take, drop, length-append, length-drop}
use lib.Seq.{sets-eq, take_at, drop_at, drop-drop, get_or-drop, length-sets}
use Rattle.model.specs.Calls.{Outcome, number}
use Rattle.pieces.specs.Replies.{reply_of}
use Rattle.pieces.specs.declared.Refusal.{Refusal}
use Rattle.pieces.specs.declared.Refusal.TheVariants.{Outside, Absent, NoCapacity, BadBoundary, Full, NoNodes, NoRoom, Unsound, NotUnderstood, NoTree}
use Rattle.model.specs.Soundness.{All}
use Rattle.model.specs.Trees.{Point}
use Rattle.pool.proofs.Lists.{by-eq}
use Rattle.record.specs.Numbers.{decimal, hex}
use Rattle.words.specs.Words.{words, le4}
use Rattle.words.proofs.Words.{words_at}
use Rattle.answers.proofs.Writes.{fits_place, float_bytes, float_bytes_length}
use Rattle.trees.specs.Pieces.{Hands, bytes, coordinates, payloads, room_for}
use Rattle.replies.specs.Lines.{crlf, field, point, points}
use Rattle.replies.specs.Printed.{hex_at, hexes, nibbles, points_from, PutsTold}
use Rattle.replies.specs.Programs.{Puts, Wrote}
use Rattle.replies.proofs.Hexes.{nibbles_bytes}
use Rattle.replies.proofs.Lines.{found, refused_is}

-- a point that can be handed over in bytes: a coordinate for each axis, and "Payload: unsigned 32 bits"
abbrev pub ShapedPoint : (axes : ℕ) → Point → Type 0
ShapedPoint axes p = (length p.at ≡ axes) × (p.payload < 4294967296)

-- the answer of a search: its figure is the count of its points, and each can be handed over
pub record Shaped (axes : ℕ) (o : Outcome) : Type 0 where
  pub counted : o.figure ≡ length o.points
  pub each : All (ShapedPoint axes) o.points

-- ---- coordinates
-- the next eight bytes are a float's
hex_is : (cs rest : List ℕ) (i : ℕ) (x : Float) → drop (8 * i) cs ≡ bytes 8 (to_bits binary64 x) ++ rest → hex_at cs i ≡ hex x
unfolding hex bytes
hex_is cs rest i x e = ap nibbles (ap (take 8) e ∙ take_at (bytes 8 (to_bits binary64 x)) rest 8 refl) ∙ nibbles_bytes 8 (to_bits binary64 x)

further : (cs s rest : List ℕ) (m n : ℕ) → drop m cs ≡ s ++ rest → m + length s ≡ n → drop n cs ≡ rest
further cs s rest m n e l = ap (λ (j : ℕ). drop j cs) (sym l) ∙ sym (drop-drop (length s) m cs) ∙ ap (drop (length s)) e ∙ drop_at s rest (length s) refl

hexes_are : (vs : List Float) (cs rest : List ℕ) (i : ℕ) → drop (8 * i) cs ≡ float_bytes vs ++ rest → hexes (length vs) cs i ≡ flatten (map (λ x. field (hex x)) vs)
unfolding hexes float_bytes flatten bytes
hexes_are [] cs rest i e = refl
hexes_are (v ∷ vs) cs rest i e =
    let f = e ∙ append_assoc (bytes 8 (to_bits binary64 v)) (float_bytes vs) rest in
    ap₂ (λ (s t : List ℕ). field s ++ t) (hex_is cs (float_bytes vs ++ rest) i v f) (hexes_are vs cs rest (i + 1) (further cs (bytes 8 (to_bits binary64 v)) (float_bytes vs ++ rest) (8 * i) (8 * (i + 1)) f (omega arith)))

-- ---- payloads
-- the next four bytes are a payload's
payload_is : (ms rest : List ℕ) (j v : ℕ) → v < 4294967296 → drop (4 * j) ms ≡ bytes 4 v ++ rest → get_or (words ms) j 0 ≡ v
unfolding bytes
payload_is ms rest j v h e = words_at ms j there ∙ lined
  where
    there : j < length ms / 4
    there = omega (arith, length-drop (4 * j) ms, ap length e)

    byte : (k : ℕ) → get_or ms (4 * j + k) 0 ≡ get_or (bytes 4 v ++ rest) k 0
    byte k = sym (get_or-drop (4 * j) ms k 0) ∙ ap (λ (s : List ℕ). get_or s k 0) e

    first : get_or ms (4 * j) 0 ≡ v % 256
    first = ap (λ (i : ℕ). get_or ms i 0) {x = 4 * j} {y = 4 * j + 0} (omega arith) ∙ byte 0

    lined : le4 (get_or ms (4 * j) 0) (get_or ms (4 * j + 1) 0) (get_or ms (4 * j + 2) 0) (get_or ms (4 * j + 3) 0) ≡ v
    lined = omega (arith, first, byte 1, byte 2, byte 3)

-- ---- points
module _ (axes : ℕ) where
  points_are : (ps : List Point) (cs ms cs' ms' : List ℕ) (j : ℕ) → All (ShapedPoint axes) ps → drop (8 * (axes * j)) cs ≡ coordinates ps ++ cs' → drop (4 * j) ms ≡ payloads ps ++ ms' → points_from axes (length ps) cs ms j ≡ points ps
  unfolding points_from points point coordinates payloads flatten float_bytes bytes
  points_are [] cs ms cs' ms' j h ec em = refl
  points_are (p ∷ ps) cs ms cs' ms' j h ec em =
      ap₂ (λ (s t : List ℕ). s ++ t)
      (ap₂ (λ (s : List ℕ) (v : ℕ). s ++ field (decimal v))
      (ap (λ (a : ℕ). hexes a cs (axes * j)) (sym h.0.0) ∙ hexes_are p.at cs (coordinates ps ++ cs') (axes * j) fc)
      (payload_is ms (payloads ps ++ ms') j p.payload h.0.1 fm))
      (points_are ps cs ms cs' ms' (j + 1) h.1
      (further cs (float_bytes p.at) (coordinates ps ++ cs') (8 * (axes * j)) (8 * (axes * (j + 1))) fc (omega (arith, float_bytes_length p.at, h.0.0, ap (λ (i : ℕ). axes * i) (add-one j), mul-suc axes j)))
      (further ms (bytes 4 p.payload) (payloads ps ++ ms') (4 * j) (4 * (j + 1)) fm (omega arith)))
    where
      fc : drop (8 * (axes * j)) cs ≡ float_bytes p.at ++ (coordinates ps ++ cs')
      fc = ec ∙ append_assoc (float_bytes p.at) (coordinates ps) cs'

      fm : drop (4 * j) ms ≡ bytes 4 p.payload ++ (payloads ps ++ ms')
      fm = em ∙ append_assoc (bytes 4 p.payload) (payloads ps) ms'

  coordinates_length : (ps : List Point) → All (ShapedPoint axes) ps → length (coordinates ps) ≡ 8 * (axes * length ps)
  unfolding coordinates flatten float_bytes
  coordinates_length [] h = omega arith
  coordinates_length (p ∷ ps) h = omega (arith, length-append (float_bytes p.at) (coordinates ps), float_bytes_length p.at, h.0.0, coordinates_length ps h.1, mul-suc axes (length ps))

payloads_length : (ps : List Point) → length (payloads ps) ≡ 4 * length ps
unfolding payloads flatten bytes
payloads_length [] = refl
payloads_length (p ∷ ps) = omega (arith, length-append (bytes 4 p.payload) (payloads ps), payloads_length ps)

-- room for n points is room for all their floats
fits_all : (axes n L M : ℕ) → n ≤ min (L / (8 * axes)) (M / 4) → 8 * (axes * n) ≤ L
fits_all axes zero L M h = omega arith
fits_all axes (suc n) L M h = omega (arith, fits_place axes (suc n) n L M h (omega arith), mul-suc axes n)

-- ---- the line
module _ (axes reply count : ℕ) (coords payloads' : List ℕ) (o : Outcome) (cs ms : List ℕ) (h : Hands o cs ms coords payloads' reply count) (s : Shaped axes o) where
  handed : o.figure ≤ room_for axes coords payloads' → points_from axes count coords payloads' 0 ≡ points o.points
  handed few =
      ap (λ (n : ℕ). points_from axes n coords payloads' 0) (h.figure ∙ s.counted)
      ∙ points_are axes o.points coords payloads' (drop (0 + length (coordinates o.points)) cs) (drop (0 + length (payloads o.points)) ms) 0 s.each
      (ap (λ (k : ℕ). drop k coords) none ∙ h.coordinates ∙ sets-eq (coordinates o.points) cs 0 (omega (arith, s.counted, coordinates_length axes o.points s.each, fits_all axes o.figure (length coords) (length payloads') few, ap (λ (n : ℕ). axes * n) s.counted, ap length h.coordinates, length-sets cs 0 (coordinates o.points))))
      (h.payloads ∙ sets-eq (payloads o.points) ms 0 (omega (arith, s.counted, payloads_length o.points, ap length h.payloads, length-sets ms 0 (payloads o.points))))
    where
      none : 8 * (axes * 0) ≡ 0
      none = omega arith

  found_refused : reply ≢ 0 → found o ≡ decimal reply ++ crlf
  unfolding found
  found_refused e =
      ap (λ (n : ℕ). decimal n ++ cond (eqb n 0) (field (decimal o.figure) ++ points o.points) [] ++ crlf) (sym h.reply)
      ∙ refused_is reply (field (decimal o.figure) ++ points o.points) e

  found_done : reply ≡ 0 → o.figure ≤ room_for axes coords payloads' → found o ≡ decimal 0 ++ (field (decimal count) ++ points_from axes count coords payloads' 0) ++ crlf
  unfolding found
  found_done e few =
      ap (λ (n : ℕ). decimal n ++ cond (eqb n 0) (field (decimal o.figure) ++ points o.points) [] ++ crlf) (sym h.reply ∙ e)
      ∙ ap₂ (λ (n : ℕ) (l : List ℕ). decimal 0 ++ (field (decimal n) ++ l) ++ crlf) (sym h.figure) (sym (handed few))

-- ---- what was put down is the line of the search, where it was lent enough and there is room
pub told_is : (axes reply count : ℕ) (coords payloads' out out' : List ℕ) (at r : ℕ) → PutsTold axes coords payloads' reply count out at out' r
    → (o : Outcome) (cs ms : List ℕ) → Hands o cs ms coords payloads' reply count → Shaped axes o → o.figure ≤ room_for axes coords payloads' → at + (14 + (17 * axes + 11) * o.figure) ≤ length out → Wrote out at (found o) out' r
told_is axes reply count coords payloads' out out' at r p o cs ms h s few room =
    by-eq reply 0
    (λ e. subst (λ (l : List ℕ). Wrote out at l out' r) (sym (found_done axes reply count coords payloads' o cs ms h s e few)) ((p.done e (omega (arith, h.figure, few))).wrote (omega (arith, ap (λ (n : ℕ). (17 * axes + 11) * n) h.figure, room))))
    (λ e. subst (λ (l : List ℕ). Wrote out at l out' r) (sym (found_refused axes reply count coords payloads' o cs ms h s e)) ((p.refused e).wrote (omega (arith, room))))

-- ---- the ways of the code
pub refused_not : (e : Refusal) → number (reply_of e) ≢ 0
unfolding number
refused_not Outside q = absurd (omega (arith, q))
refused_not Absent q = absurd (omega (arith, q))
refused_not NoCapacity q = absurd (omega (arith, q))
refused_not BadBoundary q = absurd (omega (arith, q))
refused_not Full q = absurd (omega (arith, q))
refused_not NoNodes q = absurd (omega (arith, q))
refused_not NoRoom q = absurd (omega (arith, q))
refused_not Unsound q = absurd (omega (arith, q))
refused_not NotUnderstood q = absurd (omega (arith, q))
refused_not NoTree q = absurd (omega (arith, q))

module _ (axes reply count : ℕ) (coords payloads' : List ℕ) (out out' : List ℕ) (at r : ℕ) where
  pub told_refused : reply ≢ 0 → Puts 12 out at (decimal reply ++ crlf) out' r → PutsTold axes coords payloads' reply count out at out' r
  told_refused e w = record { refused = λ d. w; done = λ d. absurd (e d); unlent = λ d. absurd (e d) }

  pub told_done : reply ≡ 0 → count ≤ room_for axes coords payloads' → Puts (14 + (17 * axes + 11) * count) out at (decimal 0 ++ (field (decimal count) ++ points_from axes count coords payloads' 0) ++ crlf) out' r → PutsTold axes coords payloads' reply count out at out' r
  told_done e l w = record { refused = λ d. absurd (d e); done = λ d k. w; unlent = λ d k. absurd (omega arith) }

  -- more points than were lent
  pub told_unlent : reply ≡ 0 → room_for axes coords payloads' < count → Wrote out at [] out' r → PutsTold axes coords payloads' reply count out at out' r
  told_unlent e l w = record { refused = λ d. absurd (d e); done = λ d k. absurd (omega arith); unlent = λ d k. w }
