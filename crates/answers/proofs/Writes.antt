-- Laws of numbers written as bytes, and of an answer that is written point by point, over any number of axes. Assumes nothing.
use mathlib.Core.Path.{◌≡◌, refl, ap, ap₂, sym, ◌∙◌, subst}
use mathlib.Core.List.{List, [], ◌∷◌, ◌++◌, map, flatten, append-nil}
use Prim.Native.Nat.{ℕ, zero, suc, ◌+◌, ◌-◌, ◌*◌, ◌/◌, ◌%◌, ◌<◌, ◌≤◌, min}
use native.Mathlib.Nat.{div-mul-le_self, div-zero, mul_comm, mul-le-mul_left, mul_left_comm, mul-suc}
use native.Mathlib.Numerals.{add-one, unary_clauses}
use native.Mathlib.Omega.{arith}
use lib.ListN.{length, get_or, take, drop, length-map, drop_of_length-le}
use lib.Seq.{sets, drop-cons, length-take-le, take_all}
use lib.Ieee.{Float, binary64, of_bits, to_bits}
use borrow.Author.Tests.{le-leb, lt-leb}
use mathlib.Core.Bool.{Bool, true, false}
use Rattle.std.specs.Int.{w32, w64, to_le_bytes}
use Rattle.model.specs.Calls.{Outcome, done, no_room, tree, refuse, search_call, number}
use Rattle.model.specs.Trees.{Point}
use Rattle.words.specs.Words.{pairs}
use Rattle.pool.proofs.Lists.{by_lt}
use Rattle.trees.specs.Pieces.{bytes, coordinates, payloads, room_for, Hands}
use Rattle.trees.specs.Points.{floats, point_at}
use Rattle.trees.proofs.Held.{floats_length}
use Rattle.trees.proofs.Queries.{none_marked, none_written}
use Rattle.trees.proofs.Walks.{sets_append}
use Rattle.trees.specs.Handed.{Handed}

-- ---- numbers
-- the bytes that the code writes, low byte first
pub bytes4_is : (v : ℕ) → to_le_bytes w32 v ≡ bytes 4 v
unfolding bytes
bytes4_is v =
    let e : v / 65536 % 256 ≡ v / 256 / 256 % 256 = omega arith in
    let f : v / 16777216 % 256 ≡ v / 256 / 256 / 256 % 256 = omega arith in
    rw (e, f)

pub bytes8_is : (v : ℕ) → to_le_bytes w64 v ≡ bytes 8 v
unfolding bytes
bytes8_is v =
    let e : v / 65536 ≡ v / 256 / 256 = omega arith in
    let f : v / 16777216 ≡ v / 65536 / 256 = omega arith in
    let g : v / 4294967296 ≡ v / 16777216 / 256 = omega arith in
    let h : v / 1099511627776 ≡ v / 4294967296 / 256 = omega arith in
    let i : v / 281474976710656 ≡ v / 1099511627776 / 256 = omega arith in
    let j : v / 72057594037927936 ≡ v / 281474976710656 / 256 = omega arith in
    rw (j, i, h, g, f, e)

-- ---- what is left to write leads to all that is to be written
pub record Writing (whole start : List ℕ) (k : ℕ) (rest now : List ℕ) (j : ℕ) : Type 0 where
  pub same : length now ≡ length start
  pub left : sets now j rest ≡ sets start k whole

module _ (whole start : List ℕ) (k : ℕ) where
  writing_start : Writing whole start k whole start k
  writing_start = record { same = refl; left = refl }

  writing_step : (l rest now now' : List ℕ) (j j' : ℕ) → Writing whole start k (l ++ rest) now j → length now' ≡ length now → now' ≡ sets now j l → j' ≡ j + length l → Writing whole start k rest now' j'
  writing_step l rest now now' j j' w e en ej = record { same = e ∙ w.same; left = ap₂ (λ (s : List ℕ) (i : ℕ). sets s i rest) en ej ∙ sym (sets_append l rest now j) ∙ w.left }

  writing_end : (now : List ℕ) (j : ℕ) → Writing whole start k [] now j → now ≡ sets start k whole
  writing_end now j w = w.left

-- ---- the floats of a point
unfoldable pub float_bytes : List Float → List ℕ
unfolding flatten bytes
float_bytes vs = flatten (map (λ x. bytes 8 (to_bits binary64 x)) vs)

pub float_bytes_length : (vs : List Float) → length (float_bytes vs) ≡ 8 * length vs
unfolding float_bytes flatten bytes
float_bytes_length [] = refl
float_bytes_length (v ∷ vs) = omega (arith, float_bytes_length vs)

floats_next : (left : ℕ) (ns : List ℕ) (j : ℕ) → 0 < left → floats left ns j ≡ of_bits binary64 (get_or ns j 0) ∷ floats (left - 1) ns (j + 1)
floats_next zero ns j h = absurd (omega arith)
floats_next (suc left) ns j h = ap (λ (m : ℕ). of_bits binary64 (get_or ns j 0) ∷ floats m ns (j + 1)) {x = left} {y = suc left - 1} (omega arith)

float_bytes_next : (v : Float) (vs : List Float) → float_bytes (v ∷ vs) ≡ bytes 8 (to_bits binary64 v) ++ float_bytes vs
unfolding float_bytes flatten bytes
float_bytes_next v vs = refl

float_bytes_none : float_bytes [] ≡ []
unfolding float_bytes flatten
float_bytes_none = refl

bytes_eight : (v : ℕ) → length (bytes 8 v) ≡ 8
unfolding bytes
bytes_eight v = refl

-- one point's coordinates
one_place : (p : Point) → coordinates (p ∷ []) ≡ float_bytes p.at
unfolding coordinates float_bytes flatten bytes
one_place p = append-nil (flatten (map (λ x. bytes 8 (to_bits binary64 x)) p.at))

-- the loop over the axes: from float `from` on to float `to` on, a of them written
module _ (axes : ℕ) (w : List ℕ) (p : ℕ) (from to : ℕ) (start : List ℕ) where
  pub record Placing (now : List ℕ) (a : ℕ) : Type 0 where
    pub few : a ≤ axes
    pub writing : Writing (float_bytes (floats axes (pairs w) from)) start (8 * to) (float_bytes (floats (axes - a) (pairs w) (from + a))) now (8 * (to + a))

  pub placing_start : Placing start 0
  placing_start = record {
    few = omega arith;
    writing = simp unary_clauses (writing_start (float_bytes (floats axes (pairs w) from)) start (8 * to));
  }

  pub placing_step : (now now' : List ℕ) (a : ℕ) (x : Float) → Placing now a → a < axes → x ≡ of_bits binary64 (get_or (pairs w) (from + a) 0) → length now' ≡ length now → now' ≡ sets now (8 * (to + a)) (bytes 8 (to_bits binary64 x))
      → Placing now' (a + 1)
  placing_step now now' a x q h ex e en = record {
    few = omega arith;
    writing = writing_step (float_bytes (floats axes (pairs w) from)) start (8 * to) (bytes 8 (to_bits binary64 x)) (float_bytes (floats (axes - (a + 1)) (pairs w) (from + (a + 1)))) now now' (8 * (to + a)) (8 * (to + (a + 1)))
        (subst (λ (l : List ℕ). Writing (float_bytes (floats axes (pairs w) from)) start (8 * to) l now (8 * (to + a))) more q.writing) e en (omega (arith, bytes_eight (to_bits binary64 x)));
  }
    where
      sooner : axes - a - 1 ≡ axes - (a + 1)
      sooner = omega arith

      further : from + a + 1 ≡ from + (a + 1)
      further = omega arith

      more : float_bytes (floats (axes - a) (pairs w) (from + a)) ≡ bytes 8 (to_bits binary64 x) ++ float_bytes (floats (axes - (a + 1)) (pairs w) (from + (a + 1)))
      more =
          ap float_bytes (floats_next (axes - a) (pairs w) (from + a) (omega arith)) ∙ float_bytes_next _ _
          ∙ ap₂ (λ (v : Float) (vs : List Float). bytes 8 (to_bits binary64 v) ++ float_bytes vs) (sym ex) (ap₂ (λ (m j : ℕ). floats m (pairs w) j) sooner further)

  pub placing_end : (now : List ℕ) (a j : ℕ) → Placing now a → axes ≤ a → from ≡ (axes + 1) * p → to ≡ axes * j → now ≡ sets start (8 * (axes * j)) (coordinates (point_at axes w p ∷ []))
  placing_end now a j q h ef et =
      writing_end (float_bytes (floats axes (pairs w) from)) start (8 * to) now (8 * (to + a)) (subst (λ (l : List ℕ). Writing (float_bytes (floats axes (pairs w) from)) start (8 * to) l now (8 * (to + a))) done q.writing)
      ∙ ap₂ (λ (k f : ℕ). sets start (8 * k) (float_bytes (floats axes (pairs w) f))) et ef ∙ ap (sets start (8 * (axes * j))) (sym (one_place (point_at axes w p)))
    where
      all : axes - a ≡ 0
      all = omega arith

      done : float_bytes (floats (axes - a) (pairs w) (from + a)) ≡ []
      done = ap (λ (m : ℕ). float_bytes (floats m (pairs w) (from + a))) all ∙ float_bytes_none

-- ---- the points of an answer
places_next : (p : Point) (ps : List Point) → coordinates (p ∷ ps) ≡ float_bytes p.at ++ coordinates ps
unfolding coordinates float_bytes flatten bytes
places_next p ps = refl

marks_next : (p : Point) (ps : List Point) → payloads (p ∷ ps) ≡ bytes 4 p.payload ++ payloads ps
unfolding payloads flatten bytes
marks_next p ps = refl

bytes_four : (v : ℕ) → length (bytes 4 v) ≡ 4
unfolding bytes
bytes_four v = refl

-- ---- the room
pub room_none : (axes L M : ℕ) → axes ≡ 0 → 0 ≡ min (L / (8 * axes)) (M / 4)
room_none axes L M e = omega (arith, ap (λ (a : ℕ). L / (8 * a)) e, div-zero L)

-- room for n points is room for each of them
pub fits_place : (axes n j L M : ℕ) → n ≤ min (L / (8 * axes)) (M / 4) → j < n → axes * j + axes ≤ L / 8
fits_place axes n j L M h l =
    omega (arith, div-mul-le_self L (8 * axes), mul-le-mul_left {m = suc j} {n = L / (8 * axes)} axes (omega arith), mul-suc axes j, turned (L / (8 * axes)) axes)
  where
    turned : (q a : ℕ) → q * (8 * a) ≡ 8 * (a * q)
    turned q a = mul_left_comm q 8 a ∙ ap (λ (m : ℕ). 8 * m) (mul_comm q a)

pub fits_mark : (axes n j L M : ℕ) → n ≤ min (L / (8 * axes)) (M / 4) → j < n → 4 * j + 4 ≤ M
fits_mark axes n j L M h l = omega arith

-- the loop over the points: j of them written
module _ (axes : ℕ) (w found cs ms : List ℕ) where
  abbrev rest : ℕ → List Point
  rest j = map (point_at axes w) (drop j found)

  abbrev points : List Point
  points = map (point_at axes w) found

  pub record Answering (cs' ms' : List ℕ) (j : ℕ) : Type 0 where
    pub few : j ≤ length found
    pub places : Writing (coordinates points) cs 0 (coordinates (rest j)) cs' (8 * (axes * j))
    pub marks : Writing (payloads points) ms 0 (payloads (rest j)) ms' (4 * j)

  pub answering_start : Answering cs ms 0
  answering_start = record {
    few = omega arith;
    places = subst (λ (k : ℕ). Writing (coordinates points) cs 0 (coordinates points) cs k) {x = 0} {y = 8 * (axes * 0)} (omega arith) (writing_start (coordinates points) cs 0);
    marks = writing_start (payloads points) ms 0;
  }

  one_more : (j p : ℕ) → j < length found → p ≡ get_or found j 0 → rest j ≡ point_at axes w p ∷ rest (j + 1)
  one_more j p h e =
      ap (map (point_at axes w)) (drop-cons found j 0 h)
      ∙ ap₂ (λ (q i : ℕ). point_at axes w q ∷ rest i) (sym e) (sym (add-one j))

  no_more : (j : ℕ) → length found ≤ j → rest j ≡ []
  no_more j h = ap (map (point_at axes w)) (drop_of_length-le found {i = j} h)

  pub answering_step : (cs1 ms1 cs2 ms2 : List ℕ) (j p m : ℕ) → Answering cs1 ms1 j → j < length found → p ≡ get_or found j 0 → m ≡ (point_at axes w p).payload → length cs2 ≡ length cs1 → cs2 ≡ sets cs1 (8 * (axes * j)) (coordinates (point_at axes w p ∷ []))
      → length ms2 ≡ length ms1 → ms2 ≡ sets ms1 (4 * j) (bytes 4 m) → Answering cs2 ms2 (j + 1)
  answering_step cs1 ms1 cs2 ms2 j p m q h ep em lc ec lm es = record {
    few = omega arith;
    places = writing_step (coordinates points) cs 0 (float_bytes (point_at axes w p).at) (coordinates (rest (j + 1))) cs1 cs2 (8 * (axes * j)) (8 * (axes * (j + 1)))
        (subst (λ (l : List ℕ). Writing (coordinates points) cs 0 l cs1 (8 * (axes * j))) (ap coordinates (one_more j p h ep) ∙ places_next (point_at axes w p) (rest (j + 1))) q.places)
        lc (ec ∙ ap (sets cs1 (8 * (axes * j))) (one_place (point_at axes w p)))
        (omega (arith, ap (λ (i : ℕ). axes * i) (add-one j), mul-suc axes j, float_bytes_length (point_at axes w p).at, floats_length axes (pairs w) ((axes + 1) * p)));
    marks = writing_step (payloads points) ms 0 (bytes 4 (point_at axes w p).payload) (payloads (rest (j + 1))) ms1 ms2 (4 * j) (4 * (j + 1))
        (subst (λ (l : List ℕ). Writing (payloads points) ms 0 l ms1 (4 * j)) (ap payloads (one_more j p h ep) ∙ marks_next (point_at axes w p) (rest (j + 1))) q.marks)
        lm (es ∙ ap (λ (v : ℕ). sets ms1 (4 * j) (bytes 4 v)) em) (omega (arith, bytes_four (point_at axes w p).payload));
  }

  pub answering_places : (cs' ms' : List ℕ) (j : ℕ) → Answering cs' ms' j → length found ≤ j → cs' ≡ sets cs 0 (coordinates points)
  answering_places cs' ms' j q h = writing_end (coordinates points) cs 0 cs' (8 * (axes * j)) (subst (λ (l : List ℕ). Writing (coordinates points) cs 0 l cs' (8 * (axes * j))) (ap coordinates (no_more j h) ∙ none_written) q.places)

  pub answering_marks : (cs' ms' : List ℕ) (j : ℕ) → Answering cs' ms' j → length found ≤ j → ms' ≡ sets ms 0 (payloads points)
  answering_marks cs' ms' j q h = writing_end (payloads points) ms 0 ms' (4 * j) (subst (λ (l : List ℕ). Writing (payloads points) ms 0 l ms' (4 * j)) (ap payloads (no_more j h) ∙ none_marked) q.marks)

-- ---- the whole answer
module _ (axes : ℕ) (w found : List ℕ) (n k m most : ℕ) (cs ms : List ℕ) (ek : k ≡ min n 512) (em : m ≡ min k (length found)) (er : most ≡ room_for axes cs ms) where
  first_ones : take m found ≡ take (min n 512) found
  first_ones = by_lt (length found) k
      (λ h. take_all m found (omega arith) ∙ sym (take_all (min n 512) found (omega arith)))
      (λ h. ap (λ (i : ℕ). take i found) {x = m} {y = min n 512} (omega arith))

  many : length (map (point_at axes w) (take (min n 512) found)) ≡ m
  many = length-map (take (min n 512) found) (point_at axes w) ∙ ap length (sym first_ones) ∙ length-take-le m found (omega arith)

  pub answer_refused : most < m → Handed (room_for axes cs ms) (map (point_at axes w) (take (min n 512) found)) cs ms cs ms 7 0
  unfolding Handed search_call number coordinates payloads flatten
  answer_refused h a =
      subst (λ (t : Bool). Hands (elim t as (λ u. Outcome) [ true ↦ record { reply = done; state = tree a; figure = length (map (point_at axes w) (take (min n 512) found)); points = map (point_at axes w) (take (min n 512) found) } | false ↦ refuse no_room (tree a) ]) cs ms cs ms 7 0)
      (sym (lt-leb (length (map (point_at axes w) (take (min n 512) found))) (room_for axes cs ms) (omega (arith, many))))
      (record { reply = refl; figure = refl; coordinates = refl; payloads = refl })

  pub answer_given : (cs' ms' : List ℕ) → m ≤ most → cs' ≡ sets cs 0 (coordinates (map (point_at axes w) (take m found))) → ms' ≡ sets ms 0 (payloads (map (point_at axes w) (take m found)))
      → Handed (room_for axes cs ms) (map (point_at axes w) (take (min n 512) found)) cs ms cs' ms' 0 m
  unfolding Handed search_call number
  answer_given cs' ms' h ec es a =
      subst (λ (t : Bool). Hands (elim t as (λ u. Outcome) [ true ↦ record { reply = done; state = tree a; figure = length (map (point_at axes w) (take (min n 512) found)); points = map (point_at axes w) (take (min n 512) found) } | false ↦ refuse no_room (tree a) ]) cs ms cs' ms' 0 m)
      (sym (le-leb (length (map (point_at axes w) (take (min n 512) found))) (room_for axes cs ms) (omega (arith, many))))
      (record {
        reply = refl;
        figure = sym many;
        coordinates = ec ∙ ap (λ (l : List ℕ). sets cs 0 (coordinates (map (point_at axes w) l))) first_ones;
        payloads = es ∙ ap (λ (l : List ℕ). sets ms 0 (payloads (map (point_at axes w) l))) first_ones;
      })
