-- Laws of points that are printed from the bytes of an answer, over any number of axes. Assumes nothing.
use mathlib.Core.Path.{◌≡◌, refl, ap, ap₂, ◌∙◌, subst}
use mathlib.Core.List.{List, [], ◌++◌}
use Prim.Native.Nat.{ℕ, zero, suc, ◌+◌, ◌-◌, ◌*◌, ◌≤◌, ◌<◌}
use native.Mathlib.Nat.{mul-suc, mul-le-mul_left}
use native.Mathlib.Numerals.{add-one, unary_clauses}
use native.Mathlib.Omega.{arith}
use lib.ListN.{length, get_or}
use Rattle.record.specs.Numbers.{decimal}
use Rattle.words.specs.Words.{words}
use Rattle.replies.specs.Lines.{field}
use Rattle.replies.specs.Printed.{hex_at, hexes, point_at, points_from}
use Rattle.replies.specs.Programs.{Wrote}
use Rattle.replies.proofs.Written.{then, Printing, printing_start, printing_step, printing_end}

-- ---- the loop over the axes: a of them printed
hexes_next : (m : ℕ) (cs : List ℕ) (i : ℕ) → 0 < m → hexes m cs i ≡ field (hex_at cs i) ++ hexes (m - 1) cs (i + 1)
unfolding hexes
hexes_next zero cs i h = absurd (omega arith)
hexes_next (suc m) cs i h = ap (λ (k : ℕ). field (hex_at cs i) ++ hexes k cs (i + 1)) {x = m} {y = suc m - 1} (omega arith)

hexes_none : (cs : List ℕ) (i : ℕ) → hexes 0 cs i ≡ []
unfolding hexes
hexes_none cs i = refl

module _ (axes : ℕ) (cs : List ℕ) (from : ℕ) (o₀ : List ℕ) (at : ℕ) where
  pub record Placing (o : List ℕ) (w a : ℕ) : Type 0 where
    pub few : a ≤ axes
    pub so_far : w ≡ at + 17 * a
    pub printing : Printing (hexes axes cs from) o₀ at (hexes (axes - a) cs (from + a)) o w

  pub placing_start : Placing o₀ at 0
  placing_start = record { few = omega arith; so_far = omega arith; printing = simp unary_clauses (printing_start (hexes axes cs from) o₀ at) }

  pub placing_step : (o o' : List ℕ) (w w' a : ℕ) → Placing o w a → a < axes → length o' ≡ length o → Wrote o w (field (hex_at cs (from + a))) o' w' → w' ≡ w + 17 → Placing o' w' (a + 1)
  placing_step o o' w w' a q h l f e = record {
    few = omega arith;
    so_far = omega (arith, q.so_far);
    printing = printing_step (hexes axes cs from) o₀ (hexes (axes - a) cs (from + a)) (field (hex_at cs (from + a))) (hexes (axes - (a + 1)) cs (from + (a + 1))) o o' at w w' q.printing
        (hexes_next (axes - a) cs (from + a) (omega arith) ∙ ap₂ (λ (m i : ℕ). field (hex_at cs (from + a)) ++ hexes m cs i) sooner further) l f;
  }
    where
      sooner : axes - a - 1 ≡ axes - (a + 1)
      sooner = omega arith

      further : from + a + 1 ≡ from + (a + 1)
      further = omega arith

  -- the payload comes after them
  pub placing_end : (o o' ms : List ℕ) (w a r j m : ℕ) → Placing o w a → axes ≤ a → from ≡ axes * j → m ≡ get_or (words ms) j 0 → Wrote o w (field (decimal m)) o' r → Wrote o₀ at (point_at axes cs ms j) o' r
  placing_end o o' ms w a r j m q h ef em f =
      then o₀ o o' (hexes axes cs (axes * j)) (field (decimal (get_or (words ms) j 0))) at w r
      (subst (λ (i : ℕ). Wrote o₀ at (hexes axes cs i) o w) ef (printing_end (hexes axes cs from) o₀ (hexes (axes - a) cs (from + a)) o at w q.printing (ap (λ (k : ℕ). hexes k cs (from + a)) all ∙ hexes_none cs (from + a))))
      (subst (λ (v : ℕ). Wrote o w (field (decimal v)) o' r) em f)
    where
      all : axes - a ≡ 0
      all = omega arith

-- ---- the loop over the points: j of them printed
points_next : (axes n : ℕ) (cs ms : List ℕ) (j : ℕ) → 0 < n → points_from axes n cs ms j ≡ point_at axes cs ms j ++ points_from axes (n - 1) cs ms (j + 1)
unfolding points_from
points_next axes zero cs ms j h = absurd (omega arith)
points_next axes (suc n) cs ms j h = ap (λ (k : ℕ). point_at axes cs ms j ++ points_from axes k cs ms (j + 1)) {x = n} {y = suc n - 1} (omega arith)

points_none : (axes : ℕ) (cs ms : List ℕ) (j : ℕ) → points_from axes 0 cs ms j ≡ []
unfolding points_from
points_none axes cs ms j = refl

-- room for n points is room for each of them
pub room_for : (size n j at w L : ℕ) → at + size * n ≤ L → j < n → w ≤ at + size * j → w + size ≤ L
room_for size n j at w L h l e = omega (arith, mul-le-mul_left {m = suc j} {n = n} size l, mul-suc size j)

module _ (axes n : ℕ) (cs ms o₀ : List ℕ) (at : ℕ) where
  pub record Pointing (o : List ℕ) (w j : ℕ) : Type 0 where
    pub few : j ≤ n
    pub so_far : w ≤ at + (17 * axes + 11) * j
    pub printing : Printing (points_from axes n cs ms 0) o₀ at (points_from axes (n - j) cs ms j) o w

  pub pointing_start : Pointing o₀ at 0
  pointing_start = record { few = omega arith; so_far = omega arith; printing = simp unary_clauses (printing_start (points_from axes n cs ms 0) o₀ at) }

  pub pointing_step : (o o' : List ℕ) (w w' j : ℕ) → Pointing o w j → j < n → length o' ≡ length o → Wrote o w (point_at axes cs ms j) o' w' → w' ≤ w + (17 * axes + 11) → Pointing o' w' (j + 1)
  pointing_step o o' w w' j q h l f e = record {
    few = omega arith;
    so_far = omega (arith, q.so_far, ap (λ (i : ℕ). (17 * axes + 11) * i) (add-one j), mul-suc (17 * axes + 11) j);
    printing = printing_step (points_from axes n cs ms 0) o₀ (points_from axes (n - j) cs ms j) (point_at axes cs ms j) (points_from axes (n - (j + 1)) cs ms (j + 1)) o o' at w w' q.printing
        (points_next axes (n - j) cs ms j (omega arith) ∙ ap (λ (m : ℕ). point_at axes cs ms j ++ points_from axes m cs ms (j + 1)) sooner) l f;
  }
    where
      sooner : n - j - 1 ≡ n - (j + 1)
      sooner = omega arith

  pub pointing_end : (o : List ℕ) (w j : ℕ) → Pointing o w j → n ≤ j → Wrote o₀ at (points_from axes n cs ms 0) o w
  pointing_end o w j q h = printing_end (points_from axes n cs ms 0) o₀ (points_from axes (n - j) cs ms j) o at w q.printing (ap (λ (k : ℕ). points_from axes k cs ms j) all ∙ points_none axes cs ms j)
    where
      all : n - j ≡ 0
      all = omega arith

  pub pointing_within : (o : List ℕ) (w j : ℕ) → Pointing o w j → w ≤ at + (17 * axes + 11) * n
  pointing_within o w j q = omega (arith, q.so_far, mul-le-mul_left {m = j} {n = n} (17 * axes + 11) q.few)
