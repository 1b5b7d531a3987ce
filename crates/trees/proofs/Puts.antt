-- A point that is written to a place, the points of the other places, and a head that is written. Over any number of axes. Assumes nothing.
use mathlib.Core.Path.{◌≡◌, refl, ap, ap₂, sym, ◌∙◌}
use mathlib.Core.Logic.{◌≢◌}
use mathlib.Core.List.{List, [], ◌∷◌, zip_with}
use Prim.Native.Nat.{ℕ, zero, suc, ◌+◌, ◌*◌, ◌/◌, ◌<◌, ◌≤◌}
use native.Mathlib.Omega.{arith}
use lib.Ieee.{Float, binary64, to_bits}
use lib.ListN.{length, get_or, set}
use lib.Seq.{get_or-set_same, get_or-set_other}
use Rattle.model.specs.Boxes.{Side}
use Rattle.model.specs.Soundness.{All}
use Rattle.model.specs.Trees.{Point}
use Rattle.model.proofs.Inside.{F64}
use Rattle.model.proofs.Sound.{F64Point}
use Rattle.words.specs.Words.{pairs, set_pair}
use Rattle.words.proofs.Pairs.{float_apart, float_back, float_other, length_set_pair, set_pair_other}
use Rattle.pool.proofs.Trees.{kid_inj}
use Rattle.trees.specs.Pieces.{boundary_of, capacity_of}
use Rattle.trees.specs.Points.{floats, point_at}

-- floats one after another, from number j on
unfoldable pub put_floats : List Float → List ℕ → ℕ → List ℕ
put_floats [] w j = w
put_floats (v ∷ vs) w j = put_floats vs (set_pair w j (to_bits binary64 v)) (j + 1)

-- the point in place p
unfoldable pub put_point : (axes : ℕ) → List ℕ → ℕ → Point → List ℕ
unfolding put_floats
put_point axes w p q = set (put_floats q.at w ((axes + 1) * p)) (2 * ((axes + 1) * p) + 2 * axes) q.payload

-- the head: the corners, the extents and the capacity
unfoldable pub put_head : (axes : ℕ) → List ℕ → (corners extents : List Float) → ℕ → List ℕ
unfolding put_floats
put_head axes w cs es cap = set (put_floats es (put_floats cs w 0) axes) (4 * axes) cap

-- ---- as the code has it, one float after another and then the payload
pub put_end : (w : List ℕ) (j : ℕ) → w ≡ put_floats [] w j
unfolding put_floats
put_end w j = refl

pub put_next : (v : Float) (vs : List Float) (w w1 r : List ℕ) (j : ℕ) → w1 ≡ set_pair w j (to_bits binary64 v) → r ≡ put_floats vs w1 (j + 1) → r ≡ put_floats (v ∷ vs) w j
unfolding put_floats
put_next v vs w w1 r j e h = h ∙ ap (λ (u : List ℕ). put_floats vs u (j + 1)) e

pub put_last : (axes : ℕ) (w w1 r : List ℕ) (p : ℕ) (q : Point) → w1 ≡ put_floats q.at w ((axes + 1) * p) → r ≡ set w1 (2 * ((axes + 1) * p) + 2 * axes) q.payload → r ≡ put_point axes w p q
unfolding put_point
put_last axes w w1 r p q e h = h ∙ ap (λ (u : List ℕ). set u (2 * ((axes + 1) * p) + 2 * axes) q.payload) e

pub put_head_lem : (axes : ℕ) (w w1 w2 r : List ℕ) (cs es : List Float) (cap : ℕ) → w1 ≡ put_floats cs w 0 → w2 ≡ put_floats es w1 axes → r ≡ set w2 (4 * axes) cap → r ≡ put_head axes w cs es cap
unfolding put_head
put_head_lem axes w w1 w2 r cs es cap e1 e2 e = e ∙ ap (λ (u : List ℕ). set u (4 * axes) cap) (e2 ∙ ap (λ (u : List ℕ). put_floats es u axes) e1)

-- ---- floats
put_length : (vs : List Float) (w : List ℕ) (j : ℕ) → length (put_floats vs w j) ≡ length w
unfolding put_floats
put_length [] w j = refl
put_length (v ∷ vs) w j = put_length vs (set_pair w j (to_bits binary64 v)) (j + 1) ∙ length_set_pair w j (to_bits binary64 v)

pair_floats : (a i : ℕ) (w : List ℕ) (j : ℕ) (v : Float) → ((c : ℕ) → c < a → i + c ≢ j) → floats a (pairs (set_pair w j (to_bits binary64 v))) i ≡ floats a (pairs w) i
pair_floats zero i w j v h = refl
pair_floats (suc a) i w j v h =
    ap₂ {C = List Float} (λ u us. u ∷ us) (float_other w j i v (λ e. h 0 (omega arith) (omega (arith, e)))) (pair_floats a (i + 1) w j v (λ c lt e. h (suc c) (omega (arith, lt)) (omega (arith, e))))

put_floats_lem : (a i : ℕ) (vs : List Float) (w : List ℕ) (j : ℕ) → ((c e : ℕ) → c < a → e < length vs → i + c ≢ j + e) → floats a (pairs (put_floats vs w j)) i ≡ floats a (pairs w) i
unfolding put_floats
put_floats_lem a i [] w j h = refl
put_floats_lem a i (v ∷ vs) w j h =
    put_floats_lem a i vs (set_pair w j (to_bits binary64 v)) (j + 1) (λ c e lc le k. h c (suc e) lc (omega (arith, le)) (omega (arith, k)))
    ∙ pair_floats a i w j v (λ c lc k. h c 0 lc (omega arith) (omega (arith, k)))

put_back : (vs : List Float) (w : List ℕ) (j : ℕ) → All F64 vs → j + length vs ≤ length w / 2 → floats (length vs) (pairs (put_floats vs w j)) j ≡ vs
unfolding put_floats
put_back [] w j f h = refl
put_back (v ∷ vs) w j f h =
    ap₂ {C = List Float} (λ u us. u ∷ us)
    (ap first (put_floats_lem 1 j vs (set_pair w j (to_bits binary64 v)) (j + 1) (λ c e lc le k. absurd (omega (arith, lc, k)))) ∙ float_back w j v f.0 (omega (arith, h)))
    (put_back vs (set_pair w j (to_bits binary64 v)) (j + 1) f.1 (omega (arith, h, length_set_pair w j (to_bits binary64 v))))
  where
    first : List Float → Float
    first [] = v
    first (u ∷ us) = u

put_word : (vs : List Float) (w : List ℕ) (j m : ℕ) → ((e : ℕ) → e < length vs → m / 2 ≢ j + e) → get_or (put_floats vs w j) m 0 ≡ get_or w m 0
unfolding put_floats
put_word [] w j m h = refl
put_word (v ∷ vs) w j m h =
    put_word vs (set_pair w j (to_bits binary64 v)) (j + 1) m (λ e le k. h (suc e) (omega (arith, le)) (omega (arith, k)))
    ∙ set_pair_other w j (to_bits binary64 v) m (λ k. h 0 (omega arith) (omega (arith, k)))

word_floats : (a i : ℕ) (w : List ℕ) (m v : ℕ) → ((c : ℕ) → c < a → m / 2 ≢ i + c) → floats a (pairs (set w m v)) i ≡ floats a (pairs w) i
word_floats zero i w m v h = refl
word_floats (suc a) i w m v h =
    ap₂ {C = List Float} (λ u us. u ∷ us) (float_apart w i m v (λ e. h 0 (omega arith) (omega (arith, e)))) (word_floats a (i + 1) w m v (λ c lt e. h (suc c) (omega (arith, lt)) (omega (arith, e))))

-- ---- points
abbrev point : List Float → ℕ → Point
point vs m = record { at = vs; payload = m }

half : (a b : ℕ) → (2 * a + 2 * b) / 2 ≡ a + b
half a b = omega arith

module _ (axes : ℕ) (w : List ℕ) (p : ℕ) (q : Point) (e : length q.at ≡ axes) where
  abbrev first : ℕ
  first = (axes + 1) * p

  -- what was written is read back
  pub point_back : F64Point q → (axes + 1) * p + axes < length w / 2 → point_at axes (put_point axes w p q) p ≡ q
  unfolding put_point
  point_back f h =
      ap₂ point
      (word_floats axes first (put_floats q.at w first) (2 * first + 2 * axes) q.payload (λ c lc k. absurd (omega (arith, half first axes, k, lc)))
      ∙ ap (λ (a : ℕ). floats a (pairs (put_floats q.at w first)) first) (sym e) ∙ put_back q.at w first f (omega (arith, h, e)))
      (get_or-set_same (put_floats q.at w first) (2 * first + 2 * axes) q.payload 0 (omega (arith, h, put_length q.at w first)))

  -- and every other place has its point
  pub point_other : (r : ℕ) → r ≢ p → point_at axes (put_point axes w p q) r ≡ point_at axes w r
  unfolding put_point
  point_other r ne =
      ap₂ point
      (word_floats axes other (put_floats q.at w first) (2 * first + 2 * axes) q.payload (λ c lc k. far axes c (omega arith) (omega (arith, lc)) (sym (half first axes) ∙ k))
      ∙ put_floats_lem axes other q.at w first (λ c u lc lu k. far u c (omega (arith, lu, e)) (omega (arith, lc)) (sym k)))
      (get_or-set_other (put_floats q.at w first) (2 * first + 2 * axes) (2 * other + 2 * axes) q.payload 0 (λ k. far axes axes (omega arith) (omega arith) (omega (arith, k)))
      ∙ put_word q.at w first (2 * other + 2 * axes) (λ u lu k. far u axes (omega (arith, lu, e)) (omega arith) (sym k ∙ half other axes)))
    where
      other : ℕ
      other = (axes + 1) * r

      far : (u c : ℕ) → u < axes + 1 → c < axes + 1 → (axes + 1) * p + u ≢ (axes + 1) * r + c
      far u c lu lc k = ne (sym (kid_inj (axes + 1) p r u c lu lc k))

-- ---- heads
module _ (axes : ℕ) (w : List ℕ) (cs es : List Float) (cap : ℕ) (ec : length cs ≡ axes) (ee : length es ≡ axes) (room : 4 * axes < length w) where
  corners : List ℕ
  corners = put_floats cs w 0

  corners_long : length corners ≡ length w
  unfolding corners
  corners_long = put_length cs w 0

  extents_long : length (put_floats es corners axes) ≡ length w
  extents_long = put_length es corners axes ∙ corners_long

  whole_half : (4 * axes) / 2 ≡ 2 * axes
  whole_half = omega arith

  pub head_boundary : All F64 cs → All F64 es → boundary_of axes (put_head axes w cs es cap) ≡ zip_with (λ c e. record { corner = c; extent = e }) cs es
  unfolding put_head corners
  head_boundary fc fe = ap₂ {C = List Side} (zip_with (λ c e. record { corner = c; extent = e }))
      (word_floats axes 0 (put_floats es corners axes) (4 * axes) cap (λ c lc k. absurd (omega (arith, lc, k, whole_half)))
      ∙ put_floats_lem axes 0 es corners axes (λ c e lc le k. absurd (omega (arith, lc, k)))
      ∙ ap (λ (a : ℕ). floats a (pairs corners) 0) (sym ec) ∙ put_back cs w 0 fc (omega (arith, ec, room)))
      (word_floats axes axes (put_floats es corners axes) (4 * axes) cap (λ c lc k. absurd (omega (arith, lc, k, whole_half)))
      ∙ ap (λ (a : ℕ). floats a (pairs (put_floats es corners axes)) axes) (sym ee) ∙ put_back es corners axes fe (omega (arith, ee, room, corners_long)))

  pub head_capacity : capacity_of axes (put_head axes w cs es cap) ≡ cap
  unfolding put_head corners
  head_capacity = get_or-set_same (put_floats es corners axes) (4 * axes) cap 0 (omega (arith, room, extents_long))
