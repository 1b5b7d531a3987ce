-- What the functions of several axes compute, one axis more at a time. Two axes and three are instances. Assumes nothing.
use mathlib.Core.Path.{◌≡◌, refl, ap, ap₂, ◌∙◌}
use mathlib.Core.Bool.{Bool, true, false, ◌&&◌}
use mathlib.Core.List.{List, [], ◌∷◌, map, zip_with}
use Prim.Native.Nat.{ℕ, ◌+◌, ◌*◌, ◌/◌, ◌%◌}
use native.Mathlib.Omega.{arith}
use lib.Dec.{eqb}
use lib.Ieee.{Float, eq}
use Rattle.model.specs.Boxes.{Side, on_each, holds, inside, touches, meets, same_place, turn, route, half, part, added, square, axis_distance, axis_sq, node_distance}

-- ---- a test on each axis
and_true : (a : Bool) → a ≡ (a && true)
and_true true = refl
and_true false = refl

module _ {A B : Type 0} (f : A → B → Bool) where
  each_last : (a : Bool) (x : A) (y : B) → a ≡ f x y → a ≡ on_each f (x ∷ []) (y ∷ [])
  unfolding on_each
  each_last a x y e = e ∙ and_true (f x y)

  each_more : (a r : Bool) (x : A) (y : B) (xs : List A) (ys : List B) → a ≡ f x y → r ≡ on_each f xs ys → (a && r) ≡ on_each f (x ∷ xs) (y ∷ ys)
  unfolding on_each
  each_more a r x y xs ys e h = ap₂ (λ (u v : Bool). u && v) e h

pub inside_last : (a : Bool) (s : Side) (v : Float) → a ≡ holds s v → a ≡ inside (s ∷ []) (v ∷ [])
unfolding inside
inside_last a s v e = each_last holds a s v e

pub inside_more : (a r : Bool) (s : Side) (v : Float) (b : List Side) (p : List Float) → a ≡ holds s v → r ≡ inside b p → (a && r) ≡ inside (s ∷ b) (v ∷ p)
unfolding inside
inside_more a r s v b p e h = each_more holds a r s v b p e h

pub meets_last : (a : Bool) (s t : Side) → a ≡ touches s t → a ≡ meets (s ∷ []) (t ∷ [])
unfolding meets
meets_last a s t e = each_last touches a s t e

pub meets_more : (a r : Bool) (s t : Side) (b q : List Side) → a ≡ touches s t → r ≡ meets b q → (a && r) ≡ meets (s ∷ b) (t ∷ q)
unfolding meets
meets_more a r s t b q e h = each_more touches a r s t b q e h

pub same_last : (x y : Float) → eq x y ≡ same_place (x ∷ []) (y ∷ [])
unfolding same_place
same_last x y = each_last eq (eq x y) x y refl

pub same_more : (r : Bool) (x y : Float) (p q : List Float) → r ≡ same_place p q → (eq x y && r) ≡ same_place (x ∷ p) (y ∷ q)
unfolding same_place
same_more r x y p q h = each_more eq (eq x y) r x y p q refl h

-- ---- the number of a child
pub route_last : (n : ℕ) (s : Side) (v : Float) → n ≡ turn s v → n ≡ route (s ∷ []) (v ∷ [])
unfolding route
route_last n s v e = e ∙ alone (turn s v)
  where
    alone : (n : ℕ) → n ≡ n + 2 * 0
    alone n = omega arith

pub route_more : (n m : ℕ) (s : Side) (v : Float) (b : List Side) (p : List Float) → n ≡ turn s v → m ≡ route b p → n + 2 * m ≡ route (s ∷ b) (v ∷ p)
unfolding route
route_more n m s v b p e h = ap₂ (λ (i j : ℕ). i + 2 * j) e h

-- ---- the box of a child
pub part_none : (i : ℕ) → [] ≡ part [] i
unfolding part
part_none i = refl

pub part_more : (t : Bool) (i : ℕ) (x s : Side) (b r : List Side) → t ≡ eqb (i % 2) 1 → x ≡ half t s → r ≡ part b (i / 2) → x ∷ r ≡ part (s ∷ b) i
unfolding part
part_more t i x s b r h e k = ap₂ (λ (x : Side) (y : List Side). x ∷ y) (e ∙ ap (λ (u : Bool). half u s) h) k

-- ---- the sum of squares
-- d holds the distance on each axis
abbrev pub Distances : List Side → List Float → List Float → Type 0
Distances [] c [] = Unit {0}
Distances [] c (x ∷ d) = ⊥
Distances (s ∷ b) [] d = ⊥
Distances (s ∷ b) (v ∷ c) [] = ⊥
Distances (s ∷ b) (v ∷ c) (x ∷ d) = (x ≡ axis_distance s v) × Distances b c d

gaps_are : (b : List Side) (c d : List Float) → Distances b c d → map square d ≡ zip_with axis_sq b c
unfolding zip_with axis_sq
gaps_are [] c [] h = refl
gaps_are [] c (x ∷ d) h = absurd h
gaps_are (s ∷ b) [] d h = absurd h
gaps_are (s ∷ b) (v ∷ c) [] h = absurd h
gaps_are (s ∷ b) (v ∷ c) (x ∷ d) h = ap₂ (λ (y : Float) (l : List Float). square y ∷ l) h.0 (gaps_are b c d h.1)

pub node_is : (b : List Side) (c d : List Float) → Distances b c d → added (map square d) ≡ node_distance b c
unfolding node_distance
node_is b c d h = ap added (gaps_are b c d h)
