-- A box is determined by its sides, so what `child` promises determines what it gives. Assumes nothing.
use mathlib.Core.Path.{◌≡◌, ap}
use mathlib.Core.List.{List, [], ◌∷◌}
use lib.Ieee.{Float}
use Rattle.model.specs.Boxes.{Side, side}
use Rattle.geometry.specs.Sides.{sides2, sides3}
use Rattle.geometry.specs.declared.plane.Rectangle.{Rectangle}
use Rattle.geometry.specs.declared.space.Cube.{Cube}

-- one axis
same_side : (c e c' e' : Float) (b q : List Side) → side c e ∷ b ≡ side c' e' ∷ q → (c ≡ c') × (e ≡ e') × (b ≡ q)
same_side c e c' e' b q h =
    let s : side c e ≡ side c' e' = cc in
    (ap (λ (s : Side). s.corner) s, ap (λ (s : Side). s.extent) s, cc)

rectangle : Float → Float → Float → Float → Rectangle
rectangle x y w h = record { x = x; y = y; width = w; height = h }

pub rectangle_unique : (r q : Rectangle) → sides2 r ≡ sides2 q → r ≡ q
unfolding rectangle
rectangle_unique r q e =
    let x = same_side r.x r.width q.x q.width (side r.y r.height ∷ []) (side q.y q.height ∷ []) e in
    let y = same_side r.y r.height q.y q.height [] [] x.2 in
    rectangles r.x r.y r.width r.height q.x q.y q.width q.height x.0 y.0 x.1 y.1
  where
    rectangles : (a b c d a' b' c' d' : Float) → a ≡ a' → b ≡ b' → c ≡ c' → d ≡ d' → rectangle a b c d ≡ rectangle a' b' c' d'
    rectangles a b c d a' b' c' d' p q r s = cc

cube : Float → Float → Float → Float → Float → Float → Cube
cube x y z w h d = record { x = x; y = y; z = z; width = w; height = h; depth = d }

pub cube_unique : (r q : Cube) → sides3 r ≡ sides3 q → r ≡ q
unfolding cube
cube_unique r q e =
    let x = same_side r.x r.width q.x q.width (side r.y r.height ∷ side r.z r.depth ∷ []) (side q.y q.height ∷ side q.z q.depth ∷ []) e in
    let y = same_side r.y r.height q.y q.height (side r.z r.depth ∷ []) (side q.z q.depth ∷ []) x.2 in
    let z = same_side r.z r.depth q.z q.depth [] [] y.2 in
    cubes r.x r.y r.z r.width r.height r.depth q.x q.y q.z q.width q.height q.depth x.0 y.0 z.0 x.1 y.1 z.1
  where
    cubes : (a b c d e f a' b' c' d' e' f' : Float) → a ≡ a' → b ≡ b' → c ≡ c' → d ≡ d' → e ≡ e' → f ≡ f' → cube a b c d e f ≡ cube a' b' c' d' e' f'
    cubes a b c d e f a' b' c' d' e' f' p q r s t u = cc
