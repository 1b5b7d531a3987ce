-- The code's boxes and points as the model's lists: the x axis first. Definitions only.
use Rattle.std.specs.Prelude.{List, [], ◌∷◌, Float}
use Rattle.model.specs.Boxes.{Side, side}
use Rattle.geometry.specs.declared.plane.Point2D.{Point2D}
use Rattle.geometry.specs.declared.plane.Rectangle.{Rectangle}
use Rattle.geometry.specs.declared.space.Point3D.{Point3D}
use Rattle.geometry.specs.declared.space.Cube.{Cube}

abbrev pub place2 : Point2D → List Float
place2 p = p.x ∷ p.y ∷ []

abbrev pub sides2 : Rectangle → List Side
sides2 r = side r.x r.width ∷ side r.y r.height ∷ []

abbrev pub place3 : Point3D → List Float
place3 p = p.x ∷ p.y ∷ p.z ∷ []

abbrev pub sides3 : Cube → List Side
sides3 c = side c.x c.width ∷ side c.y c.height ∷ side c.z c.depth ∷ []
