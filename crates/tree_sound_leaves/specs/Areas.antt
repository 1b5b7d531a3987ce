-- The code's bounds as the model's: a bound for each axis, the x axis first. Definitions only.
use Rattle.std.specs.Prelude.{List, [], ◌∷◌}
use Rattle.trees.proofs.Areas as areas
use Rattle.tree_sound_leaves.specs.declared.area.Bound.{Bound}
use Rattle.tree_sound_leaves.specs.declared.area.Area2D.{Area2D}
use Rattle.tree_sound_leaves.specs.declared.area.Area3D.{Area3D}

abbrev pub bound_of : Bound → areas.Bound
bound_of b = record { low = b.low; top = b.top; edge = b.edge }

abbrev pub area2 : Area2D → List areas.Bound
area2 a = bound_of a.x ∷ bound_of a.y ∷ []

abbrev pub area3 : Area3D → List areas.Bound
area3 a = bound_of a.x ∷ bound_of a.y ∷ bound_of a.z ∷ []
