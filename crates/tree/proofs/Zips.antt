-- Sides from their corners and extents, and back.
use mathlib.Core.Path.{◌≡◌, refl, ap}
use mathlib.Core.List.{List, [], ◌∷◌, zip_with}
use lib.ListN.{length, length-map}
use Rattle.model.specs.Boxes.{Side}
use Rattle.model.specs.Soundness.{All}
use Rattle.model.proofs.Inside.{F64, F64Side}
use Rattle.tree.specs.Sides.{boxed, corners, extents}

pub zipped : (b : List Side) → boxed (corners b) (extents b) ≡ b
unfolding zip_with
zipped [] = refl
zipped (s ∷ b) = ap (λ (l : List Side). s ∷ l) (zipped b)

pub many_corners : (b : List Side) → length (corners b) ≡ length b
many_corners b = length-map b (λ s. s.corner)

pub many_extents : (b : List Side) → length (extents b) ≡ length b
many_extents b = length-map b (λ s. s.extent)

pub all_corners : (b : List Side) → All F64Side b → All F64 (corners b)
all_corners [] h = tt
all_corners (s ∷ b) h = (h.0.0, all_corners b h.1)

pub all_extents : (b : List Side) → All F64Side b → All F64 (extents b)
all_extents [] h = tt
all_extents (s ∷ b) h = (h.0.1, all_extents b h.1)
