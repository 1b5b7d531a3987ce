-- The sides of a box, and their corners and extents as lists. Definitions only.
use mathlib.Core.List.{List, map, zip_with}
use Rattle.std.specs.Prelude.{Float}
use Rattle.model.specs.Boxes.{Side}

abbrev pub boxed : (corners extents : List Float) → List Side
boxed cs es = zip_with (λ c e. record { corner = c; extent = e }) cs es

abbrev pub corners : List Side → List Float
corners b = map (λ s. s.corner) b

abbrev pub extents : List Side → List Float
extents b = map (λ s. s.extent) b
