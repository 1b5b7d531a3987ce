-- What a search within a radius asks: document 01, "Visiting for radius and box". Definitions only.
use Rattle.std.specs.Prelude.{Bool, not, List, Float}
use Rattle.std.specs.Float.Ieee.{lt, le}
use Rattle.model.specs.Boxes.{Side, squared, node_distance}

-- "A branch is skipped if its node distance > r·r"
abbrev pub near : (center : List Float) (limit : Float) → List Side → Bool
near c rr b = not (lt rr (node_distance b c))

-- the point itself: at most the squared radius away
abbrev pub within : (center : List Float) (limit : Float) → List Float → Bool
within c rr v = le (squared v c) rr
