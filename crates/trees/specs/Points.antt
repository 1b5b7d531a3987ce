-- How points lie in their piece: place p has a float for each axis, then its payload in a word of its own and a spare one. Definitions only.
use Rattle.std.specs.Prelude.{ℕ, zero, suc, ◌+◌, ◌*◌, List, [], ◌∷◌, get_or, Float}
use Rattle.std.specs.Float.{binary64}
use Rattle.std.specs.Float.Ieee.{of_bits}
use Rattle.model.specs.Trees.{Point}
use Rattle.words.specs.Words.{pairs}

-- so many floats from number j on
abbrev pub floats : ℕ → List ℕ → ℕ → List Float
floats zero ns j = []
floats (suc a) ns j = of_bits binary64 (get_or ns j 0) ∷ floats a ns (j + 1)

-- the point in place p
abbrev pub point_at : (axes : ℕ) → List ℕ → ℕ → Point
point_at axes w p = record { at = floats axes (pairs w) ((axes + 1) * p); payload = get_or w (2 * ((axes + 1) * p) + 2 * axes) 0 }
