-- Where a point stands in a list, as the code answers it. Definitions only.
use Rattle.std.specs.Prelude.{◌≡◌, ◌≢◌, ℕ, Result, Ok, Err}
use Rattle.trees.proofs.Finds.{Place}
use Rattle.tree_descent.specs.declared.descent.Spot.{Spot}

-- a place is found, with the one before it; or none is, with the last of the list, or 0
abbrev pub Spots : Result Spot ℕ → Place → Type 0
Spots (Err b) s = record { place = 0; before = b } ≡ s
Spots (Ok f) s = (record { place = f.place; before = f.before } ≡ s) × (f.place ≢ 0)
