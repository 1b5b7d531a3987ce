-- The answer of a creation: document 01, "Reply numbers". Definitions only.
use Rattle.std.specs.Prelude.{ℕ, Bool, cond, eqb, Result, Ok, Err}
use Rattle.pieces.specs.declared.Refusal.{Refusal}
use Rattle.pieces.specs.declared.Refusal.TheVariants.{NoCapacity, BadBoundary}

-- "creation .. 3, 4": 3 for capacity 0, 4 for a boundary that is not acceptable
unfoldable pub creation_of : (acceptable : Bool) (capacity : ℕ) → Result ℕ Refusal
creation_of u cap = cond (eqb cap 0) (Err NoCapacity) (cond u (Ok cap) (Err BadBoundary))
