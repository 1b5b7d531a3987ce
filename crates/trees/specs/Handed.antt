-- An answer handed over, or refused where it does not fit: document 01, "7". Definitions only.
use Rattle.std.specs.Prelude.{ℕ, List}
use Rattle.model.specs.Calls.{Plan, search_call}
use Rattle.model.specs.Trees.{Point}
use Rattle.trees.specs.Pieces.{Hands}

-- these points, as every search with room for so many hands them over
unfoldable pub Handed : (room : ℕ) → List Point → (cs ms cs' ms' : List ℕ) (r n : ℕ) → Type 0
unfolding search_call
Handed room ps cs ms cs' ms' r n = (a : Plan) → Hands (search_call a room ps) cs ms cs' ms' r n
