-- A yes or no is the model's figure.
use Prim.Native.Nat.{ℕ, ◌*◌, ◌+◌}
use mathlib.Core.Path.{◌≡◌, refl}
use mathlib.Core.Bool.{Bool, true, false}
use mathlib.Core.List.{List}
use lib.Dec.{eqb}
use lib.ListN.{get_or}
use borrow.Author.Tests.{eqb-true, eqb-false}
use Rattle.model.specs.Calls.{IsEmpty, Kind}
use Rattle.words.specs.Words.{words}
use Rattle.trees.specs.Pieces.{AsksHeld, pieces}
use Rattle.trees.proofs.Queries.{empty_no, empty_yes}
use Rattle.pieces.specs.Replies.{figure}

pub empty_told : (n : List ℕ) (v : ℕ) → v ≡ get_or (words n) (4 * 1 + 3) 0 → (k : Kind) (h x p : List ℕ) → AsksHeld k IsEmpty (pieces h n x p) 0 (figure (eqb v 0))
empty_told n v e k h x p = go (eqb v 0) refl
  where
    go : (b : Bool) → eqb v 0 ≡ b → AsksHeld k IsEmpty (pieces h n x p) 0 (figure b)
    go true q = empty_yes k (pieces h n x p) v e (eqb-true v 0 q)
    go false q = empty_no k (pieces h n x p) v e (eqb-false v 0 q)
