-- Calls that were made one after another on one tree's pieces. Definitions only.
use Rattle.std.specs.Prelude.{List, [], ◌∷◌, map, ℕ}
use Rattle.model.specs.Calls.{Kind, Call}
use Rattle.trees.specs.Pieces.{Pieces, Does}

-- a call that was made: the pieces that it left, its reply and its count
pub record Made : Type 0 where
  pub call : Call
  pub left : Pieces
  pub reply : ℕ
  pub figure : ℕ

abbrev pub calls : List Made → List Call
calls ms = map (λ (m : Made). m.call) ms

-- each call was made on the pieces that the one before it left
abbrev pub Runs : Kind → Pieces → List Made → Type 0
Runs k s [] = Unit {0}
Runs k s (m ∷ ms) = Does k m.call s m.left m.reply m.figure × Runs k m.left ms

abbrev pub finally : Pieces → List Made → Pieces
finally s [] = s
finally s (m ∷ ms) = finally m.left ms
