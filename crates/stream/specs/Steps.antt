-- What became of a text's first line. Definitions only.
use Rattle.std.specs.Prelude.{◌≡◌, Bool, false, List, ℕ, ◌+◌, ◌≤◌, ◌<◌, length, drop, Option}
use Rattle.model.specs.Calls.{Call, Kind, State}
use Rattle.trees.specs.Pieces.{Pieces}
use Rattle.record.specs.Input as input
use Rattle.replies.specs.Programs.{Feeds, Keeps, longest}
use Rattle.stream.specs.declared.Step.{Step}
use Rattle.stream.specs.declared.Step.TheVariants.{Line, Unended, Full}

unfoldable pub Steps : (k : Kind) (of : List ℕ → Option Call) (start held : Bool) (text : List ℕ) (s s' : Pieces) (out : List ℕ) (at : ℕ) (out' : List ℕ) (to : ℕ) → Step → Type 0
Steps k of start held text s s' out at out' to (Line read held') =
    (1 ≤ read) × (read ≤ length text) × (at ≤ length out → to ≤ length out) × ((a : State) → Keeps k held s a → Feeds k of a start text s held' s' false (drop read text) out at out' to)
Steps k of start held text s s' out at out' to Unended = input.Unended text × (s' ≡ s) × (out' ≡ out) × (to ≡ at)
Steps k of start held text s s' out at out' to Full = (length out < at + longest k.axes) × (s' ≡ s) × (out' ≡ out) × (to ≡ at)
