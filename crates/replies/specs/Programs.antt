-- What the code of a command program does: bytes written to a lent slice, the tree that its pieces hold, and how far it is in its input. Definitions only.
use Rattle.std.specs.Prelude.{◌≡◌, Bool, false, List, [], ◌++◌, ℕ, ◌+◌, ◌*◌, ◌≤◌, ◌<◌, length, Option}
use Rattle.std.proofs.lemmas.List.Edits.{sets}
use Rattle.std.specs.Borrow.{MutBor}
use Rattle.model.specs.Calls.{Kind, State, Call}
use Rattle.trees.specs.Pieces.{Pieces, TakenFor}
use Rattle.record.specs.Input.{records}
use Rattle.replies.specs.Lines.{answer, changed, held?, lines, state}

-- the same bytes are lent, whatever is written there
abbrev pub IsSame : (before after : MutBor (List ℕ)) → Type 0
IsSame before after = (after.ghost_name ≡ before.ghost_name) × (length after.now ≡ length before.now)

-- from the index at on these bytes were written, and r is the index after them; the rest is as before
abbrev pub Wrote : (before : List ℕ) (at : ℕ) (bytes after : List ℕ) (r : ℕ) → Type 0
Wrote before at bytes after r = (r ≡ at + length bytes) × (after ≡ sets before at bytes)

-- the bytes were written where so much room is left for them, and nothing was where there is less
pub record Puts (room : ℕ) (before : List ℕ) (at : ℕ) (bytes after : List ℕ) (r : ℕ) : Type 0 where
  pub wrote : at + room ≤ length before → Wrote before at bytes after r
  pub none : length before < at + room → Wrote before at [] after r

-- the program's own flag says whether a tree is held; where none is, it is of no matter what lies in the pieces, as long as they have their lengths
abbrev pub Keeps : Kind → (held : Bool) → Pieces → State → Type 0
Keeps k held s a = (held ≡ held? a) × TakenFor k s a

-- no line is longer: a reply, a count and the line end have at most 14 bytes, a float 17 with its comma, a payload 11; and there are at most 512 points
abbrev pub longest : (axes : ℕ) → ℕ
longest axes = 14 + (17 * axes + 11) * 512

-- a record was answered: its line was written, and where it changes nothing the pieces are as before
unfoldable pub Answers : Kind → Option Call → (held : Bool) → Pieces → (held' : Bool) → Pieces → (out : List ℕ) (at : ℕ) (out' : List ℕ) (r : ℕ) → Type 0
unfolding answer
Answers k c held s held' s' out at out' r = (a : State) → Keeps k held s a → Wrote out at (answer k a c).line out' r × Keeps k held' s' (answer k a c).state × ((answer k a c).changes ≡ false → s' ≡ s)

-- The beginning of an input was answered, the records `said` of it, whatever comes after it: `rest` is left, and is the very start or not.
pub record Fed (k : Kind) (of : List ℕ → Option Call) (a : State) (start : Bool) (text : List ℕ) (said : List (Option Call)) (a' : State) (start' : Bool) (rest printed : List ℕ) : Type 0 where
  pub same : (more : List ℕ) → records of start (text ++ more) ≡ said ++ records of start' (rest ++ more)
  pub printed_is : printed ≡ lines k a said
  pub state_is : a' ≡ state k a said

-- Code was fed with a text: what is printed was written from the index at on, and the pieces hold the tree after it; where no record that was answered changes anything, they are as before.
pub record Feeds (k : Kind) (of : List ℕ → Option Call) (a : State) (start : Bool) (text : List ℕ) (s : Pieces) (held' : Bool) (s' : Pieces) (start' : Bool) (rest out : List ℕ) (at : ℕ) (out' : List ℕ) (r : ℕ) : Type 0 where
  pub said : List (Option Call)
  pub state : State
  pub printed : List ℕ
  pub fed : Fed k of a start text said state start' rest printed
  pub unchanged : changed k a said ≡ false → s' ≡ s
  pub wrote : Wrote out at printed out' r
  pub keeps : Keeps k held' s' state
