-- Where a program is in its input, what a turn does, and turns one after the other. Definitions only, for either program: `of` says what one record says.
use Rattle.std.specs.Prelude.{◌≡◌, Bool, true, false, not, List, [], ◌++◌, ℕ, ◌+◌, ◌-◌, ◌≤◌, ◌<◌, eqb, length, take, drop}
use Rattle.std.specs.Prelude.{Option}
use Rattle.model.specs.Calls.{Call, Kind, State, broken}
use Rattle.trees.specs.Pieces.{Pieces}
use Rattle.record.specs.Input.{Unended, records}
use Rattle.replies.specs.Lines.{changed, lines, state}
use Rattle.replies.specs.Programs.{Fed, Keeps, longest}
use Rattle.turns.specs.declared.Next.{Next}
use Rattle.turns.specs.declared.Next.TheVariants as next
use Rattle.turns.specs.declared.Place.{Place}

-- the bytes of a text from one index up to another
abbrev pub bytes_of : (from end : ℕ) → List ℕ → List ℕ
bytes_of from end text = take (end - from) (drop from text)

-- the bytes that are carried, not answered yet
abbrev pub carried : Place → List ℕ → List ℕ
carried p text = bytes_of p.from p.end text

-- whether anything comes next
unfoldable pub does_go_on : Next → Bool
does_go_on next.Read = true
does_go_on next.Work = true
does_go_on next.Done = false

-- a turn is the last: where the program reads and nothing comes, the input is at its end
unfoldable pub at_end : Next → (got : ℕ) → Bool
at_end next.Read got = eqb got 0
at_end next.Work got = false
at_end next.Done got = true

-- where a program begins: the very start of the input is ahead, and there is no tree
abbrev pub first : Place
first = record { from = 0; end = 0; start = true; held = false; ready = 0; next = next.Read }

-- a place is right in its text: where the program reads, no line has ended and few bytes are carried; where it works, there was no room for another line
pub record Sits (k : Kind) (p : Place) (text out : List ℕ) : Type 0 where
  pub ordered : p.from ≤ p.end
  pub within : p.end ≤ length text
  pub ready : p.ready ≤ length out
  pub reads : p.next ≡ next.Read → (p.end ≤ 133) × Unended (carried p text)
  pub works : p.next ≡ next.Work → length out < p.ready + longest k.axes

-- the chunk that came: the new bytes behind what is carried, where the program reads
unfoldable pub came : Next → (got end : ℕ) → List ℕ → List ℕ
came next.Read got end text = take got (drop end text)
came next.Work got end text = []
came next.Done got end text = []

-- what a turn has before it: the bytes that are carried, and the chunk that came
abbrev pub given : Place → (got : ℕ) → List ℕ → List ℕ
given p got text = carried p text ++ came p.next got p.end text

-- the last bytes of an input were answered: the lines of their records are printed, and the state is that after them
abbrev pub Finished : (k : Kind) (of : List ℕ → Option Call) (a : State) (start : Bool) (text : List ℕ) (a' : State) (printed : List ℕ) → Type 0
Finished k of a start text a' printed = (printed ≡ lines k a (records of start text)) × (a' ≡ state k a (records of start text))

-- The beginning of some bytes was answered, and a place was left: the rest of them is carried, as far as its records need it, and the bytes of `out` after the ready ones are as before. Where no
-- record that was answered changes anything, the pieces are as they were.
pub record Digests (k : Kind) (of : List ℕ → Option Call) (a : State) (start : Bool) (bytes : List ℕ) (p : Place) (s s' : Pieces) (text' out out' : List ℕ) : Type 0 where
  pub said : List (Option Call)
  pub state : State
  pub keeps : Keeps k p.held s' state
  pub unchanged : changed k a said ≡ false → s' ≡ s
  pub fed : Fed k of a start bytes said state p.start (carried p text') (take p.ready out')
  pub rest : drop p.ready out' ≡ drop p.ready out

-- A turn was made from one place to another. Where something comes next, the beginning of what it had before it was answered, and the rest is carried; where nothing does, all of it was, as the
-- end of the input. After the end nothing is done. The pieces are as they were at the end, and where no record that was answered changes anything.
pub record Works (k : Kind) (of : List ℕ → Option Call) (a : State) (p : Place) (got : ℕ) (text : List ℕ) (p' : Place) (s s' : Pieces) (text' out out' : List ℕ) : Type 0 where
  pub said : List (Option Call)
  pub state : State
  pub keeps : Keeps k p'.held s' state
  pub unchanged : changed k a said ≡ false → s' ≡ s
  pub goes_on : does_go_on p'.next ≡ true → Fed k of a p.start (given p got text) said state p'.start (carried p' text') (take p'.ready out')
  pub ends : does_go_on p.next ≡ true → does_go_on p'.next ≡ false → Finished k of a p.start (given p got text) state (take p'.ready out')
  pub over : does_go_on p.next ≡ false → (state ≡ a) × (take p'.ready out' ≡ [])
  pub still : does_go_on p'.next ≡ false → s' ≡ s
  pub rest : drop p'.ready out' ≡ drop p'.ready out

-- Turns from the very start of an input, with no tree: the chunks that came and the ready bytes, each joined in order, and the state, place, pieces and text after them. A turn is made while
-- something comes next, a read before it leaves what is carried, and nothing comes after it only at the end.
pub data Turns (k : Kind) (of : List ℕ → Option Call) : (input printed : List ℕ) → State → Place → Pieces → (text : List ℕ) → Type 0 where
  begin : {s : Pieces} {text : List ℕ} → Keeps k false s broken → Turns k of [] [] broken first s text
  turn : {input printed : List ℕ} {a : State} {p : Place} {s : Pieces} {text text₁ : List ℕ} {got : ℕ} {p' : Place} {s' : Pieces} {text' out out' : List ℕ}
      → Turns k of input printed a p s text → does_go_on p.next ≡ true → carried p text₁ ≡ carried p text → does_go_on p'.next ≡ not (at_end p.next got)
      → (w : Works k of a p got text₁ p' s s' text' out out')
      → Turns k of (input ++ came p.next got p.end text₁) (printed ++ take p'.ready out') w.state p' s' text'

-- some such turns lead here; which bytes they read and printed no contract can name
pub record Turned (k : Kind) (of : List ℕ → Option Call) (p : Place) (s : Pieces) (text : List ℕ) : Type 0 where
  pub input : List ℕ
  pub printed : List ℕ
  pub state : State
  pub turns : Turns k of input printed state p s text

-- the same of a program that owns its pieces and its text, which nobody sees
pub record Ran (k : Kind) (of : List ℕ → Option Call) (p : Place) : Type 0 where
  pub pieces : Pieces
  pub text : List ℕ
  pub turned : Turned k of p pieces text
