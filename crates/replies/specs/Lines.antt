-- The lines of a command program: document 01, "Records of the command program" and "Reply numbers". Definitions only, for either program.
use Rattle.std.specs.Prelude.{ℕ, Bool, true, false, cond, ◌||◌, eqb, Option, None, Some}
use mathlib.Core.List.{List, [], ◌∷◌, ◌++◌, map, flatten}
use Rattle.model.specs.Trees.{Point}
use Rattle.model.specs.Calls.{no_tree, not_understood, number, Kind, State, misfit, broken, tree, Query, Contains, Len, IsEmpty, Radius, Box, Nearest, Call, Create, Insert, Bulk, Delete, Clear, Ask, Outcome, refuse, step}
use Rattle.record.specs.Numbers.{decimal, hex}

-- ---- a line
-- "Each output line ends with CRLF"
abbrev pub crlf : List ℕ
crlf = 13 ∷ 10 ∷ []

-- a field that is not the first
abbrev pub field : List ℕ → List ℕ
field s = 44 ∷ s

-- "each point's coordinates and payload"
unfoldable pub point : Point → List ℕ
unfolding decimal hex flatten
point p = flatten (map (λ x. field (hex x)) p.at) ++ field (decimal p.payload)

unfoldable pub points : List Point → List ℕ
unfolding point flatten
points ps = flatten (map point ps)

-- "for contains 0 and then 1 or 0; for len 0 and the number held; for searches 0, the count, then each point's coordinates and payload": what stands after the 0.
-- No record asks whether a tree is empty
unfoldable pub told : Query → Outcome → List ℕ
unfolding decimal points
told (Contains p) o = field (decimal o.figure)
told Len o = field (decimal o.figure)
told IsEmpty o = field (decimal o.figure)
told (Radius c r n) o = field (decimal o.figure) ++ points o.points
told (Box q n) o = field (decimal o.figure) ++ points o.points
told (Nearest c m n) o = field (decimal o.figure) ++ points o.points

unfoldable pub after : Call → Outcome → List ℕ
unfolding told
after (Create b cap) o = []
after (Insert p) o = []
after (Bulk ps) o = []
after (Delete p) o = []
after Clear o = []
after (Ask q) o = told q o

-- "the reply number", and what a call that is done gives
unfoldable pub line : Call → Outcome → List ℕ
unfolding decimal after number
line c o = decimal (number o.reply) ++ cond (eqb (number o.reply) 0) (after c o) [] ++ crlf

-- whether a call that was heard changes the pieces: "Refused calls change nothing", and a query changes nothing. Bulk keeps what it stored; no record is one
unfoldable pub changes : Call → Outcome → Bool
unfolding number
changes (Create b cap) o = eqb (number o.reply) 0
changes (Insert p) o = eqb (number o.reply) 0
changes (Bulk ps) o = true
changes (Delete p) o = eqb (number o.reply) 0
changes Clear o = eqb (number o.reply) 0
changes (Ask q) o = false

-- ---- a program
-- the tree that is held; before the first creation that is done there is none, which is `broken`
unfoldable pub held? : State → Bool
held? misfit = false
held? broken = false
held? (tree a) = true

unfoldable pub makes : Call → Bool
makes (Create b cap) = true
makes (Insert p) = false
makes (Bulk ps) = false
makes (Delete p) = false
makes Clear = false
makes (Ask q) = false

-- "program 9, 10 (not for `quad` or `oct`), then the call's own": 10 is "no tree yet"
unfoldable pub heard : Kind → State → Call → Outcome
unfolding held? makes step
heard k s c = elim (held? s || makes c) [ true ↦ step k s c | false ↦ refuse no_tree s ]

-- what a record makes a program do: 9 is "record not understood"
pub record Answer : Type 0 where
  pub line : List ℕ
  pub state : State
  pub changes : Bool

unfoldable pub answer : Kind → State → Option Call → Answer
unfolding heard line changes decimal number
answer k s None = record { line = decimal (number not_understood) ++ crlf; state = s; changes = false }
answer k s (Some c) = let o = heard k s c in record { line = line c o; state = o.state; changes = changes c o }

-- the lines of many records, and the tree after them
unfoldable pub lines : Kind → State → List (Option Call) → List ℕ
unfolding answer
lines k s [] = []
lines k s (c ∷ cs) = (answer k s c).line ++ lines k (answer k s c).state cs

unfoldable pub state : Kind → State → List (Option Call) → State
unfolding answer
state k s [] = s
state k s (c ∷ cs) = state k (answer k s c).state cs

-- whether one of them changes the pieces
unfoldable pub changed : Kind → State → List (Option Call) → Bool
unfolding answer
changed k s [] = false
changed k s (c ∷ cs) = (answer k s c).changes || changed k (answer k s c).state cs
