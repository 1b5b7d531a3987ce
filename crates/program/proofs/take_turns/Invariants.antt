-- `program::take_turns`: what its loop keeps. Assumes nothing.
use mathlib.Core.Path.{◌≡◌}
use mathlib.Core.Bool.{true}
use lib.ListN.{length}
use Rattle.trees.specs.Pieces.{pieces}
use Rattle.record.specs.Commands.{understood}
use Rattle.turns.specs.Places.{Sits, Turned, does_go_on}
use Rattle.program.proofs.take_turns.Given as goal

abbrev pub invariant-loop-turn : goal.invariant-loop-turn
invariant-loop-turn g l =
    Turned g.R.Tree.kind (understood g.R.Program.made g.R.Tree.kind.axes) l.place (pieces l.head l.nodes l.links l.points) l.text × Sits g.R.Tree.kind l.place l.text l.out
    × (length l.head ≡ length l.initial.head) × (length l.nodes ≡ length l.initial.nodes) × (length l.links ≡ length l.initial.links) × (length l.points ≡ length l.initial.points) × (length l.text ≡ length l.initial.text) × (length l.out ≡ length l.initial.out) × (does_go_on l.place.next ≡ true)
