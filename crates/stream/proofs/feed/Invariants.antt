-- `stream::feed`: what its loops keep, and what grows less. Assumes nothing.
use Prim.Native.Nat.{◌-◌}
use mathlib.Core.Path.{◌≡◌}
use lib.ListN.{length}
use Rattle.trees.specs.Pieces.{pieces}
use Rattle.record.specs.Commands.{understood}
use Rattle.replies.specs.Programs.{IsSame}
use Rattle.stream.proofs.Feeding.{Feeding}
use Rattle.stream.proofs.feed.Given as goal

abbrev pub invariant-loop-at : goal.invariant-loop-at
invariant-loop-at g l = Feeding g.R.Tree.kind (understood g.R.Program.made g.R.Tree.kind.axes) l.start l.held l.text (pieces l.initial.head l.initial.nodes l.initial.links l.initial.points) l.initial.page.out.now l.first l.has (pieces l.head l.nodes l.links l.points) l.page.out.now l.at l.page.at
    × (length l.head ≡ length l.initial.head) × (length l.nodes ≡ length l.initial.nodes) × (length l.links ≡ length l.initial.links) × (length l.points ≡ length l.initial.points) × IsSame l.initial.page.out l.page.out

abbrev pub decreases-loop-at : goal.decreases-loop-at
decreases-loop-at g l = length l.text - l.at
