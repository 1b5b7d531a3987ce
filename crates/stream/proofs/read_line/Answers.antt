-- `stream::read_line`: the goals that the search leaves. Assumes nothing.
use Rattle.record.specs.Commands.{understood}
use Rattle.stream.proofs.Feeding.{has, steps_full, steps_line, steps_unended}
use Rattle.stream.proofs.read_line.Goals as goal

pub returns-then-not-has_room-clause-steps : goal.returns-then-not-has_room-clause-steps
returns-then-not-has_room-clause-steps g c = steps_full g.R.Tree.kind (understood g.R.Program.made g.R.Tree.kind.axes) _ _ _ _ _ _ _ _ c.axes.ensures c.has_room.ensures c.if-not-has_room.true

pub returns-in_default-clause-steps : goal.returns-in_default-clause-steps
returns-in_default-clause-steps g c = steps_unended g.R.Tree.kind (understood g.R.Program.made g.R.Tree.kind.axes) _ _ _ _ _ _ _ c.find.ensures.nowhere c.in_default.is

pub returns-clause-steps : goal.returns-clause-steps
returns-clause-steps g c = steps_line g.R.Tree.kind (understood g.R.Program.made g.R.Tree.kind.axes) _ _ _ _ _ _ _ _ _ _ _ _ _ c.in-Some.is c.find.ensures.found c.find.ensures.first c.said-command.ensures (c.answer-held.ensures.answers (has g.R.Tree.kind _ _ _ _ c.axes.ensures c.has_room.ensures c.if-not-has_room.false)) c.answer-held.ensures.within
