-- `replies::Page::put_point`: what its loop keeps. Assumes nothing.
use Rattle.replies.proofs.Points.{Placing}
use Rattle.replies.specs.Programs.{IsSame}
use Rattle.replies.proofs.Page.put_point.Given as goal

abbrev pub invariant-loop-a : goal.invariant-loop-a
invariant-loop-a l = IsSame l.initial.self.out l.self.out × Placing l.axes l.coords l.from l.initial.self.out.now l.initial.self.at l.self.out.now l.self.at l.a
