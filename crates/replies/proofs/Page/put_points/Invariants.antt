-- `replies::Page::put_points`: what its loop keeps. Assumes nothing.
use Rattle.replies.proofs.Points.{Pointing}
use Rattle.replies.specs.Programs.{IsSame}
use Rattle.replies.proofs.Page.put_points.Given as goal

abbrev pub invariant-loop-j : goal.invariant-loop-j
invariant-loop-j l = IsSame l.initial.self.out l.self.out × Pointing l.axes l.n l.coords l.payloads l.initial.self.out.now l.initial.self.at l.self.out.now l.self.at l.j
