-- `answers::put_place`: what its loops keep, and what grows less. Assumes nothing.
use Rattle.words.specs.Words.{words}
use Rattle.answers.proofs.Writes.{Placing}
use Rattle.answers.proofs.put_place.Given as goal

abbrev pub invariant-loop-a : goal.invariant-loop-a
invariant-loop-a l = Placing l.axes (words l.points) l.p l.from l.to l.initial.coords l.coords l.a
