-- `answers::write`: what its loops keep, and what grows less. Assumes nothing.
use Rattle.words.specs.Words.{words}
use Rattle.answers.proofs.Writes.{Answering}
use Rattle.answers.proofs.write.Given as goal

abbrev pub invariant-loop-j : goal.invariant-loop-j
invariant-loop-j l = Answering l.axes (words l.points) l.found l.initial.coords l.initial.payloads l.coords l.payloads l.j
