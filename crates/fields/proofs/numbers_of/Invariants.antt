-- `fields::numbers_of`: what its loop keeps. Assumes nothing.
use Rattle.record.specs.Commands.{whole_after}
use Rattle.record.proofs.Reading.{Filling}
use Rattle.fields.proofs.numbers_of.Given as goal

abbrev pub invariant-loop-x : goal.invariant-loop-x
invariant-loop-x l = Filling l.count (whole_after l.word) l.s l.fn.numbers l.x-items l.x-index l.left
