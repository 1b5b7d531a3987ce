-- `geometry_answers::put`: what its loop keeps. Assumes nothing.
use mathlib.Core.Path.{◌≡◌}
use lib.Seq.{sets}
use Rattle.record.specs.Numbers.{spelt}
use Rattle.geometry_answers.proofs.put.Given as goal

abbrev pub invariant-loop-k : goal.invariant-loop-k
invariant-loop-k l = sets l.out l.at (spelt 16 l.k l.left) ≡ sets l.initial.out l.at (spelt 16 16 l.initial.left)
