-- `geometry_answers::put_numbers`: what its loop keeps. Assumes nothing.
use Prim.Native.Nat.{◌*◌}
use mathlib.Core.Path.{◌≡◌}
use lib.ListN.{drop}
use lib.Seq.{sets}
use Rattle.geometry_answers.specs.Shown.{fields}
use Rattle.geometry_answers.proofs.put_numbers.Given as goal

abbrev pub invariant-loop-i : goal.invariant-loop-i
invariant-loop-i l = sets l.out (17 * l.i) (fields (drop l.i l.numbers)) ≡ sets l.initial.out 0 (fields l.numbers)
