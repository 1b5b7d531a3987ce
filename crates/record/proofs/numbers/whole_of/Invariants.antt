-- `record::numbers::whole_of`: what its loops keep. Assumes nothing.
use Prim.Native.Nat.{◌≤◌}
use mathlib.Core.Path.{◌≡◌}
use lib.ListN.{drop}
use Rattle.record.specs.Numbers.{digits, value}
use Rattle.record.proofs.numbers.whole_of.Given as goal

abbrev pub invariant-loop-b : goal.invariant-loop-b
invariant-loop-b l = (l.n ≤ 4294967295) × (value 10 l.n (drop l.b-index l.s) ≡ value 10 0 l.s) × (digits 10 (drop l.b-index l.s) ≡ digits 10 l.s)
