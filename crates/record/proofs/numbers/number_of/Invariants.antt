-- `record::numbers::number_of`: what its loops keep. Assumes nothing.
use Prim.Native.Nat.{◌<◌, ◌^◌}
use mathlib.Core.Path.{◌≡◌}
use lib.ListN.{drop}
use Rattle.record.specs.Numbers.{digits, value}
use Rattle.record.proofs.numbers.number_of.Given as goal

abbrev pub invariant-loop-b : goal.invariant-loop-b
invariant-loop-b l = (l.n < 16 ^ l.b-index) × (value 16 l.n (drop l.b-index l.s) ≡ value 16 0 l.s) × (digits 16 (drop l.b-index l.s) ≡ digits 16 l.s)
