-- `axis::lengthen`: what its loops keep, and what grows less. Assumes nothing.
use mathlib.Core.Path.{◌≡◌}
use Prim.Native.Nat.{◌-◌}
use lib.Ieee.{binary64}
use Rattle.floats.specs.Span.{lengthened}
use Rattle.axis.proofs.lengthen.Given as goal

-- the steps that are left lengthen it as all four do from the start
abbrev pub invariant-loop : goal.invariant-loop
invariant-loop l = lengthened binary64 (4 - l.counter) l.lo l.hi l.len ≡ lengthened binary64 4 l.lo l.hi l.start
