-- `clearing::free_groups`: what its loops keep. Assumes nothing.
use Rattle.std.proofs.Common.{◌≡◌, ◌-◌}
use Rattle.pool.specs.Writes.{given_down}
use Rattle.words.specs.Words.{words}
use Rattle.clearing.proofs.free_groups.Given as goal

abbrev pub invariant-loop-k : goal.invariant-loop-k
invariant-loop-k l = given_down l.ways (l.k - 1) (words l.nodes) ≡ given_down l.ways (l.initial.k - 1) (words l.initial.nodes)
