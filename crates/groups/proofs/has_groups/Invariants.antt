-- `groups::has_groups`: what its loops keep. Assumes nothing.
use Rattle.std.proofs.Common.{◌≡◌, ◌-◌, get_or}
use Rattle.pool.specs.Writes.{enough}
use Rattle.words.specs.Words.{words}
use Rattle.groups.proofs.has_groups.Given as goal

abbrev pub invariant-loop : goal.invariant-loop
invariant-loop l = enough l.ways (words l.nodes) (l.need - l.counter) l.k ≡ enough l.ways (words l.nodes) l.need (get_or (words l.nodes) 0 0)
