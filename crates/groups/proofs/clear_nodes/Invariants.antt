-- `groups::clear_nodes`: what its loops keep. Assumes nothing.
use Rattle.std.proofs.Common.{◌≡◌, ◌-◌}
use Rattle.pool.specs.Writes.{cleared_from}
use Rattle.words.specs.Words.{words}
use Rattle.groups.proofs.clear_nodes.Given as goal

abbrev pub invariant-loop-j : goal.invariant-loop-j
invariant-loop-j l = cleared_from (l.j-end - l.j) (words l.nodes) l.j ≡ cleared_from l.fn.some (words l.initial.nodes) l.fn.i
