-- `clearing::free_places`: what its loops keep. Assumes nothing.
use Rattle.std.proofs.Common.{◌≡◌, ◌-◌}
use Rattle.pool.specs.Writes.{pushed_down}
use Rattle.words.specs.Words.{words}
use Rattle.clearing.proofs.free_places.Given as goal

abbrev pub invariant-loop-p : goal.invariant-loop-p
invariant-loop-p l = pushed_down (l.p - 1) (words l.links) ≡ pushed_down (l.initial.p - 1) (words l.initial.links)
