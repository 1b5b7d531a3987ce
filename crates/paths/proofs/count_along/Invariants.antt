-- `paths::count_along`: what its loops keep. Assumes nothing.
use Rattle.std.proofs.Common.{◌≡◌, drop}
use Rattle.words.specs.Words.{words}
use Rattle.trees.proofs.Ways.{counted_all}
use Rattle.paths.proofs.count_along.Given as goal

abbrev pub invariant-loop-i : goal.invariant-loop-i
invariant-loop-i l = counted_all (words l.nodes) (drop l.i-index l.path) ≡ counted_all (words l.initial.nodes) l.path
