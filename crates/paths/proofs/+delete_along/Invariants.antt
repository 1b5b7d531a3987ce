-- `paths::delete_along`: what grows less. Assumes nothing.
use Rattle.std.proofs.Common.{length}
use Rattle.paths.proofs.+delete_along.Given as goal

abbrev pub decreases-delete_along : goal.decreases-delete_along
decreases-delete_along l = length l.path.now
