-- `tree_search::nearest::by_distance`: what its loops keep. Assumes nothing.
use mathlib.Core.Path.{◌≡◌}
use Prim.Native.Nat.{ℕ, ◌<◌}
use lib.Ieee.{nan}
use lib.ListN.{length, get_or}
use Rattle.model.specs.Boxes.{node_distance, part}
use Rattle.tree_search.proofs.nearest.by_distance.Given as goal

abbrev pub invariant-loop-c : goal.invariant-loop-c
invariant-loop-c g l = (length l.dist ≡ 8) × ((j : ℕ) → j < l.c → get_or l.dist j nan ≡ node_distance (part (g.R.Region.sides l.bounds) j) (g.R.Point.Place.place l.target))
