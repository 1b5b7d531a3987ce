-- `tree_insert::bulk::insert_bulk`: what its loops keep. Assumes nothing.
use mathlib.Core.Path.{◌≡◌}
use Prim.Native.Nat.{◌≤◌}
use lib.ListN.{length, drop}
use Rattle.trees.specs.Pieces.{lent, pieces}
use Rattle.trees.proofs.Bulks.{Bulking}
use Rattle.tree_insert.proofs.bulk.insert_bulk.Given as goal

abbrev pub invariant-loop-i : goal.invariant-loop-i
invariant-loop-i g l = (l.count ≤ l.i) × (length l.nodes ≡ length l.fn.nodes) × (length l.links ≡ length l.fn.links) × (length l.points ≡ length l.fn.points) × Bulking g.R.Tree.kind (pieces l.head l.fn.nodes l.fn.links l.fn.points) (lent g.R.Tree.kind.axes l.coords l.payloads) (pieces l.head l.nodes l.links l.points) l.count (drop l.i (lent g.R.Tree.kind.axes l.coords l.payloads))
