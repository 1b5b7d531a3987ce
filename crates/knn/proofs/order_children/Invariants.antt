-- `knn::order_children`: what its loops keep, and what grows less. Assumes nothing.
use mathlib.Core.Path.{◌≡◌}
use Prim.Native.Nat.{◌≤◌}
use lib.ListN.{length}
use Rattle.knn.proofs.Children.{Ordering}
use Rattle.knn.proofs.order_children.Given as goal

abbrev pub invariant-loop-i : goal.invariant-loop-i
invariant-loop-i l = (length l.dist ≡ length l.initial.dist) × (length l.item ≡ length l.initial.item) × (l.i ≤ l.n) × (l.n ≤ length l.initial.dist) × (l.n ≤ length l.initial.item) × (l.n ≤ 8) × Ordering l.initial.dist l.initial.item l.dist l.item l.i
