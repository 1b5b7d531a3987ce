-- `knn::insert`: what its loops keep, and what grows less. Assumes nothing.
use Rattle.knn.proofs.Arrays.{Moving}
use Rattle.knn.proofs.insert.Given as goal

abbrev pub invariant-loop-i : goal.invariant-loop-i
invariant-loop-i l = Moving l.initial.dist l.initial.item l.n l.distance l.place l.dist l.item l.i
