-- `knn::worst`: the goals that the search leaves. Assumes nothing.

use Rattle.knn.proofs.Bar.{worst_room, worst_none, worst_last}
use Rattle.knn.proofs.worst.Goals as goal

pub returns-then-n-room : goal.returns-then-n-room
returns-then-n-room c = worst_room c.args.count c.args.k c.args.dist.now _ _ _ c.min.ensures c.min-room.ensures c.min-n.ensures c.if-n-room.true

pub returns-then-n-eq0 : goal.returns-then-n-eq0
returns-then-n-eq0 c = worst_none c.args.count c.args.k c.args.dist.now _ _ _ c.min.ensures c.min-room.ensures c.min-n.ensures c.if-n-room.false c.if-n-eq0.true

pub returns : goal.returns
returns c = worst_last c.args.count c.args.k c.args.dist.now _ _ _ c.min.ensures c.min-room.ensures c.min-n.ensures c.if-n-room.false c.if-n-eq0.false
