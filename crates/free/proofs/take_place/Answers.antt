-- `free::take_place`: the goals that the search leaves. Assumes nothing.
use Rattle.pool.proofs.Steps.{takes_place}
use Rattle.free.proofs.take_place.Goals as goal

pub returns : goal.returns
returns c = let r = takes_place _ _ _ _ c.next-p.ensures c.next-q.ensures c.put.ensures in record { value = r.0; tree = r.1 }
