-- `free::give_place`: the goals that the search leaves. Assumes nothing.
use Rattle.pool.proofs.Steps.{gives_place}
use Rattle.free.proofs.give_place.Goals as goal

pub returns : goal.returns
returns c = let r = gives_place _ _ _ _ _ c.next-q.ensures c.put.ensures c.put-2.ensures in record { links_after = r.0; tree = r.1 }
