-- `free::take_group`: the goals that the search leaves. Assumes nothing.
use Rattle.pool.proofs.Steps.{takes_group}
use Rattle.free.proofs.take_group.Goals as goal

pub returns : goal.returns
returns c = let r = takes_group _ _ _ _ _ _ c.get-k.ensures c.child-j.ensures.value c.group-v.ensures c.put.ensures in record { value = r.0; tree = r.1 }
