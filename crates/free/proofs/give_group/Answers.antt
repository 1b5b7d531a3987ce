-- `free::give_group`: the goals that the search leaves. Assumes nothing.
use Rattle.pool.proofs.Steps.{gives_group}
use Rattle.free.proofs.give_group.Goals as goal

pub returns : goal.returns
returns c = let r = gives_group _ _ _ _ _ _ _ c.get-h.ensures c.child-j.ensures.value c.set_field.ensures c.put.ensures in record { nodes_after = r.0; tree = r.1 }
