-- `groups::split`: the goals that the search leaves. Assumes nothing.
use Rattle.std.proofs.Common.{rules}
use Rattle.groups.proofs.Walks.{splits, splits_none}
use Rattle.groups.proofs.split.Goals as goal

pub returns-then-get-eq0 : goal.returns-then-get-eq0
returns-then-get-eq0 c = let r = splits_none _ _ _ _ _ _ c.get.ensures c.if-get-eq0.true in record { value = r.0; tree = r.1; same = search rules }

pub returns : goal.returns
returns c =
    let r = splits _ _ _ _ _ _ _ _ _ _ _ _ _ c.get.ensures c.if-get-eq0.false c.first-head.ensures c.take_group-k.ensures.value.0 c.take_group-k.ensures.value.1 c.child.ensures.value c.clear_nodes.ensures c.set_field.ensures c.deal.ensures.links_after in
    record { value = r.0; tree = r.1; same = search rules }
