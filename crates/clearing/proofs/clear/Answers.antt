-- `clearing::clear`: the goals that the search leaves. Assumes nothing.
use Rattle.std.proofs.Common.{rules}
use Rattle.groups.proofs.Walks.{empties}
use Rattle.clearing.proofs.clear.Goals as goal

pub returns : goal.returns
returns c = let r = empties _ _ _ _ _ _ _ c.free_groups.ensures c.clear_node.ensures c.free_places.ensures in record { links_after = r.0; tree = r.1; same = search rules }
