-- `lists::cut`: the goals that the search leaves. Assumes nothing.
use borrow.Author.Rules.{rules}
use Rattle.pool.proofs.Steps.{cuts_first, cuts_later}
use Rattle.lists.proofs.cut.Goals as goal

pub returns-then-b-eq0 : goal.returns-then-b-eq0
returns-then-b-eq0 c = let r = cuts_first _ _ _ _ _ _ _ _ _ c.next-after.ensures c.count_down.ensures c.relast.ensures c.if-b-eq0.true c.set_field.ensures in record { links_after = r.0; tree = r.1; same = search rules }

pub returns : goal.returns
returns c = let r = cuts_later _ _ _ _ _ _ _ _ _ c.next-after.ensures c.count_down.ensures c.relast.ensures c.if-b-eq0.false c.put.ensures in record { links_after = r.0; tree = r.1; same = search rules }
