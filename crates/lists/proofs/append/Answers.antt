-- `lists::append`: the goals that the search leaves. Assumes nothing.
use borrow.Author.Rules.{rules}
use Rattle.pool.proofs.Steps.{appends_first, appends_later}
use Rattle.lists.proofs.append.Goals as goal

pub returns-then-b-eq0 : goal.returns-then-b-eq0
returns-then-b-eq0 c = let r = appends_first _ _ _ _ _ _ _ _ c.last-b.ensures c.if-b-eq0.true c.put.ensures c.set_field.ensures c.end_with.ensures in record { links_after = r.0; tree = r.1; same = search rules }

pub returns : goal.returns
returns c = let r = appends_later _ _ _ _ _ _ _ _ c.last-b.ensures c.if-b-eq0.false c.put.ensures c.put-2.ensures c.end_with-2.ensures in record { links_after = r.0; tree = r.1; same = search rules }
