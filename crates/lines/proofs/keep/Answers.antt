-- `lines::keep`: the goals that the search leaves. Assumes nothing.
use Rattle.record.proofs.Kept.{keeps}
use Rattle.lines.proofs.keep.Goals as goal

pub returns-clause-buf_after : goal.returns-clause-buf_after
returns-clause-buf_after c = (keeps _ _ _ _ _ _ c.min-end.ensures c.if-end-from.false c.min-many.ensures c.copy_within.ensures.after).0

pub returns-clause-value : goal.returns-clause-value
returns-clause-value c = (keeps _ _ _ _ _ _ c.min-end.ensures c.if-end-from.false c.min-many.ensures c.copy_within.ensures.after).1
