-- `lines::line_of`: the goals that the search leaves. Assumes nothing.
use Rattle.record.proofs.Streams.{begun_shorter, stands}
use Rattle.lines.proofs.line_of.Goals as goal

pub overflow_sub-from : goal.overflow_sub-from
overflow_sub-from c = begun_shorter _ _ _ c.unmarked-left.ensures

pub returns : goal.returns
returns c = stands _ _ _ _ c.unmarked-left.ensures c.stripped-record.ensures
