-- `lines::unmarked`: the goals that the search leaves. Assumes nothing.
use mathlib.Core.Path.{refl}
use Rattle.record.proofs.Streams.{begun_later, begun_is}
use Rattle.lines.proofs.unmarked.Goals as goal

pub returns-then-not-start : goal.returns-then-not-start
returns-then-not-start c = begun_later _ _ c.if-not-start.true

pub returns : goal.returns
returns c = begun_is _ _ _ _ _ _ c.if-not-start.false c.unwrap_or.ensures refl c.strip_prefix.ensures.cases
