-- `replies::Page::finish`: the goals that the search leaves. Assumes nothing.
use Rattle.model.specs.Calls.{number}
use Rattle.replies.proofs.Feeds.{finished_none, finished_some}
use Rattle.replies.proofs.Page.finish.Goals as goal

pub returns-then-left-gt0-clause-puts : goal.returns-then-left-gt0-clause-puts
unfolding number
returns-then-left-gt0-clause-puts c = finished_some _ _ _ _ _ _ _ c.unmarked-left.ensures c.if-left-gt0.true c.put_reply.ensures.puts

pub returns-else-left-gt0-clause-puts : goal.returns-else-left-gt0-clause-puts
returns-else-left-gt0-clause-puts c = finished_none _ _ _ _ _ c.unmarked-left.ensures c.if-left-gt0.false
