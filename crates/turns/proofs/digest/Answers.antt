-- `turns::digest`: the goals that the search leaves. Assumes nothing.
use mathlib.Core.Path.{refl}
use Rattle.turns.specs.Places.{does_go_on}
use Rattle.record.specs.Commands.{understood}
use Rattle.turns.proofs.Working.{digests_ahead, digests_full, sits_ahead, sits_full}
use Rattle.turns.proofs.digest.Goals as goal

pub returns-then-fed : goal.returns-then-fed
unfolding does_go_on
returns-then-fed g c = record { digests = digests_full g.R.Tree.kind (understood g.R.Program.made g.R.Tree.kind.axes) _ _ _ _ _ _ _ _ _ _ _ _ _ c.feed-fed.ensures.feeds c.feed-fed.ensures.bounds c.requires c.feed-fed.auto.out; sits = sits_full g.R.Tree.kind (understood g.R.Program.made g.R.Tree.kind.axes) _ _ _ _ _ _ _ _ _ _ _ _ _ c.feed-fed.ensures.feeds c.feed-fed.ensures.bounds c.requires c.feed-fed.auto.out (c.feed-fed.ensures.stopped.1 c.if-fed.true); more = refl }

pub returns : goal.returns
unfolding does_go_on
returns g c = record { digests = digests_ahead g.R.Tree.kind (understood g.R.Program.made g.R.Tree.kind.axes) _ _ _ _ _ _ _ _ _ _ _ _ _ c.feed-fed.ensures.feeds c.feed-fed.ensures.bounds c.requires c.feed-fed.auto.out _ _ c.keep-end.ensures.buf_after c.keep-end.ensures.value (c.feed-fed.ensures.stopped.0 c.if-fed.false); sits = sits_ahead g.R.Tree.kind (understood g.R.Program.made g.R.Tree.kind.axes) _ _ _ _ _ _ _ _ _ _ _ _ _ c.feed-fed.ensures.feeds c.feed-fed.ensures.bounds c.requires c.feed-fed.auto.out _ _ c.keep-end.ensures.buf_after c.keep-end.ensures.value (c.feed-fed.ensures.stopped.0 c.if-fed.false); more = refl }
