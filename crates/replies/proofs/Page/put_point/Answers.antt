-- `replies::Page::put_point`: the goals that the search leaves. Assumes nothing.
use mathlib.Core.Path.{refl, ◌∙◌}
use Rattle.replies.proofs.Points.{placing_step, placing_end}
use Rattle.replies.proofs.Page.put_point.Goals as goal

pub loop-a-preserved : goal.loop-a-preserved
loop-a-preserved c = ((c.put_hex.ensures.same.0 ∙ c.loop-a.invariant.0.0, c.put_hex.ensures.same.1 ∙ c.loop-a.invariant.0.1), placing_step _ _ _ _ _ _ _ _ _ _ c.loop-a.invariant.1 c.loop-a-test.true c.put_hex.ensures.same.1 c.put_hex.ensures.wrote c.put_hex.ensures.end)

pub returns-clause-wrote : goal.returns-clause-wrote
returns-clause-wrote c = placing_end c.args.axes c.args.coords.now _ c.args.self.now.out.now _ _ _ c.args.payloads.now _ _ _ _ _ c.loop-a.invariant.1 c.loop-a-test.false refl c.get-m.ensures c.put_whole.ensures.wrote
