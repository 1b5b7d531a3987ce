-- `replies::Page::put_points`: the goals that the search leaves. Assumes nothing.
use mathlib.Core.Path.{◌∙◌}
use Rattle.replies.proofs.Points.{pointing_step, pointing_end}
use Rattle.replies.proofs.Page.put_points.Goals as goal

pub loop-j-preserved : goal.loop-j-preserved
loop-j-preserved c = ((c.put_point.ensures.same.0 ∙ c.loop-j.invariant.0.0, c.put_point.ensures.same.1 ∙ c.loop-j.invariant.0.1), pointing_step _ _ _ _ _ _ _ _ _ _ _ c.loop-j.invariant.1 c.loop-j-test.true c.put_point.ensures.same.1 c.put_point.ensures.wrote c.put_point.ensures.end)

pub returns-clause-wrote : goal.returns-clause-wrote
returns-clause-wrote c = pointing_end _ _ _ _ _ _ _ _ _ c.loop-j.invariant.1 c.loop-j-test.false
