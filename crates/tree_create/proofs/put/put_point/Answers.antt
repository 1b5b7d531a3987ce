-- `tree_create::put::put_point`: the goals that the search leaves. Assumes nothing.
use Rattle.tree_create.proofs.Puts.{point_put}
use Rattle.tree_create.proofs.put.put_point.Goals as goal

pub returns : goal.returns
returns g c = point_put _ _ _ _ _ _ _ _ c.axes-axes.ensures c.base-i.ensures.value c.write.ensures c.put.ensures
