-- `calls::create`: the goals that the search leaves. Assumes nothing.
use Rattle.trees.proofs.Creates.{creates_does}
use Rattle.calls.proofs.create.Goals as goal

pub returns : goal.returns
returns g c = creates_does g.R.Tree.kind _ _ _ _ _ c.create.ensures
