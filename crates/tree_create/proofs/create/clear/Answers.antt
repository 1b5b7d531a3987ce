-- `tree_create::create::clear`: the goals that the search leaves. Assumes nothing.
use Rattle.trees.proofs.Creates.{clears}
use Rattle.tree_create.proofs.create.clear.Goals as goal

pub returns : goal.returns
returns g c = λ h p. clears g.R.Tree.kind g.R.Tree.groups g.met.R.Tree.named g.met.R.Tree.regular _ _ _ c.empty.auto.nodes c.empty.auto.links c.empty.ensures
