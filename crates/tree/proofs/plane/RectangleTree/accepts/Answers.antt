-- `tree::plane::RectangleTree::accepts`: the goals that the search leaves. Assumes nothing.
use Rattle.trees.proofs.Areas.{accept_more, accept_last}
use Rattle.tree.proofs.plane.RectangleTree.accepts.Goals as goal

pub returns-clause-value : goal.returns-clause-value
returns-clause-value c = accept_more _ _ _ _ c.accepts_side-x.ensures (accept_last _ _ c.accepts_side-y.ensures)
