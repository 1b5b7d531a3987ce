-- `tree_sound_leaves::leaf::check_leaf`: the goals that the search leaves. Assumes nothing.
use Rattle.trees.proofs.Checks.{leaf_over, leaf_places}
use Rattle.tree_sound_leaves.proofs.leaf.check_leaf.Goals as goal

pub returns-then-levels-n : goal.returns-then-levels-n
returns-then-levels-n g c = leaf_over _ _ _ _ _ _ _ _ _ _ _ c.count-n.ensures c.if-levels-n.true

pub returns : goal.returns
returns g c = leaf_places _ _ _ _ _ _ _ _ _ _ _ _ _ _ c.count-n.ensures c.if-levels-n.false c.first-head.ensures c.last-tail.ensures c.check_list.ensures
