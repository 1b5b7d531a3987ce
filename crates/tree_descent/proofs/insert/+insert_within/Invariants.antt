-- `tree_descent::insert::insert_within`: what grows less. Assumes nothing.
use Rattle.tree_descent.proofs.insert.+insert_within.Given as goal

abbrev pub decreases-insert_within : goal.decreases-insert_within
decreases-insert_within g l = l.node.levels
