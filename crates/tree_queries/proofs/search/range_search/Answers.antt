-- `tree_queries::search::range_search`: the goals that the search leaves. Assumes nothing.
use mathlib.Core.Path.{refl}
use lib.Ieee.{of_bits}
use Rattle.model.specs.Calls.{number}
use Rattle.pieces.specs.Views.{seen}
use Rattle.trees.proofs.Queries.{radius_given, radius_nothing}
use Rattle.tree_queries.proofs.search.range_search.Goals as goal

pub returns-then-radius : goal.returns-then-radius
unfolding of_bits number
returns-then-radius g c = radius_nothing g.R.Tree.kind (seen c.args.tree.now) _ _ _ _ _ c.if-radius.true

pub returns : goal.returns
unfolding of_bits
returns g c = radius_given g.R.Tree.kind (seen c.args.tree.now) _ _ _ _ _ _ _ _ _ _ _ _ _ _ c.numbers.ensures (g.met.R.Tree.each_axis c.args.center) c.boundary.ensures refl c.if-radius.false refl c.collect-n.ensures c.hand_over.ensures
