-- `tree_queries::search::range_search_bbox`: the goals that the search leaves. Assumes nothing.
use mathlib.Core.Path.{refl}
use Rattle.pieces.specs.Views.{seen}
use Rattle.trees.proofs.Queries.{box_given}
use Rattle.tree_queries.proofs.search.range_search_bbox.Goals as goal

pub returns : goal.returns
returns g c = box_given g.R.Tree.kind (seen c.args.tree.now) _ _ _ _ _ _ _ _ _ _ _ _ c.numbers.ensures c.boundary.ensures refl c.collect-n.ensures c.hand_over.ensures
