-- `tree_queries::search::knn_search`: the goals that the search leaves. Assumes nothing.
use mathlib.Core.Path.{refl}
use Rattle.model.specs.Calls.{number}
use Rattle.pieces.specs.Views.{seen}
use Rattle.trees.proofs.Queries.{nearest_given, nearest_nothing}
use Rattle.tree_queries.proofs.search.knn_search.Goals as goal

pub returns-then-k-eq0 : goal.returns-then-k-eq0
unfolding number
returns-then-k-eq0 g c = nearest_nothing g.R.Tree.kind (seen c.args.tree.now) _ _ _ _ _ c.if-k-eq0.true

pub returns : goal.returns
returns g c = nearest_given g.R.Tree.kind (seen c.args.tree.now) _ _ _ _ _ _ _ _ _ _ _ _ _ _ _ c.numbers.ensures (g.met.R.Tree.each_axis c.args.target) c.boundary.ensures c.if-k-eq0.false refl refl c.knn_search_helper.ensures.same.dist_length c.knn_search_helper.ensures.same.item_length c.knn_search_helper.ensures.seeks c.hand_over.ensures
