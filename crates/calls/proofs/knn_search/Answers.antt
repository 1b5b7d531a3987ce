-- `calls::knn_search`: the goals that the search leaves. Assumes nothing.
use Rattle.model.specs.Calls.{number}
use Rattle.pieces.specs.Views.{seen}
use Rattle.tree_sound.proofs.Calls.{searches_not, searches_held}
use Rattle.calls.proofs.knn_search.Goals as goal

pub returns-then-not-sound : goal.returns-then-not-sound
unfolding number
returns-then-not-sound g c = searches_not g.R.Tree.kind (seen c.args.tree.now) _ c.sound.ensures c.if-not-sound.true-raw _ _ _

pub returns : goal.returns
unfolding number
returns g c = searches_held g.R.Tree.kind (seen c.args.tree.now) _ c.sound.ensures c.if-not-sound.false-raw _ _ _ _ _ _ _ c.knn_search.ensures
