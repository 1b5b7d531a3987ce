-- `calls::insert`: the goals that the search leaves. Assumes nothing.
use Rattle.model.specs.Calls.{number}
use Rattle.trees.specs.Pieces.{pieces}
use Rattle.tree_sound.proofs.Calls.{does_not, does_held}
use Rattle.calls.proofs.insert.Goals as goal

pub returns-then-not-sound : goal.returns-then-not-sound
unfolding number
returns-then-not-sound g c = does_not g.R.Tree.kind (pieces c.args.head.now c.args.nodes.now c.args.links.now c.args.points.now) _ c.sound.ensures c.if-not-sound.true-raw _ tt

pub returns : goal.returns
unfolding number
returns g c = does_held g.R.Tree.kind (pieces c.args.head.now c.args.nodes.now c.args.links.now c.args.points.now) _ c.sound.ensures c.if-not-sound.false-raw _ _ _ _ c.insert.ensures
