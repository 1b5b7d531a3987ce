-- `calls::len`: the goals that the search leaves. Assumes nothing.
use Rattle.model.specs.Calls.{number}
use Rattle.pieces.specs.Views.{seen}
use Rattle.tree_sound.proofs.Calls.{asks_not, asks_held}
use Rattle.calls.proofs.len.Goals as goal

pub returns-then-not-sound : goal.returns-then-not-sound
unfolding number
returns-then-not-sound g c = asks_not g.R.Tree.kind (seen c.args.tree.now) _ c.sound.ensures c.if-not-sound.true-raw _

pub returns : goal.returns
unfolding number
returns g c = asks_held g.R.Tree.kind (seen c.args.tree.now) _ c.sound.ensures c.if-not-sound.false-raw _ _ _ (c.len.ensures g.R.Tree.kind c.args.tree.now.head.now c.args.tree.now.links.now c.args.tree.now.points.now)
