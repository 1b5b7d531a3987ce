-- `sound::accepts_side`: the goals that the search leaves. Assumes nothing.
use Rattle.std.proofs.Common.{rules}
use Rattle.trees.proofs.Areas.{side_is}
use Rattle.sound.proofs.accepts_side.Goals as goal

pub returns : goal.returns
returns c = side_is c.args.tested.corner c.args.tested.extent (search rules) (search rules)
