-- `paths::count_along`: the goals that the search leaves. Assumes nothing.
use Rattle.std.proofs.Common.{refl, ◌∙◌, arith}
use Rattle.trees.proofs.Ways.{counted_end, counted_step}
use Rattle.paths.proofs.count_along.Goals as goal

pub loop-i-init : goal.loop-i-init
loop-i-init c = refl

pub loop-i-preserved : goal.loop-i-preserved
loop-i-preserved c = counted_step c.args.path.now _ _ c.loop-i.i-index (omega arith) c.count_up.ensures ∙ c.loop-i.invariant

pub returns : goal.returns
returns c = counted_end c.args.path.now _ c.loop-i.i-index (omega arith) ∙ c.loop-i.invariant
