-- `sound::children_count`: the goals that the search leaves. Assumes nothing.
use lib.ListN.{get_or}
use mathlib.Core.Path.{ap, ◌∙◌}
use Rattle.trees.proofs.Checks.{counts_step, counts_end}
use native.Mathlib.Omega.{arith}
use mathlib.Core.Path.{ap}
use Rattle.trees.proofs.Checks.{counts_step, counts_end}
use Prim.Native.Nat.{◌+◌, ◌*◌}
use Rattle.words.specs.Words.{words}
use Rattle.sound.proofs.children_count.Goals as goal

pub loop-c-preserved : goal.loop-c-preserved
loop-c-preserved c = (omega arith, omega (arith, c.loop-c.invariant.1), omega (arith, c.loop-c.invariant.2, counts_step c.args.ways (words c.args.nodes.now) c.args.k _ c.loop-c-test.true, c.count.ensures ∙ ap (λ i. get_or (words c.args.nodes.now) (4 * i + 3) 0) c.child-i.ensures.value))

pub returns : goal.returns
returns c = omega (arith, c.loop-c.invariant.2, counts_end c.args.ways (words c.args.nodes.now) c.args.k _ c.loop-c-test.false)
