-- `tree_descent::descent::need`: the goals that the search leaves. Assumes nothing.
use native.Mathlib.Omega.{arith}
use Rattle.trees.proofs.Collects.{said_no, said_yes}
use Rattle.trees.proofs.Descents.{counting_apart, counting_end, counting_on, counting_start, needs_room}
use Rattle.tree_descent.proofs.descent.need.Goals as goal
use mathlib.Core.Path.{refl}

pub returns-then-count-capacity : goal.returns-then-count-capacity
returns-then-count-capacity g c = needs_room _ _ _ _ _ _ _ _ _ c.count.ensures c.if-count-capacity.true

pub loop-more-init : goal.loop-more-init
loop-more-init g c = counting_start _ _ _ _ _ _ _ _ _ (omega arith)

pub returns-then-not-all_go : goal.returns-then-not-all_go
returns-then-not-all_go g c = counting_apart _ _ _ _ _ _ _ _ _ _ _ _ _ _ _ c.loop-more.invariant (omega (arith, c.loop-more-test.true)) c.first-head.ensures c.child_index-c.ensures.value c.all_go.ensures (said_no _ _ refl c.if-not-all_go.true-raw) c.count.ensures c.if-count-capacity.false

pub loop-more-preserved : goal.loop-more-preserved
loop-more-preserved g c = counting_on _ _ _ _ _ _ _ _ _ _ _ _ _ _ _ _ c.loop-more.invariant (omega (arith, c.loop-more-test.true)) c.first-head.ensures c.child_index-c.ensures.value c.all_go.ensures (said_yes _ _ refl c.if-not-all_go.false-raw) c.child-bounds.ensures (omega arith)

pub returns : goal.returns
returns g c = counting_end _ _ _ _ _ _ _ _ _ _ _ _ _ c.loop-more.invariant (omega (arith, c.loop-more-test.false)) (omega (arith, c.loop-more-test.false, c.loop-more.auto.more-end)) c.count.ensures c.if-count-capacity.false
