-- `knn::order_children`: the goals that the search leaves. Assumes nothing.
use mathlib.Core.Path.{refl, ◌∙◌}
use native.Mathlib.Omega.{arith}
use Rattle.knn.proofs.Children.{ordering_start, ordering_step, ordering_done}
use Rattle.knn.proofs.order_children.Goals as goal

pub loop-i-init : goal.loop-i-init
loop-i-init c = (refl, refl, omega arith, omega (arith, c.min-n.ensures, c.min.ensures), omega (arith, c.min-n.ensures, c.min.ensures), omega (arith, c.min-n.ensures), ordering_start _ _ c.slice_known-1.given)

pub loop-i-preserved : goal.loop-i-preserved
loop-i-preserved c = (c.insert.auto.dist ∙ c.loop-i.invariant.0, c.insert.auto.item ∙ c.loop-i.invariant.1, omega (arith, c.loop-i-test.true), c.loop-i.invariant.3, c.loop-i.invariant.4, c.loop-i.invariant.5, ordering_step _ _ c.slice_known-1.given _ _ _ _ _ c.loop-i.invariant.6 (omega (arith, c.loop-i-test.true, c.loop-i.invariant.3)) (omega (arith, c.loop-i-test.true, c.loop-i.invariant.4)) c.insert.ensures)

pub returns : goal.returns
returns c = ordering_done _ _ c.slice_known-1.given _ _ _ _ _ c.loop-i.invariant.6 (omega (arith, c.loop-i-test.false, c.loop-i.invariant.2)) c.min-n.ensures c.min.ensures
