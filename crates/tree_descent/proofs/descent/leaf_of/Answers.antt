-- `tree_descent::descent::leaf_of`: the goals that the search leaves. Assumes nothing.
use native.Mathlib.Omega.{arith}
use Rattle.trees.proofs.Ways.{going_down, going_here, going_last, going_start}
use Rattle.tree_descent.proofs.descent.leaf_of.Goals as goal

pub loop-step-init : goal.loop-step-init
loop-step-init g c = going_start _ _ _ _ _ _ _ _ (omega arith)

pub returns-then-k-eq0 : goal.returns-then-k-eq0
returns-then-k-eq0 g c = let h = going_here _ _ _ _ _ _ _ _ _ _ _ _ _ c.loop-step.invariant c.group-k.ensures c.if-k-eq0.true in record { node = h.0; notes = h.1 }

pub loop-step-preserved : goal.loop-step-preserved
loop-step-preserved g c = going_down _ _ _ _ _ _ _ _ _ _ _ _ _ _ _ _ _ _ _ c.loop-step.invariant (omega (arith, c.loop-step-test.true)) c.group-k.ensures c.if-k-eq0.false c.child_index-c.ensures.value c.kid-index.ensures.value c.child-bounds.ensures c.note-depth.auto.found c.note-depth.ensures (omega arith)

pub returns : goal.returns
returns g c = let h = going_last _ _ _ _ _ _ _ _ _ _ _ _ c.loop-step.invariant (omega (arith, c.loop-step-test.false)) in record { node = h.0; notes = h.1 }
