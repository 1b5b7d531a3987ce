-- `tree_search::search::collect_within`: the goals that the search leaves. Assumes nothing.
use mathlib.Core.Path.{refl, ◌∙◌}
use Rattle.trees.proofs.Collects.{collects_skip, collects_list, collects_none, rows_start, rows_step, rows_end, said_no, said_yes}
use native.Mathlib.Omega.{arith}
use Rattle.tree_search.proofs.search.+collect_within.Goals as goal

pub returns-then-k-eq0 : goal.returns-then-k-eq0
returns-then-k-eq0 g t c = λ yes. collects_list _ _ _ _ _ _ _ _ _ _ _ _ _ _ yes c.group-k.ensures c.if-k-eq0.true c.first-head.ensures c.collect_list.ensures

pub returns-then-levels-eq0 : goal.returns-then-levels-eq0
returns-then-levels-eq0 g t c = λ yes. collects_none _ _ _ _ _ _ _ _ _ _ _ c.group-k.ensures c.if-k-eq0.false c.if-levels-eq0.true

pub loop-c-init : goal.loop-c-init
loop-c-init g t c = (refl, rows_start _ _ _ _ _ _ _ _ _ _)

pub loop-c-preserved-then-not-reaches : goal.loop-c-preserved-then-not-reaches
loop-c-preserved-then-not-reaches g t c = (c.loop-c.invariant.0, rows_step _ _ _ _ _ _ _ _ _ _ _ _ _ _ _ _ _ c.loop-c.invariant.1 (omega (arith, c.loop-c-test.true, c.ways-c-end.ensures)) refl c.child-part.ensures refl (collects_skip _ _ _ _ _ _ _ _ _ _ (said_no _ _ c.reaches.ensures c.if-not-reaches.true-raw)))

pub loop-c-preserved : goal.loop-c-preserved
loop-c-preserved g t c = (c.collect_within-m.auto.found ∙ c.loop-c.invariant.0, rows_step _ _ _ _ _ _ _ _ _ _ _ _ _ _ _ _ _ c.loop-c.invariant.1 (omega (arith, c.loop-c-test.true, c.ways-c-end.ensures)) c.kid.ensures.value c.child-part.ensures c.collect_within-m.auto.found (c.collect_within-m.ensures (said_yes _ _ c.reaches.ensures c.if-not-reaches.false-raw)))

pub returns : goal.returns
returns g t c = λ yes. rows_end _ _ _ _ _ _ _ _ _ _ _ _ _ _ yes c.group-k.ensures c.if-levels-eq0.false c.loop-c.invariant.1 (omega (arith, c.loop-c-test.false, c.ways-c-end.ensures)) c.if-k-eq0.false
