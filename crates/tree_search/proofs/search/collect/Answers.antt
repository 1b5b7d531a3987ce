-- `tree_search::search::collect`: the goals that the search leaves. Assumes nothing.
use Rattle.trees.proofs.Collects.{collects_skip, said_no, said_yes}
use Rattle.tree_search.proofs.search.collect.Goals as goal

pub returns-then-not-reaches : goal.returns-then-not-reaches
returns-then-not-reaches g c = collects_skip _ _ _ _ _ _ _ _ _ _ (said_no _ _ c.reaches.ensures c.if-not-reaches.true-raw)

pub returns : goal.returns
returns g c = c.collect_within.ensures (said_yes _ _ c.reaches.ensures c.if-not-reaches.false-raw)
