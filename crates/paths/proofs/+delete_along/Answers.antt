-- `paths::delete_along`: the goals that the search leaves. Assumes nothing.
use Rattle.std.proofs.Common.{subst, arith}
use Rattle.std.proofs.lemmas.List.{nil_from_length}
use Rattle.pool.specs.Held.{held}
use Rattle.pool.specs.Meanings.{Merges}
use Rattle.trees.proofs.Deletes.{along_cut, along_keep, along_merge}
use Rattle.paths.proofs.+delete_along.Goals as goal

pub returns-in_default-clause-tree : goal.returns-in_default-clause-tree
returns-in_default-clause-tree t c = λ at q. along_cut _ _ _ at q _ _ _ _ _ _ (nil_from_length _ c.in_default.ensures.cases) c.cut.ensures.tree

pub returns-then-most-from-clause-tree : goal.returns-then-most-from-clause-tree
returns-then-most-from-clause-tree t c = λ at q.
    along_keep _ _ _ at q _ _ _ _ _ _ _ _ _ _ _ c.in-Some.ensures.cases.0 c.group-k.ensures c.count-v.ensures c.count_down.ensures (c.delete_along.ensures.tree at q) (omega arith)

pub returns-clause-tree : goal.returns-clause-tree
returns-clause-tree t c = λ at q.
    along_merge _ _ _ at q _ _ _ _ _ _ _ _ _ _ _ c.in-Some.ensures.cases.0 c.group-k.ensures c.count-v.ensures c.count_down.ensures (c.delete_along.ensures.tree at q) _ (omega arith)
    (subst (λ w. Merges w c.args.order.now (held c.delete_along.new.pool) (held c.merge.new.pool) c.in-Some.i.now c.group-k.result) c.delete_along.ensures.same.ways c.merge.ensures.tree)
