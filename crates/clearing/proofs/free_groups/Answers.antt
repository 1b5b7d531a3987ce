-- `clearing::free_groups`: the goals that the search leaves. Assumes nothing.
use Rattle.std.proofs.Common.{refl, ◌∙◌, arith}
use Rattle.groups.proofs.Walks.{given_end, given_go, groups_freed}
use Rattle.clearing.proofs.free_groups.Goals as goal

pub loop-k-init : goal.loop-k-init
loop-k-init c = refl

pub loop-k-preserved : goal.loop-k-preserved
loop-k-preserved c = given_go _ _ _ _ _ (omega arith) refl c.give_group.ensures.nodes_after ∙ c.loop-k.invariant

pub returns : goal.returns
returns c = groups_freed _ _ _ _ _ _ c.put.auto.t c.rows-k.ensures c.put.ensures (given_end _ _ _ (omega arith) ∙ c.loop-k.invariant)
