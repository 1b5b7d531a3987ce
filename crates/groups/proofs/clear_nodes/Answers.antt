-- `groups::clear_nodes`: the goals that the search leaves. Assumes nothing.
use Rattle.std.proofs.Common.{ap, ◌∙◌, arith}
use Rattle.groups.proofs.Walks.{cleared_end, cleared_go}
use Rattle.pool.specs.Writes.{cleared_from}
use Rattle.words.specs.Words.{words}
use Rattle.groups.proofs.clear_nodes.Goals as goal

pub loop-j-init : goal.loop-j-init
loop-j-init c = ap (λ f. cleared_from f (words c.args.nodes.now) c.args.i) (omega arith)

pub loop-j-preserved : goal.loop-j-preserved
loop-j-preserved c = cleared_go _ _ _ _ _ (omega arith) c.clear_node.ensures ∙ c.loop-j.invariant

pub returns : goal.returns
returns c = cleared_end _ _ _ (omega arith) ∙ c.loop-j.invariant
