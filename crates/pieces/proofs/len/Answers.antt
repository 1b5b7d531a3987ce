-- `pieces::len`: the goals that the search leaves. Assumes nothing.
use Rattle.trees.specs.Pieces.{pieces}
use Rattle.trees.proofs.Queries.{len_told}
use Rattle.pieces.proofs.len.Goals as goal

pub returns : goal.returns
returns c = λ k h x p. len_told k (pieces h c.args.nodes.now x p) _ c.count.ensures
