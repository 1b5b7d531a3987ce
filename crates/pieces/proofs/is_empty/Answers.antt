-- `pieces::is_empty`: the goals that the search leaves. Assumes nothing.
use Rattle.pieces.proofs.Queries.{empty_told}
use Rattle.pieces.proofs.is_empty.Goals as goal

pub returns : goal.returns
returns c = empty_told _ _ c.count-held.ensures
