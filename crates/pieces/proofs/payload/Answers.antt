-- `pieces::payload`: the goals that the search leaves. Assumes nothing.
use Rattle.trees.proofs.Heads.{payload_at}
use Rattle.words.specs.Words.{words}
use Rattle.pieces.proofs.payload.Goals as goal

pub returns : goal.returns
returns c = payload_at _ (words c.args.points.now) _ _ _ (c.base-from.ensures.value) (c.get.ensures)
