-- `sound::claim`: the goals that the search leaves. Assumes nothing.
use Rattle.trees.proofs.Marks.{claims_yes}
use Rattle.sound.proofs.claim.Goals as goal

pub returns : goal.returns
returns c = claims_yes _ _ c.if-i-marks.false c.if-marks-i-ne0.false
