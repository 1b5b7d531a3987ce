-- `answers::put_float`: the goals that the search leaves. Assumes nothing.
use mathlib.Core.Path.{ap, ◌∙◌}
use native.Mathlib.Omega.{arith}
use lib.Seq.{sets}
use Rattle.trees.specs.Pieces.{bytes}
use Rattle.answers.proofs.Writes.{bytes8_is}
use Rattle.answers.proofs.put_float.Goals as goal

pub returns : goal.returns
returns c = c.store.ensures ∙ ap (sets _ _) (c.to_le_bytes.ensures ∙ bytes8_is _ ∙ ap (bytes 8) c.to_bits.ensures)
