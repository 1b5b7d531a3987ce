-- `words::put_float`: the goals that the search leaves. Assumes nothing.
use mathlib.Core.Path.{ap, ◌∙◌}
use native.Mathlib.Omega.{arith}
use lib.Seq.{sets}
use Rattle.words.specs.Words.{words, set_pair}
use Rattle.words.proofs.Pairs.{pair_sets, pair_not_stored}
use Rattle.words.proofs.put_float.Goals as goal

pub returns-then-i-t : goal.returns-then-i-t
returns-then-i-t c = ap words (c.store.ensures ∙ ap (sets _ _) c.to_le_bytes.ensures) ∙ pair_sets _ _ _ (omega arith) c.if-i-t.true ∙ ap (set_pair _ _) c.to_bits.ensures

pub returns-else-i-t : goal.returns-else-i-t
returns-else-i-t c = pair_not_stored _ _ _ c.if-i-t.false
