-- `words::put`: the goals that the search leaves. Assumes nothing.
use mathlib.Core.Path.{ap, ◌∙◌}
use native.Mathlib.Omega.{arith}
use lib.Seq.{sets}
use Rattle.words.specs.Words.{words}
use Rattle.words.proofs.Words.{words_sets, words_set_out}
use Rattle.words.proofs.put.Goals as goal

pub returns-then-i-t : goal.returns-then-i-t
returns-then-i-t c = ap words (c.store.ensures ∙ ap (sets _ _) c.to_le_bytes.ensures) ∙ words_sets _ _ _ (omega arith) c.if-i-t.true

pub returns-else-i-t : goal.returns-else-i-t
returns-else-i-t c = words_set_out _ _ _ c.if-i-t.false
