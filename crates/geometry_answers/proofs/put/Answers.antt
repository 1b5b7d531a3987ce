-- `geometry_answers::put`: the goals that the search leaves. Assumes nothing.
use mathlib.Core.Path.{sym, ◌∙◌}
use native.Mathlib.Omega.{arith}
use Rattle.record.proofs.Digits.{low_glyph}
use Rattle.record.proofs.Spelling.{spelt_turn, spelt_done}
use Rattle.geometry_answers.proofs.Texts.{number_put}
use Rattle.geometry_answers.proofs.put.Goals as goal

pub loop-k-preserved : goal.loop-k-preserved
loop-k-preserved c = let l = c.loop-k in rw (c.glyph.ensures ∙ low_glyph _ (omega arith)) (spelt_turn 16 l.k l.left l.out _ c.loop-k-test.true) ∙ l.invariant

pub returns : goal.returns
returns c = let l = c.loop-k in number_put _ _ _ _ _ _ c.to_bits-left.ensures (sym (spelt_done 16 l.left l.out _ l.k c.loop-k-test.false) ∙ l.invariant)
