-- `replies::Page::spell`: the goals that the search leaves. Assumes nothing.
use mathlib.Core.Path.{sym, ap, ◌∙◌}
use native.Mathlib.Omega.{arith}
use Prim.Native.Nat.{ℕ, ◌+◌}
use lib.ListN.{length-set}
use Rattle.record.proofs.Digits.{low_glyph}
use Rattle.record.proofs.Round.{spelt_length}
use Rattle.record.proofs.Spelling.{spelt_turn, spelt_done}
use Rattle.replies.proofs.Page.spell.Goals as goal

pub loop-i-preserved : goal.loop-i-preserved
loop-i-preserved c = let l = c.loop-i in
    (length-set _ _ _ ∙ l.invariant.0, (rw (c.glyph.ensures ∙ low_glyph _ (omega arith)) (spelt_turn 10 l.i l.left l.out c.args.self.now.at c.loop-i-test.true) ∙ l.invariant.1))

pub returns-clause-wrote : goal.returns-clause-wrote
returns-clause-wrote c = let l = c.loop-i in
    (ap (λ (j : ℕ). c.args.self.now.at + j) (sym (spelt_length 10 c.args.k c.args.n)), sym (spelt_done 10 l.left l.out c.args.self.now.at l.i c.loop-i-test.false) ∙ l.invariant.1)
