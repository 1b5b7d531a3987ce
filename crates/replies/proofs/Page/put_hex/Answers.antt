-- `replies::Page::put_hex`: the goals that the search leaves. Assumes nothing.
use mathlib.Core.Path.{refl, ◌∙◌}
use native.Mathlib.Omega.{arith}
use borrow.Author.Rules.{rules}
use Rattle.record.proofs.Digits.{low_glyph}
use Rattle.replies.proofs.Hexes.{hexing_start, hexing_step}
use Rattle.replies.proofs.Page.put_hex.Goals as goal

pub loop-k-init : goal.loop-k-init
loop-k-init c = hexing_start _ _ _ refl

pub loop-k-preserved : goal.loop-k-preserved
loop-k-preserved c = hexing_step _ _ _ _ _ _ _ _ _ c.loop-k.invariant c.loop-k-test.true refl (c.glyph.ensures ∙ low_glyph _ (search rules)) (c.glyph-in-loop-k.ensures ∙ low_glyph _ (omega arith))
