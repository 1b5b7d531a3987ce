-- `knn::insert`: the goals that the search leaves. Assumes nothing.
use mathlib.Core.Path.{sym, ◌∙◌}
use native.Mathlib.Omega.{arith}
use Rattle.knn.proofs.Arrays.{moving_start, moving_step, moving_stop, moving_end, moved}
use Rattle.knn.proofs.insert.Goals as goal

pub loop-i-init : goal.loop-i-init
loop-i-init c = moving_start _ _ _ _ _ c.requires.n_in_bounds c.requires.items

pub returns-then-not-less : goal.returns-then-not-less
returns-then-not-less c = moved _ _ _ _ _ c.requires.n_in_bounds c.requires.items _ _ _ c.loop-i.invariant (moving_stop _ _ _ _ _ _ _ _ c.loop-i.invariant c.loop-i-test.true (sym c.less.ensures ∙ c.if-not-less.true))

pub loop-i-preserved : goal.loop-i-preserved
loop-i-preserved c = moving_step _ _ _ _ _ _ _ _ c.loop-i.invariant c.loop-i-test.true (sym c.less.ensures ∙ c.if-not-less.false)

pub returns : goal.returns
returns c = moved _ _ _ _ _ c.requires.n_in_bounds c.requires.items _ _ _ c.loop-i.invariant (moving_end _ _ _ _ _ _ _ _ c.loop-i.invariant (omega (arith, c.loop-i-test)))
