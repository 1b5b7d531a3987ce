-- `geometry_answers::put_numbers`: the goals that the search leaves. Assumes nothing.
use mathlib.Core.Path.{sym, ◌∙◌}
use native.Mathlib.Omega.{arith}
use Rattle.geometry_answers.specs.Shown.{shown}
use Rattle.geometry_answers.proofs.Texts.{numbers_length, numbers_none, numbers_step}
use Rattle.geometry_answers.proofs.put_numbers.Goals.{then-i-numbers, else-i-numbers}
use Rattle.geometry_answers.proofs.put_numbers.Goals as goal

pub loop-i-preserved : goal.loop-i-preserved
loop-i-preserved c = let l = c.loop-i in
    numbers_step _ _ _ _ _ _ c.loop-i-test.true (elim c.if-i-numbers.branch [ then-i-numbers w ↦ (λ h. w.end-is, λ h. absurd (omega (arith, w.if-i-numbers, h))) | else-i-numbers w ↦ (λ h. absurd (omega (arith, w.if-i-numbers, h)), λ h. w.end-is) ]) c.put.ensures l.invariant

pub returns-clause-out_after : goal.returns-clause-out_after
unfolding shown
returns-clause-out_after c = let l = c.loop-i in sym (numbers_none _ _ _ c.loop-i-test.false) ∙ l.invariant

pub returns-clause-value : goal.returns-clause-value
returns-clause-value c = sym (numbers_length _)
