-- `fields::first_float`: the goals that the search leaves. Assumes nothing.
use mathlib.Core.Path.{◌∙◌}
use native.Mathlib.Omega.{arith}
use Rattle.record.proofs.Reading.{first_short, first_other, first_float}
use Rattle.fields.proofs.first_float.Goals as goal

pub returns-in_err-float : goal.returns-in_err-float
returns-in_err-float c = c.from_residual.ensures ∙ first_short _ c.in_err-float.ensures.cases

pub returns-in-empty : goal.returns-in-empty
returns-in-empty c = let h = c.in_ok-float.ensures.cases in first_float _ _ _ _ c.number_of.ensures h.0 h.1 h.2 (λ l. absurd (omega (arith, l, c.in-empty.len_below)))

pub returns-in-len1-up : goal.returns-in-len1-up
returns-in-len1-up c = first_other _ _ c.in_ok-float.ensures.cases.2 c.in-len1-up.len_at_least c.if-c-ne44.true

pub returns-in_default : goal.returns-in_default
returns-in_default c = let h = c.in_ok-float.ensures.cases in first_float _ _ _ _ c.number_of-in_default.ensures h.0 h.1 h.2 (λ l. c.if-c-ne44.false)
