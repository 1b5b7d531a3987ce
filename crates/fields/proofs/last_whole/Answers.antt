-- `fields::last_whole`: the goals that the search leaves. Assumes nothing.
use native.Mathlib.Omega.{arith}
use Rattle.record.proofs.Reading.{last_missing, last_is, last_more, last_end}
use Rattle.fields.proofs.last_whole.Goals as goal

pub returns-in-empty : goal.returns-in-empty
returns-in-empty c = last_end _ _ c.if-not-due.true (omega (arith, c.in-empty.len_below))

pub returns-in-len1-up : goal.returns-in-len1-up
returns-in-len1-up c = last_is _ _ _ c.if-due.true (λ e. omega (arith, c.in-len1-up.len_at_least)) c.whole_of.ensures

pub returns-in_default : goal.returns-in_default
returns-in_default c = last_missing _ _ c.if-not-due.false (omega (arith, c.in-empty.len_below))

pub returns-in_default-2 : goal.returns-in_default-2
returns-in_default-2 c = last_more _ _ c.if-due.false c.in-len1-up.len_at_least
