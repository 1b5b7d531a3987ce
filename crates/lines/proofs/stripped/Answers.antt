-- `lines::stripped`: the goals that the search leaves. Assumes nothing.
use native.Mathlib.Omega.{arith}
use borrow.Author.Rules.{rules}
use Rattle.record.proofs.Streams.{strip_none, strip_return, strip_other}
use Rattle.lines.proofs.stripped.Goals as goal

pub returns-in-13 : goal.returns-in-13
returns-in-13 c = strip_return _ (search rules)

pub returns-in_default : goal.returns-in_default
returns-in_default c = strip_none _ (omega (arith, c.in_default.len_below))

pub returns-in_default-2 : goal.returns-in_default-2
returns-in_default-2 c = strip_other _ (search rules)
