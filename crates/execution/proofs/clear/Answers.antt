-- `execution::clear`: the goals that the search leaves. Assumes nothing.
use mathlib.Core.Path.{refl}
use native.Mathlib.Omega.{arith}
use Rattle.model.specs.Calls.{number}
use Rattle.replies.proofs.Answers.{answers_change, clear_bare, clear_stays}
use Rattle.execution.proofs.clear.Goals as goal

pub returns-clause-answers : goal.returns-clause-answers
unfolding number
returns-clause-answers g c = answers_change g.R.Tree.kind _ _ _ _ _ _ _ _ _ clear_bare (clear_stays g.R.Tree.kind) refl (c.clear.ensures _ _) (c.put_reply.ensures.puts.wrote (omega (arith, c.requires)))
