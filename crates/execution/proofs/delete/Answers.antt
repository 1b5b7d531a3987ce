-- `execution::delete`: the goals that the search leaves. Assumes nothing.
use mathlib.Core.Path.{refl}
use native.Mathlib.Omega.{arith}
use Rattle.replies.proofs.Answers.{answers_change, delete_bare, delete_stays}
use Rattle.execution.proofs.delete.Goals as goal

pub returns-clause-answers : goal.returns-clause-answers
returns-clause-answers g c = answers_change g.R.Tree.kind _ _ _ _ _ _ _ _ _ (delete_bare _) (delete_stays g.R.Tree.kind _) refl c.delete-done.ensures (c.put_reply.ensures.puts.wrote (omega (arith, c.requires)))
