-- `execution::insert`: the goals that the search leaves. Assumes nothing.
use mathlib.Core.Path.{refl}
use native.Mathlib.Omega.{arith}
use Rattle.replies.proofs.Answers.{answers_change, insert_bare, insert_stays}
use Rattle.execution.proofs.insert.Goals as goal

pub returns-clause-answers : goal.returns-clause-answers
returns-clause-answers g c = answers_change g.R.Tree.kind _ _ _ _ _ _ _ _ _ (insert_bare _) (insert_stays g.R.Tree.kind _) refl c.insert-done.ensures (c.put_reply.ensures.puts.wrote (omega (arith, c.requires)))
