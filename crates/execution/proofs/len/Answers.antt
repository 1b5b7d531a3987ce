-- `execution::len`: the goals that the search leaves. Assumes nothing.
use mathlib.Core.Path.{refl}
use native.Mathlib.Omega.{arith}
use Rattle.replies.proofs.Answers.{answers_figure, len_figured}
use Rattle.execution.proofs.len.Goals as goal

pub returns-clause-answers : goal.returns-clause-answers
returns-clause-answers g c = answers_figure g.R.Tree.kind _ _ _ _ _ _ _ _ len_figured refl (c.len.ensures g.R.Tree.kind _ _ _) (c.put_figure.ensures.puts.wrote (omega (arith, c.requires)))
