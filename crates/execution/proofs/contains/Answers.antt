-- `execution::contains`: the goals that the search leaves. Assumes nothing.
use mathlib.Core.Path.{refl}
use native.Mathlib.Omega.{arith}
use Rattle.replies.proofs.Answers.{answers_figure, contains_figured}
use Rattle.execution.proofs.Doing.{figure_is}
use Rattle.execution.proofs.contains.Goals as goal

pub returns-clause-answers : goal.returns-clause-answers
returns-clause-answers g c = answers_figure g.R.Tree.kind _ _ _ _ _ _ _ _ (contains_figured _) refl (figure_is _ _ _ _ _ c.from.ensures c.contains-yes.ensures) (c.put_figure.ensures.puts.wrote (omega (arith, c.requires)))
