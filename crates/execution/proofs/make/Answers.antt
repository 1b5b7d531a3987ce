-- `execution::make`: the goals that the search leaves. Assumes nothing.
use mathlib.Core.Path.{ap, ◌∙◌}
use mathlib.Core.Bool.{Bool, ◌||◌}
use native.Mathlib.Omega.{arith}
use Rattle.replies.proofs.Answers.{answers_create}
use Rattle.execution.proofs.Doing.{made}
use Rattle.execution.proofs.make.Goals as goal

pub returns-clause-answers : goal.returns-clause-answers
returns-clause-answers g c = answers_create g.R.Tree.kind _ _ _ _ _ _ _ _ _ _ _ c.create-made.ensures (ap (λ (b : Bool). c.args.held || b) c.is_ok.ensures.value ∙ made _ _) (c.put_reply.ensures.puts.wrote (omega (arith, c.requires)))
