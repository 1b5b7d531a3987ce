-- `turns::work`: the goals that the search leaves. Assumes nothing.
use mathlib.Core.List.{List}
use Prim.Native.Nat.{ℕ}
use native.Mathlib.Omega.{arith}
use borrow.Author.Rules.{rules}
use Rattle.model.specs.Calls.{State}
use Rattle.trees.specs.Pieces.{pieces}
use Rattle.record.specs.Commands.{understood}
use Rattle.replies.specs.Programs.{Keeps}
use Rattle.stream.proofs.Feeding.{handed_on}
use Rattle.turns.specs.Places.{Sits, Works}
use Rattle.turns.specs.declared.Next.TheVariants as next
use Rattle.turns.proofs.Working.{ends_chunk, ends_done, ends_end, ends_work, sits_end, sits_over, works_chunk, works_end, works_on, works_over}
use Rattle.turns.proofs.work.Goals as goal

pub returns-then-got-gt0 : goal.returns-then-got-gt0
returns-then-got-gt0 g c = record { works = works_chunk g.R.Tree.kind (understood g.R.Program.made g.R.Tree.kind.axes) _ _ _ _ _ c.in-Read.is (c.requires.sits_2.ordered) _ _ _ _ c.digest-then-got-gt0.ensures.digests c.digest-then-got-gt0.ensures.more; sits = c.digest-then-got-gt0.ensures.sits; ends = ends_chunk _ _ _ c.in-Read.is c.if-got-gt0.true c.digest-then-got-gt0.ensures.more }

pub returns-in-Work : goal.returns-in-Work
returns-in-Work g c = record { works = works_on g.R.Tree.kind (understood g.R.Program.made g.R.Tree.kind.axes) _ _ _ _ _ c.in-Work.is _ _ _ _ c.digest.ensures.digests c.digest.ensures.more; sits = c.digest.ensures.sits; ends = ends_work _ _ _ c.in-Work.is c.digest.ensures.more }

pub returns-else-got-gt0-clause-works : goal.returns-else-got-gt0-clause-works
returns-else-got-gt0-clause-works g c =
    handed_on (λ (o : List ℕ). (a : State) → Keeps g.R.Tree.kind c.args.place.held (pieces c.args.head.now c.args.nodes.now c.args.links.now c.args.points.now) a → Works g.R.Tree.kind (understood g.R.Program.made g.R.Tree.kind.axes) a c.args.place c.args.got c.args.text.now (record { from = c.args.place.end; end = c.args.place.end; start = c.args.place.start; held = c.args.place.held; ready = c.finish.new.self.at; next = next.Done }) (pieces c.args.head.now c.args.nodes.now c.args.links.now c.args.points.now) (pieces c.args.head.now c.args.nodes.now c.args.links.now c.args.points.now) c.args.text.now c.args.out.now o) _ _
    (works_end g.R.Tree.kind (understood g.R.Program.made g.R.Tree.kind.axes) c.args.place c.args.got _ _ _ _ _ c.in-Read.is c.if-got-gt0.false (c.requires.sits_2.reads c.in-Read.is).1 (omega (arith, c.requires.room)) (c.finish.ensures.within (omega arith)) c.finish.ensures.puts) (search rules)

pub returns-else-got-gt0-clause-sits : goal.returns-else-got-gt0-clause-sits
returns-else-got-gt0-clause-sits g c =
    handed_on (λ (o : List ℕ). Sits g.R.Tree.kind (record { from = c.args.place.end; end = c.args.place.end; start = c.args.place.start; held = c.args.place.held; ready = c.finish.new.self.at; next = next.Done }) c.args.text.now o) _ _ (sits_end g.R.Tree.kind c.args.place _ c.args.out.now _ _ c.requires.sits_2.within (c.finish.ensures.within (omega arith)) c.finish.ensures.same.1) (search rules)

pub returns-else-got-gt0-clause-ends : goal.returns-else-got-gt0-clause-ends
returns-else-got-gt0-clause-ends g c = ends_end _ _ c.in-Read.is c.if-got-gt0.false

pub returns-in-Done : goal.returns-in-Done
returns-in-Done g c = record { works = works_over g.R.Tree.kind (understood g.R.Program.made g.R.Tree.kind.axes) _ _ _ _ _ c.in-Done.is; sits = sits_over g.R.Tree.kind c.args.place _ _ (c.requires.sits_2.ordered) (c.requires.sits_2.within); ends = ends_done _ _ c.in-Done.is }
