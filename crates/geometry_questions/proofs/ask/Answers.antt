-- `geometry_questions::ask`: the goals that the search leaves. Assumes nothing.
use mathlib.Core.Path.{refl, sym, ap, ◌∙◌}
use mathlib.Core.Bool.{true, false}
use native.Mathlib.Omega.{arith}
use Rattle.record.specs.Commands.{floats_after, whole_after}
use Rattle.record.proofs.Parts.{found_at}
use Rattle.geometry_answers.specs.Shown.{said_in}
use Rattle.geometry_questions.proofs.Lines.{ask_none, ask_not, ask_value}
use Rattle.geometry_questions.proofs.ask.Goals as goal

pub returns-then-n-lt1 : goal.returns-then-n-lt1
unfolding said_in
returns-then-n-lt1 c = let f = found_at _ _ _ _ c.unwrap_or-e.ensures c.find.ensures.found c.find.ensures.first c.find.ensures.nowhere in ask_none _ _ f.0 f.1 f.2 (λ k a b q. omega (arith, c.if-n-lt1.true, a, q))

pub returns-then-n-gt12 : goal.returns-then-n-gt12
unfolding said_in
returns-then-n-gt12 c = let f = found_at _ _ _ _ c.unwrap_or-e.ensures c.find.ensures.found c.find.ensures.first c.find.ensures.nowhere in ask_none _ _ f.0 f.1 f.2 (λ k a b q. omega (arith, c.if-n-gt12.true, b, q))

pub returns-in_err-i : goal.returns-in_err-i
unfolding said_in floats_after whole_after
returns-in_err-i c = let f = found_at _ _ _ _ c.unwrap_or-e.ensures c.find.ensures.found c.find.ensures.first c.find.ensures.nowhere in ap said_in c.from_residual.ensures ∙ ask_not _ _ f.0 f.1 f.2 true _ _ _ (sym c.if-child.true-raw) c.numbers_of.ensures (omega (arith, c.if-n-gt12.false)) refl c.in_err-i.was

pub returns-then-child : goal.returns-then-child
unfolding floats_after whole_after
returns-then-child c = let f = found_at _ _ _ _ c.unwrap_or-e.ensures c.find.ensures.found c.find.ensures.first c.find.ensures.nowhere in c.parts.ensures ∙ ask_value _ _ f.0 f.1 f.2 true _ _ _ _ (sym c.if-child.true-raw) c.numbers_of.ensures (omega (arith, c.if-n-gt12.false)) refl c.in_ok-i.was

pub returns-in_err-numbers_of : goal.returns-in_err-numbers_of
unfolding said_in floats_after whole_after
returns-in_err-numbers_of c = let f = found_at _ _ _ _ c.unwrap_or-e.ensures c.find.ensures.found c.find.ensures.first c.find.ensures.nowhere in ap said_in c.from_residual-in_err-numbers_of.ensures ∙ ask_not _ _ f.0 f.1 f.2 false _ _ _ (sym c.if-child.false-raw) c.numbers_of-2.ensures (omega (arith, c.if-n-gt12.false, c.if-n-lt1.false)) (omega (arith, c.if-n-lt1.false)) c.in_err-numbers_of.was

pub returns : goal.returns
unfolding floats_after whole_after
returns c = let f = found_at _ _ _ _ c.unwrap_or-e.ensures c.find.ensures.found c.find.ensures.first c.find.ensures.nowhere in c.one.ensures ∙ ask_value _ _ f.0 f.1 f.2 false _ _ _ _ (sym c.if-child.false-raw) c.numbers_of-2.ensures (omega (arith, c.if-n-gt12.false, c.if-n-lt1.false)) (omega (arith, c.if-n-lt1.false)) c.in_ok-numbers_of.was
