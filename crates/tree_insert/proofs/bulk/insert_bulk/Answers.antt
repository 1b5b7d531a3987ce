-- `tree_insert::bulk::insert_bulk`: the goals that the search leaves. Assumes nothing.
use mathlib.Core.Path.{◌≡◌, refl, sym, ap, ◌∙◌}
use Prim.Native.Nat.{ℕ, ◌*◌}
use native.Mathlib.Omega.{arith}
use borrow.Author.Tests.{eqb-true, eqb-false}
use Rattle.model.specs.Calls.{number}
use Rattle.words.specs.Words.{pairs, words}
use Rattle.pieces.specs.Replies.{number_in, reply_of}
use Rattle.pieces.proofs.Replies.{some_number}
use Rattle.trees.specs.Points.{floats}
use Rattle.trees.proofs.Bulks.{bulk_end, bulk_next, bulk_stop, bulking_start}
use Rattle.tree_insert.proofs.bulk.insert_bulk.Goals as goal

pub loop-i-init : goal.loop-i-init
loop-i-init g c = (omega arith, refl, refl, refl, bulking_start _ _ _)

pub loop-i-preserved-then-is_passed : goal.loop-i-preserved-then-is_passed
loop-i-preserved-then-is_passed g c =
    let e : number_in c.insert-done.result ≡ 1 = ap number_in c.in-Err.is ∙ eqb-true (number (reply_of c.in-Err.refusal)) 1 (sym c.is_passed.ensures ∙ c.if-is_passed.true) in (
      omega (arith, c.loop-i.invariant.0),
      c.insert-done.auto.nodes ∙ c.loop-i.invariant.1,
      c.insert-done.auto.links ∙ c.loop-i.invariant.2,
      c.insert-done.auto.points ∙ c.loop-i.invariant.3,
      bulk_next _ _ _ _ _ _ _ _ _ _ _ _ _ c.loop-i.invariant.4 (omega (arith, c.loop-i-test.true, c.lent_count-i-end.ensures))
          (c.read-at.ensures ∙ ap (λ (a : ℕ). floats g.R.Tree.kind.axes (pairs (words c.args.coords.now)) (a * c.loop-i.i)) c.axes-axes.ensures) c.get-mark.ensures c.insert-done.ensures (omega (arith, e)) (omega (arith, e)),
    )

pub returns-in-Err : goal.returns-in-Err
returns-in-Err g c =
    bulk_stop _ _ _ _ _ _ _ _ _ _ _ _ c.loop-i.invariant.4 (omega (arith, c.loop-i-test.true, c.lent_count-i-end.ensures))
    (c.read-at.ensures ∙ ap (λ (a : ℕ). floats g.R.Tree.kind.axes (pairs (words c.args.coords.now)) (a * c.loop-i.i)) c.axes-axes.ensures) c.get-mark.ensures
    c.in-Err.ensures
    (omega (arith, some_number c.in-Err.refusal, eqb-false (number (reply_of c.in-Err.refusal)) 1 (sym c.is_passed.ensures ∙ c.if-is_passed.false)))

pub loop-i-preserved : goal.loop-i-preserved
unfolding number
loop-i-preserved g c =
    let e : number_in c.insert-done.result ≡ 0 = ap number_in c.in_default.is in (
      omega (arith, c.loop-i.invariant.0),
      c.insert-done.auto.nodes ∙ c.loop-i.invariant.1,
      c.insert-done.auto.links ∙ c.loop-i.invariant.2,
      c.insert-done.auto.points ∙ c.loop-i.invariant.3,
      bulk_next _ _ _ _ _ _ _ _ _ _ _ _ _ c.loop-i.invariant.4 (omega (arith, c.loop-i-test.true, c.lent_count-i-end.ensures))
          (c.read-at.ensures ∙ ap (λ (a : ℕ). floats g.R.Tree.kind.axes (pairs (words c.args.coords.now)) (a * c.loop-i.i)) c.axes-axes.ensures) c.get-mark.ensures c.insert-done.ensures (omega (arith, e)) (omega (arith, e)),
    )

pub returns : goal.returns
unfolding number
returns g c = bulk_end _ _ _ _ _ _ _ c.loop-i.i c.loop-i.invariant.4 (omega (arith, c.loop-i-test.false, c.lent_count-i-end.ensures))
