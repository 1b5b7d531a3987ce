-- `sound::walk_free`: the goals that the search leaves. Assumes nothing.
use mathlib.Core.Path.{ap}
use mathlib.Core.Bool.{not}
use native.Mathlib.Omega.{arith}
use Rattle.trees.proofs.Marks.{freeing_met, freeing_end}
use Rattle.sound.proofs.Marks.{walk_start, walk_step, walk_done}
use Rattle.sound.proofs.walk_free.Goals as goal

pub loop-init : goal.loop-init
loop-init g c = record {
  fits = omega arith;
  walked = λ next follows. walk_start _ _ _ (follows 0 _ (omega arith) c.after-p.ensures);
}

pub returns-then-p-eq0 : goal.returns-then-p-eq0
returns-then-p-eq0 g c = λ next follows. freeing_end _ _ _ _ _ _ _ (c.loop.invariant.walked next follows) c.if-p-eq0.true

pub returns-then-not-claim : goal.returns-then-not-claim
returns-then-not-claim g c = λ next follows. freeing_met _ _ _ _ _ _ _ (c.loop.invariant.walked next follows) _ _ _ c.if-p-eq0.false c.claim.ensures (ap not c.if-not-claim.true)

pub loop-preserved : goal.loop-preserved
loop-preserved g c = record {
  fits = omega arith;
  walked = λ next follows. walk_step _ _ _ _ _ (c.loop.invariant.walked next follows) _ _ _ c.if-p-eq0.false (omega (arith, c.loop-test.true)) c.claim.ensures c.if-not-claim.false (follows _ _ c.loop.invariant.fits c.after-p-in-loop.ensures);
}

pub returns : goal.returns
returns g c = λ next follows. walk_done _ _ _ _ _ (c.loop.invariant.walked next follows) (omega (arith, c.loop-test.false))
