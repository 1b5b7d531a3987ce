-- `tree_sound_leaves::leaf::check_list`: the goals that the search leaves. Assumes nothing.
use mathlib.Core.Path.{ap, ◌∙◌}
use native.Mathlib.Omega.{arith}
use Rattle.trees.proofs.Areas.{lies}
use Rattle.trees.proofs.Checks.{listing_start, listing_short, listing_met, listing_out, listing_step, listing_end}
use Rattle.tree_sound_leaves.proofs.leaf.check_list.Goals as goal

pub loop-init : goal.loop-init
loop-init g c = listing_start _ _ _ _ _ _ _ _ (omega arith)

pub returns-then-p-eq0 : goal.returns-then-p-eq0
returns-then-p-eq0 g c = listing_short _ _ _ _ _ _ _ _ _ _ _ c.loop.invariant c.if-p-eq0.true (omega (arith, c.loop-test.true))

pub returns-then-not-claim : goal.returns-then-not-claim
returns-then-not-claim g c = listing_met _ _ _ _ _ _ _ _ _ _ _ c.loop.invariant _ _ _ c.if-p-eq0.false c.claim.ensures c.if-not-claim.true-raw

pub returns-then-not-lies : goal.returns-then-not-lies
returns-then-not-lies g c = listing_out _ _ _ _ _ _ _ _ _ _ _ c.loop.invariant _ _ c.if-p-eq0.false (c.lies.ensures ∙ ap (lies (g.R.Bounded.bounds c.args.area)) c.point_at-at.ensures) c.if-not-lies.true-raw

pub loop-preserved : goal.loop-preserved
loop-preserved g c = listing_step _ _ _ _ _ _ _ _ _ _ _ c.loop.invariant _ _ _ _ _ c.if-p-eq0.false (omega (arith, c.loop-test.true)) c.claim.ensures c.if-not-claim.false-raw (c.lies.ensures ∙ ap (lies (g.R.Bounded.bounds c.args.area)) c.point_at-at.ensures) c.if-not-lies.false-raw c.next-p.ensures

pub returns : goal.returns
returns g c = listing_end _ _ _ _ _ _ _ _ _ _ _ c.loop.invariant (omega (arith, c.loop-test.false))
