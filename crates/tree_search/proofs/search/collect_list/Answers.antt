-- `tree_search::search::collect_list`: the goals that the search leaves. Assumes nothing.
use mathlib.Core.Path.{refl, ap, ◌∙◌}
use Rattle.trees.proofs.Collects.{listing_start, listing_step, listing_end, passing, said_no, said_yes}
use Rattle.trees.proofs.Walks.{note_no, note_yes}
use Rattle.tree.specs.Lists.{rest}
use Rattle.tree_search.proofs.search.collect_list.Goals as goal

pub loop-p-init : goal.loop-p-init
loop-p-init g c = listing_start _ _ _ _ _ (ap rest c.into_iter-p-iterator.ensures.into_iter_gives ∙ c.list-p-items.ensures)

pub loop-p-preserved-then-not-asks : goal.loop-p-preserved-then-not-asks
loop-p-preserved-then-not-asks g c = listing_step _ _ _ _ _ _ _ _ _ _ _ _ c.loop-p.invariant c.in-Some.ensures.steps (c.asks.ensures ∙ ap (g.Q.Question.takes c.args.q) c.point_at.ensures) refl (note_no _ _ _ _ (said_no _ _ refl c.if-not-asks.true-raw))

pub loop-p-preserved : goal.loop-p-preserved
loop-p-preserved g c = listing_step _ _ _ _ _ _ _ _ _ _ _ _ c.loop-p.invariant c.in-Some.ensures.steps (c.asks.ensures ∙ ap (g.Q.Question.takes c.args.q) c.point_at.ensures) c.note-m.auto.found (note_yes _ _ _ _ _ _ (said_yes _ _ refl c.if-not-asks.false-raw) c.note-m.ensures)

pub returns : goal.returns
unfolding passing
returns g c = listing_end _ _ _ _ _ _ _ c.loop-p.invariant c.in-None.ensures.steps.0
