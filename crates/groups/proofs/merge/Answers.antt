-- `groups::merge`: the goals that the search leaves. Assumes nothing.
use Rattle.std.proofs.Common.{refl, ◌∙◌, arith, rules}
use Rattle.groups.proofs.Walks.{join_end, join_go, merges}
use Rattle.groups.proofs.merge.Goals as goal

pub loop-c-init : goal.loop-c-init
loop-c-init c = record { joined = refl; first = omega arith; last = omega arith }

pub loop-c-preserved : goal.loop-c-preserved
loop-c-preserved c = record {
  joined = join_go _ _ _ c.args.order.now c.loop-c.c-index _ _ _ _ _ _ _ _ _ (omega arith) c.child-q.ensures.value c.first-f.ensures c.last-t.ensures c.hook.ensures c.pick-a.ensures c.pick-b.ensures ∙ c.loop-c.invariant.joined;
  first = omega arith;
  last = omega arith;
}

pub returns : goal.returns
returns c = let r = merges _ _ _ _ _ _ _ _ _ _ _ (join_end _ _ _ c.args.order.now c.loop-c.c-index _ (omega arith) ∙ c.loop-c.invariant.joined) c.lay.ensures c.give_group.ensures.nodes_after in record { links_after = r.0; tree = r.1; same = search rules }
