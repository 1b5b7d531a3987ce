-- `groups::deal`: the goals that the search leaves. Assumes nothing.
use Rattle.std.proofs.Common.{refl, ◌∙◌, arith, rules}
use Rattle.groups.proofs.Walks.{deal_start, deal_end, deal_stop, deal_go}
use Rattle.groups.proofs.deal.Goals as goal

pub loop-j-init : goal.loop-j-init
loop-j-init c = record { dealt = deal_start _ _ _ c.args.pool.now.links.now _ _; fits = omega arith; same = search rules }

pub returns-then-q-eq0 : goal.returns-then-q-eq0
returns-then-q-eq0 c = record { links_after = deal_stop _ _ _ _ _ _ _ c.if-q-eq0.true ∙ c.loop-j.invariant.dealt; same = c.loop-j.invariant.same }

pub loop-j-preserved : goal.loop-j-preserved
loop-j-preserved c = record {
  dealt = deal_go _ _ _ _ _ _ _ _ _ _ _ _ (omega arith) c.if-q-eq0.false c.next-after.ensures c.turn-c.ensures c.child.ensures.value c.append.ensures.links_after ∙ c.loop-j.invariant.dealt;
  fits = omega arith;
  same = search rules;
}

pub returns : goal.returns
returns c = record { links_after = deal_end _ _ _ _ _ _ _ (omega arith) ∙ c.loop-j.invariant.dealt; same = c.loop-j.invariant.same }
