-- `tree_search::nearest::knn_search_helper`: the goals that the search leaves. Assumes nothing.
use mathlib.Core.Path.{refl, ◌∙◌}
use Rattle.model.specs.Calls.{ways}
use native.Mathlib.Omega.{arith}
use Rattle.trees.proofs.Tables.{bar_as, order_entry, order_length, seeks_as, seeks_list, seeks_none, nexts_start, nexts_step, nexts_skip, nexts_end}
use Rattle.tree_search.proofs.nearest.+knn_search_helper.Goals as goal

pub returns-then-g-eq0-clause-seeks : goal.returns-then-g-eq0-clause-seeks
returns-then-g-eq0-clause-seeks g t c = seeks_list _ _ _ _ _ _ _ _ _ _ _ _ _ _ _ _ _ c.group-g.ensures c.if-g-eq0.true c.first-head.ensures c.offer_list.ensures.tables

pub returns-then-levels-eq0-clause-seeks : goal.returns-then-levels-eq0-clause-seeks
returns-then-levels-eq0-clause-seeks g t c = seeks_none _ _ _ _ _ _ _ _ _ _ _ _ _ c.group-g.ensures c.if-g-eq0.false c.if-levels-eq0.true

pub loop-j-init : goal.loop-j-init
loop-j-init g t c = record { same = record { dist = refl; item = refl; dist_length = refl; item_length = refl; k = refl }; nexts = nexts_start _ _ _ _ _ _ _ _ _ _ _ _ }

pub bounds-near-j : goal.bounds-near-j
bounds-near-j g t c = omega (arith, c.loop-j-test.true, c.ways-j-end.ensures, g.met.R.Tree.few_ways)

pub returns-then-d-w : goal.returns-then-d-w
returns-then-d-w g t c = record {
  seeks = nexts_skip _ _ _ _ _ _ _ _ _ _ _ _ _ c.loop-j.j _ _ _ _ _ _ c.group-g.ensures c.if-g-eq0.false c.if-levels-eq0.false c.loop-j.invariant.nexts (omega (arith, c.loop-j-test.true, order_length (g.R.Region.sides c.args.node.bounds) (g.R.Point.Place.place c.args.target) (ways g.R.Tree.kind), c.ways-j-end.ensures)) (order_entry (g.R.Region.sides c.args.node.bounds) (g.R.Point.Place.place c.args.target) (ways g.R.Tree.kind) 8 c.loop-j.j _ _ g.met.R.Tree.few_ways (omega (arith, c.loop-j-test.true, c.ways-j-end.ensures)) c.by_distance-order.ensures.0 c.by_distance-order.ensures.1).0 (bar_as _ _ _ _ _ c.loop-j.invariant.same.k c.worst-w.ensures) c.if-d-w.true;
  same = c.loop-j.invariant.same;
}

pub bounds-which-j : goal.bounds-which-j
bounds-which-j g t c = omega (arith, c.loop-j-test.true, c.ways-j-end.ensures, g.met.R.Tree.few_ways)

pub loop-j-preserved : goal.loop-j-preserved
loop-j-preserved g t c =
    let entry = order_entry (g.R.Region.sides c.args.node.bounds) (g.R.Point.Place.place c.args.target) (ways g.R.Tree.kind) 8 c.loop-j.j _ _ g.met.R.Tree.few_ways (omega (arith, c.loop-j-test.true, c.ways-j-end.ensures)) c.by_distance-order.ensures.0 c.by_distance-order.ensures.1 in
    let s = c.loop-j.invariant.same in
    let o = c.knn_search_helper.ensures.same in
    record {
      same = record { dist = o.dist ∙ s.dist; item = o.item ∙ s.item; dist_length = o.dist_length ∙ s.dist_length; item_length = o.item_length ∙ s.item_length; k = o.k ∙ s.k };
      nexts = nexts_step _ _ _ _ _ _ _ _ _ _ _ _ _ c.loop-j.j _ _ _ _ _ _ _ _ _ _ c.loop-j.invariant.nexts (omega (arith, c.loop-j-test.true, order_length (g.R.Region.sides c.args.node.bounds) (g.R.Point.Place.place c.args.target) (ways g.R.Tree.kind), c.ways-j-end.ensures)) entry.0 entry.1 (bar_as _ _ _ _ _ s.k c.worst-w.ensures) c.if-d-w.false c.kid.ensures.value c.child.ensures o.dist_length o.item_length (seeks_as _ _ _ _ _ _ _ _ _ _ _ _ _ _ _ _ s.k c.knn_search_helper.ensures.seeks);
    }

pub returns : goal.returns
returns g t c = record {
  seeks = nexts_end _ _ _ _ _ _ _ _ _ _ _ _ _ _ _ _ _ c.group-g.ensures c.if-g-eq0.false c.if-levels-eq0.false c.loop-j.invariant.nexts (omega (arith, c.loop-j-test.false, order_length (g.R.Region.sides c.args.node.bounds) (g.R.Point.Place.place c.args.target) (ways g.R.Tree.kind), c.ways-j-end.ensures));
  same = c.loop-j.invariant.same;
}
