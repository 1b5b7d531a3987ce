-- `tree_descent::insert::insert_within`: the goals that the search leaves. Assumes nothing.
use mathlib.Core.Path.{ap, ◌∙◌}
use native.Mathlib.Omega.{arith}
use Rattle.words.proofs.Words.{length_words}
use Rattle.model.specs.Boxes.{route}
use Rattle.trees.proofs.Inserts.{fills_last, fills_room, fills_split}
use Rattle.tree_descent.proofs.insert.+insert_within.Goals as goal

pub returns-then-levels-eq0 : goal.returns-then-levels-eq0
returns-then-levels-eq0 g t c = λ few. fills_last _ _ _ _ _ _ _ _ _ c.if-levels-eq0.true c.put_in.ensures

pub returns-then-count-capacity : goal.returns-then-count-capacity
returns-then-count-capacity g t c = λ few. fills_room _ _ _ _ _ _ _ _ _ _ c.count.ensures c.if-count-capacity.true c.put_in-then-count-capacity.ensures

pub returns : goal.returns
returns g t c = λ few. let q = c.subdivide-k.ensures few in fills_split _ _ _ _ _ _ _ _ _ _ _ _ _ _ _ _ q.turns c.count.ensures c.if-count-capacity.false c.if-levels-eq0.false q.splits q.routed (c.child_index-c.ensures.value ∙ ap (route (g.R.Region.sides c.args.node.bounds)) c.point_at.ensures) c.count_up.ensures c.kid.ensures.value c.child.ensures (c.insert_within.ensures (omega (arith, few, length_words c.args.links.now, length_words c.subdivide-k.new.links, c.subdivide-k.auto.links)))
