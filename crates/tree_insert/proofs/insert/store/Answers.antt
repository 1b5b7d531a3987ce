-- `tree_insert::insert::store`: the goals that the search leaves. Assumes nothing.
use mathlib.Core.Path.{ap, ◌∙◌}
use Rattle.trees.proofs.Changes.{stores}
use Rattle.trees.proofs.Ways.{counted_all}
use Rattle.tree_insert.proofs.insert.store.Goals as goal

pub returns : goal.returns
returns g c = λ b e w. stores _ _ _ _ b _ _ _ _ _ _ _ _ c.take_place-p.ensures.value.1 c.take_place-p.ensures.tree c.put_point.ensures (g.met.R.Tree.each_axis c.args.at) c.numbers.ensures _ e _ (c.count_along.ensures ∙ ap (counted_all _) w) c.insert_within.ensures
