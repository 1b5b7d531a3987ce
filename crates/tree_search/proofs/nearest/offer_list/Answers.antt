-- `tree_search::nearest::offer_list`: the goals that the search leaves. Assumes nothing.
use mathlib.Core.Path.{refl, ap, ◌∙◌}
use mathlib.Core.List.{List}
use lib.Ieee.{Float}
use Rattle.model.specs.Boxes.{squared}
use Rattle.knn.specs.Candidates.{at}
use Rattle.trees.proofs.Tables.{model_as, offering, offering_start, offering_step, offering_end}
use Rattle.tree.specs.Lists.{rest}
use Rattle.tree_search.proofs.nearest.offer_list.Goals as goal

pub loop-p-init : goal.loop-p-init
loop-p-init g c = record { same = record { dist = refl; item = refl; dist_length = refl; item_length = refl; k = refl }; offering = offering_start _ _ _ _ _ _ _ (ap rest c.into_iter-p-iterator.ensures.into_iter_gives ∙ c.list-p-items.ensures) }

pub loop-p-preserved : goal.loop-p-preserved
loop-p-preserved g c = record {
  same = record { dist = c.offer.ensures.same_dist ∙ c.loop-p.invariant.same.dist; item = c.offer.ensures.same_item ∙ c.loop-p.invariant.same.item; dist_length = c.offer.ensures.same_lengths.0 ∙ c.loop-p.invariant.same.dist_length; item_length = c.offer.ensures.same_lengths.1 ∙ c.loop-p.invariant.same.item_length; k = c.offer.ensures.offered.1 ∙ c.loop-p.invariant.same.k };
  offering = offering_step _ _ _ _ _ _ _ _ _ _ _ _ _ _ _ _ c.loop-p.invariant.offering c.in-Some.ensures.steps (ap (λ (d : Float). at d c.in-Some.p) (c.distance_sq.ensures ∙ ap (λ (v : List Float). squared v (g.R.Point.Place.place c.args.target)) c.point_at-at.ensures)) c.offer.ensures.same_lengths.0 c.offer.ensures.same_lengths.1 (model_as _ _ _ _ _ _ _ _ _ _ c.loop-p.invariant.same.k c.offer.ensures.offered.3);
}

pub returns : goal.returns
unfolding offering
returns g c = record { tables = offering_end _ _ _ _ _ _ _ _ _ _ c.loop-p.invariant.offering c.in-None.ensures.steps.0; same = c.loop-p.invariant.same }
