-- `clearing::free_places`: the goals that the search leaves. Assumes nothing.
use Rattle.std.proofs.Common.{refl, ◌∙◌, arith}
use Rattle.groups.proofs.Walks.{pushed_end, pushed_go, places_freed}
use Rattle.clearing.proofs.free_places.Goals as goal

pub loop-p-init : goal.loop-p-init
loop-p-init c = refl

pub loop-p-preserved : goal.loop-p-preserved
loop-p-preserved c = pushed_go _ _ _ _ (omega arith) refl c.give_place.ensures.links_after ∙ c.loop-p.invariant

pub returns : goal.returns
returns c = places_freed _ _ _ _ _ c.put.auto.t c.nameable-p.ensures c.put.ensures (pushed_end _ _ (omega arith) ∙ c.loop-p.invariant)
