-- `replies::places`: the goals that the search leaves. Assumes nothing.
use Rattle.replies.proofs.Written.{places_is}
use Rattle.replies.proofs.places.Goals as goal

pub returns-clause-value : goal.returns-clause-value
returns-clause-value c = places_is _ _ _ c.max.ensures c.ilog10.ensures.power_le c.ilog10.ensures.next_power_gt c.ilog10.ensures.bound
