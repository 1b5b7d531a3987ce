-- `pool::set_field`: the goals that the search leaves. Assumes nothing.
use Rattle.pool.proofs.Steps.{far_set}
use mathlib.Core.Path.{◌∙◌}
use native.Mathlib.Omega.{arith}
use Rattle.pool.proofs.set_field.Goals as goal

pub returns : goal.returns
returns c = c.put.ensures ∙ far_set _ _ _ _ (omega arith) c.place_of.ensures
