-- `pool::field`: the goals that the search leaves. Assumes nothing.
use Rattle.pool.proofs.Steps.{far_field}
use mathlib.Core.Path.{ap, ◌∙◌}
use Prim.Native.Nat.{ℕ, ◌+◌, ◌*◌}
use lib.ListN.{get_or}
use Rattle.words.specs.Words.{words}
use native.Mathlib.Omega.{arith}
use Rattle.pool.proofs.field.Goals as goal

pub returns : goal.returns
returns c = c.get.ensures ∙ far_field _ _ _ (omega arith) c.place_of.ensures ∙ ap (λ (n : ℕ). get_or (words c.args.nodes.now) (4 * c.args.i + n) 0) c.number.ensures
