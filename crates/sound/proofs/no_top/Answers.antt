-- `sound::no_top`: the goals that the search leaves. Assumes nothing.
use mathlib.Core.Path.{refl}
use lib.Ieee.{of_bits}
use Rattle.sound.proofs.no_top.Goals as goal

pub returns : goal.returns
unfolding of_bits
returns c = refl
