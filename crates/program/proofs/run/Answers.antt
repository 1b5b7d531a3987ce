-- `program::run`: the goals that the search leaves. Assumes nothing.
use mathlib.Core.Path.{refl}
use native.Mathlib.Omega.{arith}
use Rattle.program.proofs.Starts.{head_is, nodes_is, points_is, starts}
use Rattle.program.proofs.run.Goals as goal

pub take_turns-requires : goal.take_turns-requires
take_turns-requires g c = (omega arith, omega (arith, g.met.R.Program.few_axes), starts g.R.Tree.kind g.R.Tree.groups _ _ _ _ g.met.R.Tree.named (head_is g.R.Tree.kind _ c.axes-axes.ensures g.met.R.Program.few_axes) (nodes_is g.R.Tree.kind g.R.Tree.groups _ _ c.ways-ways.ensures c.rows-rows.ensures g.met.R.Program.few_nodes) refl (points_is g.R.Tree.kind _ c.axes-axes.ensures g.met.R.Program.few_axes))
