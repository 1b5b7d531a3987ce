-- `replay_geometry::reply`: the goals that the search leaves. Assumes nothing.
use mathlib.Core.Path.{sym}
use lib.Seq.{length-take-le}
use Rattle.geometry_answers.proofs.Texts.{line_fits}
use Rattle.replay_geometry.proofs.reply.Goals as goal

pub slice_bounds-out-end : goal.slice_bounds-out-end
slice_bounds-out-end g c = line_fits _ _ _ _ c.show-n.ensures.out_after c.show-n.ensures.value

pub slice_bounds-write_all-end : goal.slice_bounds-write_all-end
slice_bounds-write_all-end g c = sym (length-take-le _ _ (line_fits _ _ _ _ c.show-n.ensures.out_after c.show-n.ensures.value))
