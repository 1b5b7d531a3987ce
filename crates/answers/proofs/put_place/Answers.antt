-- `answers::put_place`: the goals that the search leaves. Assumes nothing.
use mathlib.Core.Path.{refl}
use Rattle.answers.proofs.Writes.{placing_start, placing_step, placing_end}
use Rattle.answers.proofs.put_place.Goals as goal

pub loop-a-init : goal.loop-a-init
loop-a-init c = placing_start _ _ _ _ _ _

pub loop-a-preserved : goal.loop-a-preserved
loop-a-preserved c = placing_step _ _ _ _ _ _ _ _ _ _ (c.loop-a.invariant) (c.loop-a-test.true) (c.get_float-x.ensures) (c.put_float.auto.t) (c.put_float.ensures)

pub shape_of-coords : goal.shape_of-coords
shape_of-coords c = c.loop-a.invariant.writing.same

pub returns : goal.returns
returns c = placing_end _ _ _ _ _ _ _ _ _ (c.loop-a.invariant) (c.loop-a-test.false) (c.base-from.ensures.value) refl
