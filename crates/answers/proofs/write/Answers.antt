-- `answers::write`: the goals that the search leaves. Assumes nothing.
use mathlib.Core.Path.{ap, refl, ◌∙◌}
use lib.Seq.{sets}
use native.Mathlib.Omega.{arith}
use Rattle.answers.proofs.Writes.{answering_start, answering_step, answering_places, answering_marks, bytes4_is, fits_mark, fits_place}
use Rattle.answers.proofs.write.Goals as goal

pub loop-j-init : goal.loop-j-init
loop-j-init c = answering_start _ _ _ _ _

pub put_place-requires : goal.put_place-requires
put_place-requires c = omega (arith, c.loop-j.invariant.places.same, fits_place _ _ _ _ _ (c.requires) (c.loop-j-test.true))

pub store-requires : goal.store-requires
store-requires c = omega (arith, c.loop-j.invariant.marks.same, fits_mark _ _ _ _ _ (c.requires) (c.loop-j-test.true))

pub overflow_mul-j : goal.overflow_mul-j
overflow_mul-j c = omega (arith, fits_mark _ _ _ _ _ (c.requires) (c.loop-j-test.true))

pub loop-j-preserved : goal.loop-j-preserved
loop-j-preserved c = answering_step _ _ _ _ _ _ _ _ _ _ _ _ (c.loop-j.invariant) (c.loop-j-test.true) refl (c.payload-m.ensures) (c.put_place.auto.coords) (c.put_place.ensures) (c.store.auto.t) (c.store.ensures ∙ ap (sets _ _) (c.to_le_bytes.ensures ∙ bytes4_is _))

pub shape_of-coords : goal.shape_of-coords
shape_of-coords c = c.loop-j.invariant.places.same

pub shape_of-payloads : goal.shape_of-payloads
shape_of-payloads c = c.loop-j.invariant.marks.same

pub returns : goal.returns
returns c = record { coords_after = answering_places _ _ _ _ _ _ _ _ (c.loop-j.invariant) (c.loop-j-test.false); marks = answering_marks _ _ _ _ _ _ _ _ (c.loop-j.invariant) (c.loop-j-test.false) }
