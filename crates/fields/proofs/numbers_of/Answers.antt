-- `fields::numbers_of`: the goals that the search leaves. Assumes nothing.
use mathlib.Core.Bool.{Bool}
use mathlib.Core.Path.{refl, ap, ◌∙◌}
use Rattle.record.specs.Commands.{numbers_of}
use Rattle.record.specs.Read.{rest, whole_among}
use Rattle.record.proofs.Reading.{counted, float_room, filling_bad, filling_end, filling_start, filling_step, filling_stop, reads_short}
use borrow.Author.Rules.{rules}
use Rattle.fields.proofs.numbers_of.Goals as goal

pub returns-then-count-numbers : goal.returns-then-count-numbers
returns-then-count-numbers c = counted _ _ _ _ c.floats_after-count.ensures refl (reads_short _ _ _ _ c.if-count-numbers.true)

pub loop-x-init : goal.loop-x-init
loop-x-init c = filling_start _ _ _ _ _ c.if-count-numbers.false c.split_at_mut-floats.ensures.front

pub returns-in_err-fields : goal.returns-in_err-fields
returns-in_err-fields c = counted _ _ _ _ c.floats_after-count.ensures refl (filling_stop _ _ _ _ _ _ _ _ _ c.from_residual.ensures c.split_at_mut-floats.ensures.back c.loop-x.invariant c.if-count-numbers.false (search rules) c.in_err-fields.ensures.cases)

pub returns-in_err-x : goal.returns-in_err-x
returns-in_err-x c = counted _ _ _ _ c.floats_after-count.ensures refl (filling_bad _ _ _ _ _ _ _ _ _ _ _ _ c.from_residual-in_err-x.ensures c.split_at_mut-floats.ensures.back c.loop-x.invariant c.if-count-numbers.false (search rules) c.in_ok-fields.ensures.cases.0 c.first_float.ensures c.in_err-x.was)

pub slice_bounds-left-count : goal.slice_bounds-left-count
slice_bounds-left-count c = float_room _ _ _ c.first_float.ensures c.in_ok-x.was

pub slice_bounds-left-start : goal.slice_bounds-left-start
slice_bounds-left-start c = float_room _ _ _ c.first_float.ensures c.in_ok-x.was

pub loop-x-preserved : goal.loop-x-preserved
loop-x-preserved c = filling_step _ _ _ _ _ _ _ _ _ _ _ c.loop-x.invariant (search rules) c.in_ok-fields.ensures.cases.0 c.first_float.ensures c.in_ok-x.was

pub returns : goal.returns
returns c = counted _ _ _ _ c.floats_after-count.ensures refl (filling_end _ _ _ _ _ _ _ _ _ c.split_at_mut-floats.ensures.back c.loop-x.invariant c.if-count-numbers.false (search rules) (c.last_whole.ensures ∙ ap (λ (t : Bool). whole_among (numbers_of 0 t (rest c.loop-x.left.now))) c.whole_after.ensures))
