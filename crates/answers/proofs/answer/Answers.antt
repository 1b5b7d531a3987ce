-- `answers::answer`: the goals that the search leaves. Assumes nothing.
use Rattle.model.specs.Calls.{number}
use Rattle.words.specs.Words.{words}
use Rattle.answers.proofs.Writes.{answer_refused, answer_given}
use Rattle.answers.proofs.answer.Goals as goal

pub returns-then-m-most : goal.returns-then-m-most
unfolding number
returns-then-m-most c = answer_refused (c.args.axes) (words (c.args.points.now)) (c.args.found.now) _ _ _ _ (c.args.coords.now) (c.args.payloads.now) c.min.ensures c.min-m.ensures (c.room-most.ensures) (c.if-m-most.true)

pub returns : goal.returns
unfolding number
returns c = answer_given (c.args.axes) (words (c.args.points.now)) (c.args.found.now) _ _ _ _ (c.args.coords.now) (c.args.payloads.now) c.min.ensures c.min-m.ensures (c.room-most.ensures) _ _ (c.if-m-most.false) (c.write.ensures.coords_after) (c.write.ensures.marks)
