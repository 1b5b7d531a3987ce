-- `replies::Page::put_outcome`: the goals that the search leaves. Assumes nothing.
use native.Mathlib.Omega.{arith}
use Rattle.replies.proofs.Told.{told_done, told_refused, told_unlent}
use Rattle.replies.proofs.Written.{puts_none, puts_some, unwritten}
use Rattle.replies.proofs.Page.put_outcome.Goals as goal

pub returns-then-refused-clause-puts_told : goal.returns-then-refused-clause-puts_told
returns-then-refused-clause-puts_told c = told_refused c.args.axes _ _ c.args.coords.now c.args.payloads.now c.args.self.now.out.now _ _ _ c.if-refused.true c.put_number.ensures.puts

pub returns-then-n-room-clause-puts_told : goal.returns-then-n-room-clause-puts_told
returns-then-n-room-clause-puts_told c = told_unlent c.args.axes _ _ c.args.coords.now c.args.payloads.now c.args.self.now.out.now _ _ _ c.if-refused.false (omega (arith, c.if-n-room.true, c.room.ensures)) (unwritten _ _)

pub returns-then-room-need-clause-puts_told : goal.returns-then-room-need-clause-puts_told
returns-then-room-need-clause-puts_told c = told_done c.args.axes _ _ c.args.coords.now c.args.payloads.now c.args.self.now.out.now _ _ _ c.if-refused.false (omega (arith, c.if-n-room.false, c.room.ensures)) (puts_none _ _ _ _ (omega (arith, c.if-room-need.true, c.room-2.ensures)))

pub returns-clause-puts_told : goal.returns-clause-puts_told
returns-clause-puts_told c = told_done c.args.axes _ _ c.args.coords.now c.args.payloads.now c.args.self.now.out.now _ _ _ c.if-refused.false (omega (arith, c.if-n-room.false, c.room.ensures)) (puts_some _ _ _ _ _ _ (omega (arith, c.if-room-need.false, c.room-2.ensures)) c.put_found.ensures.wrote)
