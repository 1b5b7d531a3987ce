-- `replies::Page::put_figure`: the goals that the search leaves. Assumes nothing.
use native.Mathlib.Omega.{arith}
use borrow.Author.Rules.{rules}
use Rattle.record.specs.Numbers.{decimal}
use Rattle.replies.specs.Lines.{field}
use Rattle.replies.proofs.Written.{done_written, puts_out, puts_some}
use Rattle.replies.proofs.Page.put_figure.Goals as goal

pub put_end-requires : goal.put_end-requires
put_end-requires c = omega (arith, c.if-room-lt14.false, c.room.ensures, c.put_byte.ensures.same.1, c.put_whole.ensures.same.1, c.put_byte.ensures.end, c.put_whole.ensures.end)

pub returns-clause-puts : goal.returns-clause-puts
returns-clause-puts c = puts_out c.put_end.new.self.out.now (search rules) (puts_some _ _ _ _ _ _ (omega (arith, c.if-room-lt14.false, c.room.ensures)) (done_written c.args.self.now.out.now _ _ _ (field (decimal c.args.figure)) _ _ _ _ c.put_byte.ensures.wrote c.put_whole.ensures.wrote c.put_end.ensures.wrote))
