-- `replies::Page::put_number`: the goals that the search leaves. Assumes nothing.
use native.Mathlib.Omega.{arith}
use borrow.Author.Rules.{rules}
use Rattle.record.specs.Numbers.{decimal}
use Rattle.replies.specs.Lines.{crlf}
use Rattle.replies.proofs.Written.{puts_out, puts_some, then}
use Rattle.replies.proofs.Page.put_number.Goals as goal

pub put_end-requires : goal.put_end-requires
put_end-requires c = omega (arith, c.if-room-lt12.false, c.room.ensures, c.put_decimal.ensures.same.1, c.put_decimal.ensures.end)

pub returns-clause-puts : goal.returns-clause-puts
returns-clause-puts c = puts_out c.put_end.new.self.out.now (search rules) (puts_some _ _ _ _ _ _ (omega (arith, c.if-room-lt12.false, c.room.ensures)) (then c.args.self.now.out.now _ _ (decimal c.args.reply) crlf _ _ _ c.put_decimal.ensures.wrote c.put_end.ensures.wrote))
