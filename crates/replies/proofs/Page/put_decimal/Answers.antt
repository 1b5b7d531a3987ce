-- `replies::Page::put_decimal`: the goals that the search leaves. Assumes nothing.
use Rattle.replies.proofs.Written.{decimal_written}
use Rattle.replies.proofs.Page.put_decimal.Goals as goal

pub returns-clause-wrote : goal.returns-clause-wrote
returns-clause-wrote c = decimal_written c.args.self.now.out.now _ _ _ _ _ c.places.ensures.value c.spell.ensures.wrote
