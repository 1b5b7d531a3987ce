-- `words::get`: the goals that the search leaves. Assumes nothing.
use Rattle.words.proofs.get.Goals as goal
use Rattle.std.proofs.Common.{rules}
use Rattle.words.proofs.Words.{chunk_read, words_out}

pub returns : goal.returns
returns c = search (rules, chunk_read, words_out)
