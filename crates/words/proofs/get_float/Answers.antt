-- `words::get_float`: the goals that the search leaves. Assumes nothing.
use Rattle.words.proofs.get_float.Goals as goal
use Rattle.std.proofs.Common.{rules}
use Rattle.words.proofs.Pairs.{chunk_read, chunk_missing}

pub returns : goal.returns
returns c = search (rules, chunk_read, chunk_missing)
