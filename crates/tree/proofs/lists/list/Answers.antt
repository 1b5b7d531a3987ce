-- `tree::lists::list`: the goals that the search leaves. Assumes nothing.
use mathlib.Core.Path.{ap, sym}
use Prim.Native.Nat.{ℕ}
use Rattle.words.specs.Words.{words}
use Rattle.words.proofs.Words.{length_words}
use Rattle.pool.specs.Read.{chain}
use Rattle.tree.proofs.lists.list.Goals as goal

pub returns : goal.returns
returns c = ap (λ (n : ℕ). chain n (words c.args.links.now) c.args.first) (sym (length_words c.args.links.now))
