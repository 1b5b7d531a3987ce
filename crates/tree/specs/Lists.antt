-- The places that are left of a list. Definitions only.
use Rattle.std.specs.Prelude.{List, ℕ}
use Rattle.pool.specs.Read.{chain}
use Rattle.words.specs.Words.{words}
use Rattle.tree.specs.declared.lists.Places.{Places}

abbrev pub rest : Places → List ℕ
rest s = chain s.left (words s.links.now) s.place
