-- The code's `Pool` and `Word`: the words of a pool, that it has the same slices still, and which number a word of a node has. Definitions only.
use Rattle.std.specs.Prelude.{◌≡◌, ℕ, length}
use Rattle.pool.specs.declared.Word.{Word}
use Rattle.pool.specs.declared.Word.TheVariants.{Group, First, Last, Count}
use Rattle.pool.specs.declared.Pool as declared
use Rattle.pool.specs.Writes.{Pool, pool}

-- the words of both slices
abbrev pub held : declared.Pool → Pool
held p = pool p.nodes.now p.links.now

-- the same slices, as long as before, and as many children to a node
pub record SameSlices (p q : declared.Pool) : Type 0 where
  pub nodes : q.nodes.ghost_name ≡ p.nodes.ghost_name
  pub links : q.links.ghost_name ≡ p.links.ghost_name
  pub ways : q.ways ≡ p.ways
  pub nodes_length : length q.nodes.now ≡ length p.nodes.now
  pub links_length : length q.links.now ≡ length p.links.now

-- the number of a word among the four of a node
abbrev pub word_of : Word → ℕ
word_of Group = 0
word_of First = 1
word_of Last = 2
word_of Count = 3
