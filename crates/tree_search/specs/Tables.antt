-- The candidate table that the code lends: the same arrays, as long as they were, and the same k. Definitions only.
use Rattle.std.specs.Prelude.{◌≡◌, length}
use Rattle.knn.specs.declared.Table.{Table}

pub record SameTable (s t : Table) : Type 0 where
  pub dist : t.dist.ghost_name ≡ s.dist.ghost_name
  pub item : t.item.ghost_name ≡ s.item.ghost_name
  pub dist_length : length t.dist.now ≡ length s.dist.now
  pub item_length : length t.item.now ≡ length s.item.now
  pub k : t.k ≡ s.k
