-- `groups::merge`: what its loops keep. Assumes nothing.
use Rattle.std.proofs.Common.{◌≡◌, ◌<◌, drop}
use Rattle.pool.specs.Writes.{row, joining}
use Rattle.words.specs.Words.{words}
use Rattle.groups.proofs.merge.Given as goal

abbrev pub invariant-loop-c : goal.invariant-loop-c
invariant-loop-c l = record {
  joined : joining l.ways (words l.nodes) l.k (drop l.c-index l.order) (row (words l.links) l.a l.b) ≡ joining l.ways (words l.nodes) l.k l.order (row (words l.initial.links) 0 0);
  first : l.a < 4294967296;
  last : l.b < 4294967296;
}
