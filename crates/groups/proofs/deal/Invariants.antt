-- `groups::deal`: what its loops keep. Assumes nothing.
use Rattle.std.proofs.Common.{◌≡◌, ◌-◌, ◌<◌, length}
use Rattle.words.specs.Words.{words}
use Rattle.pool.specs.Held.{held, SameSlices}
use Rattle.pool.specs.Writes.{dealing}
use Rattle.groups.proofs.deal.Given as goal

abbrev pub invariant-loop-j : goal.invariant-loop-j
invariant-loop-j l = record {
  dealt : dealing l.ways l.k l.turns (l.j-end - l.j) l.j (held l.pool) l.q ≡ dealing l.ways l.k l.turns (length (words l.initial.pool.links.now)) 0 (held l.initial.pool) l.head;
  fits : l.q < 4294967296;
  same : SameSlices l.initial.pool l.pool;
}
