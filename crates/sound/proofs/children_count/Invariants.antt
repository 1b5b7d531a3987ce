-- `sound::children_count`: what its loops keep, and what grows less. Assumes nothing.
use mathlib.Core.Path.{◌≡◌}
use Rattle.trees.proofs.Checks.{counts}
use mathlib.Core.Path.{◌≡◌}
use Rattle.trees.proofs.Checks.{counts}
use mathlib.Core.Path.{◌≡◌}
use Prim.Native.Nat.{◌+◌, ◌-◌, ◌≤◌, ◌*◌}
use Rattle.words.specs.Words.{words}
use Rattle.trees.proofs.Checks.{counts}
use Rattle.sound.proofs.children_count.Given as goal

abbrev pub invariant-loop-c : goal.invariant-loop-c
invariant-loop-c l = (l.c ≤ l.ways) × (l.sum ≤ 4294967296 * l.c) × (l.sum + counts l.ways (words l.nodes) l.k l.c (l.ways - l.c) ≡ counts l.ways (words l.nodes) l.k 0 l.ways)
