-- `sound::walk_free`: what its loops keep, and what grows less. Assumes nothing.
use mathlib.Core.Path.{◌≡◌}
use Prim.Native.Nat.{ℕ, ◌-◌, ◌<◌, ◌^◌}
use lib.ListN.{length}
use Rattle.trees.proofs.Marks.{Freeing}
use Rattle.sound.proofs.walk_free.Given as goal

-- the walk is that of whatever function the closure's answers are of
abbrev pub invariant-loop : goal.invariant-loop
invariant-loop g l =
    let m = l.initial.marks in
    record {
      fits : l.p < 2 ^ 32;
      walked : (next : ℕ → ℕ) → ((p r : ℕ) → p < 2 ^ 32 → goal.F-post g l.after p r → r ≡ next p) → Freeing next (λ p. p < length m) m (next 0) l.marks l.p (length m - l.counter);
    }
