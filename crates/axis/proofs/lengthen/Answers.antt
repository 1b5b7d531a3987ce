-- `axis::lengthen`: the goals that the search leaves. Assumes nothing.
use mathlib.Core.Path.{◌≡◌, sym, ◌∙◌}
use mathlib.Core.Bool.{true}
use Prim.Native.Nat.{ℕ, suc, ◌+◌, ◌-◌, ◌≤◌, ◌<◌}
use native.Mathlib.Omega.{arith}
use lib.Ieee.{Float, binary64}
use Rattle.floats.specs.Next.{next_up}
use Rattle.floats.specs.Span.{short, lengthened}
use Rattle.floats.proofs.Span.{lengthened_more, lengthened_stop, lengthened_none}
use Rattle.axis.proofs.lengthen.Goals as goal

stepped : (k : ℕ) (lo hi len next : Float) → k < 4 → short binary64 lo hi len ≡ true → next ≡ next_up binary64 len → lengthened binary64 (4 - (k + 1)) lo hi next ≡ lengthened binary64 (4 - k) lo hi len
stepped k lo hi len next h s n = rw (n, one_less k h) (sym (lengthened_more binary64 (4 - (k + 1)) lo hi len s))
  where
    one_less : (k : ℕ) → k < 4 → 4 - k ≡ suc (4 - (k + 1))
    one_less k h = omega arith

ended : (k : ℕ) (lo hi len : Float) → 4 ≤ k → lengthened binary64 (4 - k) lo hi len ≡ len
ended k lo hi len h = rw (none_left k h) (lengthened_none binary64 lo hi len)
  where
    none_left : (k : ℕ) → 4 ≤ k → 4 - k ≡ 0
    none_left k h = omega arith

pub returns-then-not-is_short : goal.returns-then-not-is_short
returns-then-not-is_short c = sym (lengthened_stop binary64 (4 - c.loop.counter) _ _ _ (sym c.is_short.ensures ∙ c.if-not-is_short.true)) ∙ c.loop.invariant

pub loop-preserved : goal.loop-preserved
loop-preserved c = stepped _ _ _ _ _ c.loop-test.true (sym c.is_short.ensures ∙ c.if-not-is_short.false) c.next_up-len.ensures ∙ c.loop.invariant

pub returns : goal.returns
returns c = sym (ended _ _ _ _ c.loop-test.false) ∙ c.loop.invariant
