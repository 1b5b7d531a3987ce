-- `replies::Page::spell`: what its loop keeps. Assumes nothing.
use mathlib.Core.Path.{◌≡◌}
use lib.ListN.{length}
use lib.Seq.{sets}
use Rattle.record.specs.Numbers.{spelt}
use Rattle.replies.proofs.Page.spell.Given as goal

abbrev pub invariant-loop-i : goal.invariant-loop-i
invariant-loop-i l = (length l.out ≡ length l.initial.out) × (sets l.out l.at (spelt 10 l.i l.left) ≡ sets l.initial.out l.at (spelt 10 l.k l.n))
