-- `replies::Page::put_hex`: what its loop keeps. Assumes nothing.
use Rattle.replies.proofs.Hexes.{Hexing}
use Rattle.replies.proofs.Page.put_hex.Given as goal

abbrev pub invariant-loop-k : goal.invariant-loop-k
invariant-loop-k l = Hexing l.s l.initial.out l.initial.at l.out l.at l.k
