-- `tree::lists::PlacesIterator::next`: the goals that the search leaves. Assumes nothing.
use mathlib.Core.Path.{◌≡◌, ap, sym, ◌∙◌}
use mathlib.Core.List.{[], ◌∷◌}
use Prim.Native.Nat.{ℕ, ◌-◌}
use lib.ListN.{length}
use native.Mathlib.Omega.{arith}
use Rattle.words.specs.Words.{words}
use Rattle.pool.specs.Read.{chain}
use Rattle.trees.proofs.Collects.{chain_none, chain_step, chain_stop}
use Rattle.tree.specs.Lists.{rest}
use Rattle.tree.proofs.lists.PlacesIterator.next.Goals as goal
use Rattle.tree.proofs.lists.PlacesIterator.next.Goals.{then-self-eq0-via-then-self-eq0, then-self-eq0-via-else-self-eq0+then-self-eq0-2}

pub returns-then-self-eq0-clause-steps : goal.returns-then-self-eq0-clause-steps
returns-then-self-eq0-clause-steps c =
    let e : rest c.args.self.now ≡ [] = elim c.then-self-eq0.branch [
      | then-self-eq0-via-then-self-eq0 w ↦ chain_none _ _ _ w.if-self-eq0.true
      | then-self-eq0-via-else-self-eq0+then-self-eq0-2 w ↦ chain_stop _ _ _ w.if-self-eq0-2.true
    ] in (e, e)

pub returns-clause-steps : goal.returns-clause-steps
returns-clause-steps c =
    chain_step c.args.self.now.left (words c.args.self.now.links.now) c.args.self.now.place (omega (arith, c.if-self-eq0.false)) c.if-self-eq0-2.false
    ∙ ap (λ (q : ℕ). c.args.self.now.place ∷ chain (c.args.self.now.left - 1) (words c.args.self.now.links.now) q) (sym c.next-self.ensures)

pub returns-clause-goes : goal.returns-clause-goes
returns-clause-goes c =
    let e = ap length (chain_step c.args.self.now.left (words c.args.self.now.links.now) c.args.self.now.place (omega (arith, c.if-self-eq0.false)) c.if-self-eq0-2.false
    ∙ ap (λ (q : ℕ). c.args.self.now.place ∷ chain (c.args.self.now.left - 1) (words c.args.self.now.links.now) q) (sym c.next-self.ensures)) in
    record { on = λ f. (tt, tt, omega (arith, e)); keeps = tt; rests = λ f. tt }
