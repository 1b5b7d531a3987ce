-- `tree::head::fits`: the goals that the search leaves. Assumes nothing.
use mathlib.Core.Path.{sym, ap₂, ◌∙◌}
use Prim.Native.Nat.{ℕ, suc, ◌*◌}
use Rattle.trees.proofs.Heads.{Measured}
use Rattle.tree.proofs.head.fits.Goals as goal

pub returns : goal.returns
unfolding Measured
returns g c = c.fits.ensures g.R.Tree.kind (sym c.axes.ensures) (sym c.ways.ensures) (g.met.R.Tree.named.roomy ∙ ap₂ (λ (w m : ℕ). suc (w * m)) (sym c.ways.ensures) (sym c.rows.ensures))
