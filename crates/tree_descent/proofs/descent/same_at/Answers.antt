-- `tree_descent::descent::same_at`: the goals that the search leaves. Assumes nothing.
use mathlib.Core.Path.{ap, ◌∙◌}
use Rattle.words.specs.Words.{words}
use Rattle.trees.specs.Points.{point_at}
use Rattle.trees.proofs.Finds.{same_here, same_other}
use Rattle.tree_descent.proofs.descent.same_at.Goals as goal

pub returns-then-payload-mark : goal.returns-then-payload-mark
returns-then-payload-mark g c = same_other _ _ _ _ (c.payload.ensures ∙ ap (λ x. (point_at x (words c.args.points.now) c.args.p).payload) c.axes.ensures) c.if-payload-mark.true

pub returns : goal.returns
returns g c = same_here _ _ _ _ _ _ c.same.ensures c.point_at.ensures (c.payload.ensures ∙ ap (λ x. (point_at x (words c.args.points.now) c.args.p).payload) c.axes.ensures) c.if-payload-mark.false
