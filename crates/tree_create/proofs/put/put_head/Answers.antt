-- `tree_create::put::put_head`: the goals that the search leaves. Assumes nothing.
use mathlib.Core.Path.{ap, ◌∙◌}
use mathlib.Core.List.{List}
use lib.Ieee.{Float}
use Rattle.words.specs.Words.{words}
use Rattle.trees.proofs.Puts.{put_floats}
use Rattle.tree_create.proofs.Puts.{head_put}
use Rattle.tree_create.proofs.put.put_head.Goals as goal

pub returns : goal.returns
returns g c = head_put _ _ _ _ _ _ _ _ _ c.axes-axes.ensures
    (c.write.ensures ∙ ap (λ (vs : List Float). put_floats vs (words c.args.head.now) 0) c.corner.ensures)
    (c.write-2.ensures ∙ ap (λ (vs : List Float). put_floats vs (words c.write.new.t) c.axes-axes.result) c.extent.ensures) c.put.ensures
