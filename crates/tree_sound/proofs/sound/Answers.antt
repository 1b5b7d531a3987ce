-- `tree_sound::sound`: the goals that the search leaves. Assumes nothing.
use mathlib.Core.Path.{sym, ◌∙◌}
use borrow.Author.Tests.{not-false}
use Rattle.pieces.specs.Views.{seen}
use Rattle.trees.proofs.Soundness.{sound_rest, sound_tree}
use Rattle.tree_sound.proofs.Starts.{checks_lent, rest_as}
use Rattle.tree_sound.proofs.sound.Goals as goal

pub returns-then-not-check_node : goal.returns-then-not-check_node
returns-then-not-check_node g c = sound_tree g.R.Tree.kind (seen c.args.tree.now) g.R.Tree.groups g.met.R.Tree.named.roomy g.met.R.Tree.named.low (c.fits.ensures.sure (not-false _ c.if-not-fits.false-raw)) (g.R.Region.sides c.boundary-bounds.result) _ _ c.boundary-bounds.ensures c.whole.ensures c.capacity-n.ensures _ _ _ (checks_lent _ _ _ _ _ _ _ _ _ _ _ _ _ _ _ c.rows.ensures g.met.R.Tree.few_groups c.check_node.ensures) c.if-not-check_node.true-raw

pub returns : goal.returns
returns g c = sound_rest g.R.Tree.kind (seen c.args.tree.now) g.R.Tree.groups g.met.R.Tree.named.roomy g.met.R.Tree.named.low (c.fits.ensures.sure (not-false _ c.if-not-fits.false-raw)) (g.R.Region.sides c.boundary-bounds.result) _ _ c.boundary-bounds.ensures c.whole.ensures c.capacity-n.ensures _ _ _ (checks_lent _ _ _ _ _ _ _ _ _ _ _ _ _ _ _ c.rows.ensures g.met.R.Tree.few_groups c.check_node.ensures) c.if-not-check_node.false-raw _ (rest_as _ _ _ _ _ _ _ c.ways.ensures c.rest_is_free.ensures) (sym c.accepts.ensures.value ∙ not-false _ c.if-not-accepts.false-raw) c.if-n-eq0.false
