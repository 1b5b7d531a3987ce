-- `tree_create::create::create`: the goals that the search leaves. Assumes nothing.
use mathlib.Core.Path.{◌∙◌}
use borrow.Author.Tests.{not-false, not-true}
use Rattle.model.specs.Calls.{number}
use Rattle.trees.proofs.Creates.{creates_misfit}
use Rattle.pieces.proofs.Creations.{creates_made, creates_refused}
use Rattle.tree.proofs.Zips.{zipped, all_corners, all_extents, many_corners, many_extents}
use Rattle.tree_create.proofs.create.create.Goals as goal

pub returns-then-not-fits : goal.returns-then-not-fits
unfolding number
returns-then-not-fits g c = creates_misfit g.R.Tree.kind _ _ _ _ c.fits.ensures (not-true c.fits.result c.if-not-fits.true-raw)

pub returns-in_default : goal.returns-in_default
returns-in_default g c = rw (c.and.ensures, c.in_default.is) (creates_refused g.R.Tree.kind _ _ _ _ c.fits.ensures (not-false c.fits.result c.if-not-fits.false-raw) _ c.accepts.ensures.value _ _ c.decide-answer.ensures c.in_default.is)

pub returns : goal.returns
unfolding number
returns g c = creates_made g.R.Tree.kind _ _ _ _ c.fits.ensures (not-false c.fits.result c.if-not-fits.false-raw) _ c.accepts.ensures.value _ _ c.decide-answer.ensures c.in-Ok.is g.R.Tree.groups g.met.R.Tree.named g.met.R.Tree.regular _ _ (zipped _) (many_corners _ ∙ g.met.R.Tree.each_side c.args.bounds) (many_extents _ ∙ g.met.R.Tree.each_side c.args.bounds) (all_corners _ c.numbers.ensures) (all_extents _ c.numbers.ensures) _ _ _ c.put_head.auto.head c.empty.auto.nodes c.empty.auto.links c.put_head.ensures c.empty.ensures
