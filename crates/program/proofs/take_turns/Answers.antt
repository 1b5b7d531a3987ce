-- `program::take_turns`: the goals that the search leaves. Assumes nothing.
use mathlib.Core.Path.{◌∙◌, refl}
use native.Mathlib.Omega.{arith}
use lib.ListN.{length}
use Rattle.trees.specs.Pieces.{pieces}
use Rattle.record.specs.Commands.{understood}
use Rattle.turns.proofs.Working.{begins, begins_on, length_rest, sits_again, turned_on}
use Rattle.trees.proofs.Collects.{said_yes}
use borrow.Rule.Slice.PartMut.{take_put}
use Prim.Native.Nat.{◌-◌}
use Rattle.program.proofs.take_turns.Goals as goal

pub loop-turn-init : goal.loop-turn-init
loop-turn-init g c = ((begins g.R.Tree.kind (understood g.R.Program.made g.R.Tree.kind.axes) _ _ _ (c.args.out.now) c.begin-place.ensures (c.requires.2)).0, (begins g.R.Tree.kind (understood g.R.Program.made g.R.Tree.kind.axes) _ (pieces (c.args.head.now) (c.args.nodes.now) (c.args.links.now) (c.args.points.now)) _ _ c.begin-place.ensures (c.requires.2)).1, refl, refl, refl, refl, refl, refl, begins_on _ c.begin-place.ensures)

pub fetch-got-requires : goal.fetch-got-requires
fetch-got-requires g c = λ e. omega (arith, (c.loop-turn.invariant.1.reads e).0, c.loop-turn.invariant.6, c.requires.0, length_rest (c.loop-turn.text) (c.loop-turn.place.end))

pub work-place-requires : goal.work-place-requires
work-place-requires g c = record { sits_2 = sits_again g.R.Tree.kind (understood g.R.Program.made g.R.Tree.kind.axes) _ (c.loop-turn.text) _ (take_put (c.loop-turn.place.end) (length (c.loop-turn.text) - c.loop-turn.place.end) (c.loop-turn.text) (c.fetch-got.new.text) (c.loop-turn.invariant.1.within)) _ c.loop-turn.invariant.1 c.text-1.given.1; came = omega (arith, c.fetch-got.ensures, c.text-1.given.1, length_rest (c.loop-turn.text) (c.loop-turn.place.end), c.loop-turn.invariant.1.within); room = omega (arith, c.requires.1, c.loop-turn.invariant.7) }

pub loop-turn-preserved : goal.loop-turn-preserved
loop-turn-preserved g c = (turned_on g.R.Tree.kind (understood g.R.Program.made g.R.Tree.kind.axes) _ (c.loop-turn.text) _ (take_put (c.loop-turn.place.end) (length (c.loop-turn.text) - c.loop-turn.place.end) (c.loop-turn.text) (c.fetch-got.new.text) (c.loop-turn.invariant.1.within)) _ _ _ _ _ _ _ c.loop-turn.invariant.0 c.loop-turn.invariant.8 c.work-place.ensures.works c.work-place.ensures.ends, c.work-place.ensures.sits, c.work-place.auto.head ∙ c.loop-turn.invariant.2, c.work-place.auto.nodes ∙ c.loop-turn.invariant.3, c.work-place.auto.links ∙ c.loop-turn.invariant.4, c.work-place.auto.points ∙ c.loop-turn.invariant.5, c.work-place.auto.text ∙ c.text-1.given.1 ∙ c.loop-turn.invariant.6, c.work-place.auto.out ∙ c.loop-turn.invariant.7, said_yes _ _ c.goes_on.ensures c.if-not-goes_on.false-raw)

pub returns-then-not-hand_on : goal.returns-then-not-hand_on
returns-then-not-hand_on g c = turned_on g.R.Tree.kind (understood g.R.Program.made g.R.Tree.kind.axes) _ (c.loop-turn.text) _ (take_put (c.loop-turn.place.end) (length (c.loop-turn.text) - c.loop-turn.place.end) (c.loop-turn.text) (c.fetch-got.new.text) (c.loop-turn.invariant.1.within)) _ _ _ _ _ _ _ c.loop-turn.invariant.0 c.loop-turn.invariant.8 c.work-place.ensures.works c.work-place.ensures.ends

pub returns-then-not-goes_on : goal.returns-then-not-goes_on
returns-then-not-goes_on g c = turned_on g.R.Tree.kind (understood g.R.Program.made g.R.Tree.kind.axes) _ (c.loop-turn.text) _ (take_put (c.loop-turn.place.end) (length (c.loop-turn.text) - c.loop-turn.place.end) (c.loop-turn.text) (c.fetch-got.new.text) (c.loop-turn.invariant.1.within)) _ _ _ _ _ _ _ c.loop-turn.invariant.0 c.loop-turn.invariant.8 c.work-place.ensures.works c.work-place.ensures.ends
