-- `stream::feed`: the goals that the search leaves. Assumes nothing.
use mathlib.Core.Path.{◌∙◌, refl}
use mathlib.Core.List.{List}
use native.Mathlib.Omega.{arith}
use Prim.Native.Nat.{ℕ}
use lib.ListN.{drop}
use borrow.Author.Rules.{rules}
use Rattle.model.specs.Calls.{State}
use Rattle.trees.specs.Pieces.{pieces}
use Rattle.record.specs.Commands.{understood}
use Rattle.replies.specs.Programs.{Feeds, Keeps}
use Rattle.stream.proofs.Feeding.{fed_all, fed_full, fed_unended, feeding_less, feeding_start, feeding_step, feeding_within, handed_on, steps_as}
use Rattle.stream.proofs.feed.Goals as goal

pub loop-at-init : goal.loop-at-init
loop-at-init g c = (feeding_start g.R.Tree.kind (understood g.R.Program.made g.R.Tree.kind.axes) _ _ _ _ _, refl, refl, refl, refl, (refl, refl))

pub overflow_add-at : goal.overflow_add-at
overflow_add-at g c = record { fits = omega (arith, feeding_within g.R.Tree.kind (understood g.R.Program.made g.R.Tree.kind.axes) _ _ _ _ _ _ _ _ _ _ _ c.loop-at.invariant.0 _ _ _ _ _ (steps_as g.R.Tree.kind (understood g.R.Program.made g.R.Tree.kind.axes) _ _ _ _ _ _ _ _ _ _ _ c.in-Line.is c.read_line.ensures.steps), c.well_formed.0.0) }

pub loop-at-smaller : goal.loop-at-smaller
loop-at-smaller g c = feeding_less g.R.Tree.kind (understood g.R.Program.made g.R.Tree.kind.axes) _ _ _ _ _ _ _ _ _ _ _ c.loop-at.invariant.0 _ _ _ _ _ (steps_as g.R.Tree.kind (understood g.R.Program.made g.R.Tree.kind.axes) _ _ _ _ _ _ _ _ _ _ _ c.in-Line.is c.read_line.ensures.steps)

pub loop-at-preserved : goal.loop-at-preserved
loop-at-preserved g c = (feeding_step g.R.Tree.kind (understood g.R.Program.made g.R.Tree.kind.axes) _ _ _ _ _ _ _ _ _ _ _ c.loop-at.invariant.0 _ _ _ _ _ (steps_as g.R.Tree.kind (understood g.R.Program.made g.R.Tree.kind.axes) _ _ _ _ _ _ _ _ _ _ _ c.in-Line.is c.read_line.ensures.steps) c.read_line.ensures.same.1, c.read_line.auto.head ∙ c.loop-at.invariant.1, c.read_line.auto.nodes ∙ c.loop-at.invariant.2, c.read_line.auto.links ∙ c.loop-at.invariant.3, c.read_line.auto.points ∙ c.loop-at.invariant.4, (c.read_line.ensures.same.0 ∙ c.loop-at.invariant.5.0, c.read_line.ensures.same.1 ∙ c.loop-at.invariant.5.1))

pub returns-in-Unended-clause-feeds : goal.returns-in-Unended-clause-feeds
returns-in-Unended-clause-feeds g c = handed_on (λ (o : List ℕ). (a : State) → Keeps g.R.Tree.kind c.args.held (pieces c.args.head.now c.args.nodes.now c.args.links.now c.args.points.now) a → Feeds g.R.Tree.kind (understood g.R.Program.made g.R.Tree.kind.axes) a c.args.start c.args.text.now (pieces c.args.head.now c.args.nodes.now c.args.links.now c.args.points.now) c.loop-at.has (pieces c.read_line.new.head c.read_line.new.nodes c.read_line.new.links c.read_line.new.points) c.loop-at.first (drop c.loop-at.at c.args.text.now) c.args.out.now 0 o c.read_line.new.page.at) _ _ (fed_unended g.R.Tree.kind (understood g.R.Program.made g.R.Tree.kind.axes) _ _ _ _ _ _ _ _ _ _ _ c.loop-at.invariant.0 _ _ _ (steps_as g.R.Tree.kind (understood g.R.Program.made g.R.Tree.kind.axes) _ _ _ _ _ _ _ _ _ _ _ c.in-Unended.is c.read_line.ensures.steps)).0 (search rules)

pub returns-in-Unended-clause-bounds : goal.returns-in-Unended-clause-bounds
returns-in-Unended-clause-bounds g c = (fed_unended g.R.Tree.kind (understood g.R.Program.made g.R.Tree.kind.axes) _ _ _ _ _ _ _ _ _ _ _ c.loop-at.invariant.0 _ _ _ (steps_as g.R.Tree.kind (understood g.R.Program.made g.R.Tree.kind.axes) _ _ _ _ _ _ _ _ _ _ _ c.in-Unended.is c.read_line.ensures.steps)).1.0

pub returns-in-Unended-clause-stopped : goal.returns-in-Unended-clause-stopped
returns-in-Unended-clause-stopped g c = (fed_unended g.R.Tree.kind (understood g.R.Program.made g.R.Tree.kind.axes) _ _ _ _ _ _ _ _ _ _ _ c.loop-at.invariant.0 _ _ _ (steps_as g.R.Tree.kind (understood g.R.Program.made g.R.Tree.kind.axes) _ _ _ _ _ _ _ _ _ _ _ c.in-Unended.is c.read_line.ensures.steps)).1.1

pub returns-in-Full-clause-feeds : goal.returns-in-Full-clause-feeds
returns-in-Full-clause-feeds g c = handed_on (λ (o : List ℕ). (a : State) → Keeps g.R.Tree.kind c.args.held (pieces c.args.head.now c.args.nodes.now c.args.links.now c.args.points.now) a → Feeds g.R.Tree.kind (understood g.R.Program.made g.R.Tree.kind.axes) a c.args.start c.args.text.now (pieces c.args.head.now c.args.nodes.now c.args.links.now c.args.points.now) c.loop-at.has (pieces c.read_line.new.head c.read_line.new.nodes c.read_line.new.links c.read_line.new.points) c.loop-at.first (drop c.loop-at.at c.args.text.now) c.args.out.now 0 o c.read_line.new.page.at) _ _ (fed_full g.R.Tree.kind (understood g.R.Program.made g.R.Tree.kind.axes) _ _ _ _ _ _ _ _ _ _ _ c.loop-at.invariant.0 _ _ _ (steps_as g.R.Tree.kind (understood g.R.Program.made g.R.Tree.kind.axes) _ _ _ _ _ _ _ _ _ _ _ c.in-Full.is c.read_line.ensures.steps)).0 (search rules)

pub returns-in-Full-clause-bounds : goal.returns-in-Full-clause-bounds
returns-in-Full-clause-bounds g c = (fed_full g.R.Tree.kind (understood g.R.Program.made g.R.Tree.kind.axes) _ _ _ _ _ _ _ _ _ _ _ c.loop-at.invariant.0 _ _ _ (steps_as g.R.Tree.kind (understood g.R.Program.made g.R.Tree.kind.axes) _ _ _ _ _ _ _ _ _ _ _ c.in-Full.is c.read_line.ensures.steps)).1.0

pub returns-in-Full-clause-stopped : goal.returns-in-Full-clause-stopped
returns-in-Full-clause-stopped g c = (fed_full g.R.Tree.kind (understood g.R.Program.made g.R.Tree.kind.axes) _ _ _ _ _ _ _ _ _ _ _ c.loop-at.invariant.0 _ _ _ (steps_as g.R.Tree.kind (understood g.R.Program.made g.R.Tree.kind.axes) _ _ _ _ _ _ _ _ _ _ _ c.in-Full.is c.read_line.ensures.steps)).1.1

pub returns-clause-feeds : goal.returns-clause-feeds
returns-clause-feeds g c = handed_on (λ (o : List ℕ). (a : State) → Keeps g.R.Tree.kind c.args.held (pieces c.args.head.now c.args.nodes.now c.args.links.now c.args.points.now) a → Feeds g.R.Tree.kind (understood g.R.Program.made g.R.Tree.kind.axes) a c.args.start c.args.text.now (pieces c.args.head.now c.args.nodes.now c.args.links.now c.args.points.now) c.loop-at.has (pieces c.loop-at.head c.loop-at.nodes c.loop-at.links c.loop-at.points) c.loop-at.first (drop c.loop-at.at c.args.text.now) c.args.out.now 0 o c.loop-at.page.at) _ _ (fed_all g.R.Tree.kind (understood g.R.Program.made g.R.Tree.kind.axes) _ _ _ _ _ _ _ _ _ _ _ c.loop-at.invariant.0 c.loop-at-test.false).0 (search rules)

pub returns-clause-bounds : goal.returns-clause-bounds
returns-clause-bounds g c = (fed_all g.R.Tree.kind (understood g.R.Program.made g.R.Tree.kind.axes) _ _ _ _ _ _ _ _ _ _ _ c.loop-at.invariant.0 c.loop-at-test.false).1.0

pub returns-clause-stopped : goal.returns-clause-stopped
returns-clause-stopped g c = (fed_all g.R.Tree.kind (understood g.R.Program.made g.R.Tree.kind.axes) _ _ _ _ _ _ _ _ _ _ _ c.loop-at.invariant.0 c.loop-at-test.false).1.1
