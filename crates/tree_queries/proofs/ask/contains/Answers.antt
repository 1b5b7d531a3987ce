-- `tree_queries::ask::contains`: the goals that the search leaves. Assumes nothing.
use mathlib.Core.Path.{refl, ap, sym}
use Rattle.trees.proofs.Collects.{said_no, said_yes}
use Rattle.trees.proofs.Finds.{Place}
use Rattle.trees.proofs.Queries.{contains_no, contains_outside, contains_yes}
use Rattle.pieces.specs.Views.{seen}
use Rattle.tree_queries.proofs.ask.contains.Goals as goal

pub returns-then-not-contains : goal.returns-then-not-contains
returns-then-not-contains g c = contains_outside g.R.Tree.kind (seen c.args.tree.now) _ _ c.boundary-bounds.ensures (said_no _ _ c.contains.ensures c.if-not-contains.true-raw)

pub returns-in-Ok : goal.returns-in-Ok
returns-in-Ok g c = contains_yes g.R.Tree.kind (seen c.args.tree.now) _ _ c.boundary-bounds.ensures _ _ _ c.numbers.ensures (said_yes _ _ c.contains.ensures c.if-not-contains.false-raw) c.leaf_of-leaf.ensures.node c.first-start.ensures c.in-Ok.ensures.0 c.in-Ok.ensures.1

pub returns-in-Err : goal.returns-in-Err
returns-in-Err g c = contains_no g.R.Tree.kind (seen c.args.tree.now) _ _ c.boundary-bounds.ensures _ _ _ c.numbers.ensures (said_yes _ _ c.contains.ensures c.if-not-contains.false-raw) c.leaf_of-leaf.ensures.node c.first-start.ensures refl (ap (λ (s : Place). s.place) (sym c.in-Err.ensures))
