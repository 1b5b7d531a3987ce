-- `tree_search::nearest::by_distance`: the goals that the search leaves. Assumes nothing.
use mathlib.Core.Path.{ap, ◌∙◌}
use Prim.Native.Nat.{ℕ, ◌+◌}
use native.Mathlib.Omega.{arith}
use lib.ListN.{replicate, take}
use Rattle.std.proofs.Common.{length-take-le}
use Rattle.model.specs.Boxes.{node_distance, part}
use Rattle.model.specs.Calls.{ways}
use Rattle.trees.proofs.Tables.{front_of, nears_read, ordered_all}
use Rattle.tree_search.proofs.nearest.by_distance.Goals as goal

pub returns : goal.returns
returns g c =
    let few = g.met.R.Tree.few_ways in
    let near = ap (λ (w : ℕ). take w c.loop-c.dist) c.ways-most.ensures
    ∙ nears_read (g.R.Region.sides c.args.bounds) (g.R.Point.Place.place c.args.target) 0 (ways g.R.Tree.kind) c.loop-c.dist (omega (arith, few, c.loop-c.invariant.0))
    (λ j h. c.loop-c.invariant.1 j (omega (arith, h, c.loop-c-test.false, c.ways-most.ensures)) ∙ ap (λ (n : ℕ). node_distance (part (g.R.Region.sides c.args.bounds) n) (g.R.Point.Place.place c.args.target)) {x = j} {y = 0 + j} (omega arith)) in
    let all = length-take-le c.ways-most.result (replicate 8 0) (omega (arith, few, c.ways-most.ensures)) ∙ c.ways-most.ensures in
    let both = ordered_all (g.R.Region.sides c.args.bounds) (g.R.Point.Place.place c.args.target) (ways g.R.Tree.kind) _ _ _ _ few near all c.order_children.ensures in (
      front_of _ _ _ (c.order_children.auto.dist ∙ length-take-le c.ways-most.result c.loop-c.dist (omega (arith, few, c.ways-most.ensures, c.loop-c.invariant.0)) ∙ c.ways-most.ensures) ∙ both.0,
      front_of _ _ _ (c.order_children.auto.item ∙ all) ∙ both.1,
    )
