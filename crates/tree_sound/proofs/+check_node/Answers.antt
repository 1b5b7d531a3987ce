-- `tree_sound::check_node`: the goals that the search leaves. Assumes nothing.
use mathlib.Core.Path.{ap, ◌∙◌, refl}
use native.Mathlib.Omega.{arith}
use lib.Dec.{eqb}
use Rattle.words.specs.Words.{words}
use Rattle.model.specs.Boxes.{part}
use Rattle.trees.proofs.Checks.{counts, descending_start, descending_step, descending_not, descending_end, leaf_checked, check_deep, check_few, check_taken, check_divided}
use Rattle.tree_sound.proofs.+check_node.Goals as goal
use Rattle.tree_sound.proofs.+check_node.Goals.{then-node-eq0-via-then-node-eq0, then-node-eq0-via-else-node-eq0+then-n-capacity, then-node-eq0-via-else-node-eq0+else-n-capacity+then-not-claim}

pub returns-then-k-eq0 : goal.returns-then-k-eq0
returns-then-k-eq0 g t c = leaf_checked _ _ _ _ _ _ _ _ _ _ _ _ _ _ c.group-k.ensures c.if-k-eq0.true c.check_leaf.ensures

pub returns-then-node-eq0 : goal.returns-then-node-eq0
returns-then-node-eq0 g t c = elim c.then-node-eq0.branch [
  | then-node-eq0-via-then-node-eq0 w ↦ check_deep _ _ _ _ _ _ _ _ _ _ _ _ _ _ c.group-k.ensures c.if-k-eq0.false w.if-node-eq0.true
  | then-node-eq0-via-else-node-eq0+then-n-capacity w ↦ check_few _ _ _ _ _ _ _ _ _ _ _ _ _ _ _ (omega (arith, g.met.R.Tree.named.low)) c.group-k.ensures c.count-n.ensures c.if-k-eq0.false w.if-n-capacity.true
  | then-node-eq0-via-else-node-eq0+else-n-capacity+then-not-claim w ↦ check_taken _ _ _ _ _ _ _ _ _ _ _ _ _ _ _ _ _ (omega (arith, g.met.R.Tree.named.low)) c.group-k.ensures c.count-n.ensures c.if-k-eq0.false w.claim.ensures w.if-not-claim.true-raw
]

pub loop-c-init : goal.loop-c-init
loop-c-init g t c = descending_start _ _ _ _ _ _ _ _ _ _ _ _

pub returns-then-not-check_leaf : goal.returns-then-not-check_leaf
returns-then-not-check_leaf g t c = check_divided _ _ _ _ _ _ _ _ _ _ _ _ _ _ _ _ _ _ (omega (arith, g.met.R.Tree.named.low)) c.group-k.ensures c.count-n.ensures c.if-k-eq0.false c.if-node-eq0.false (omega (arith, c.if-n-capacity.false)) c.claim.ensures c.if-not-claim.false-raw (descending_not _ _ _ _ _ _ _ _ _ _ _ _ _ _ _ c.loop-c.invariant _ (part (g.R.Region.sides c.args.node.bounds) _) _ _ _ _ _ _ (omega (arith, c.loop-c-test.true)) c.kid-i.ensures.value refl c.narrowed-part.ensures (leaf_checked _ _ _ _ _ _ _ _ _ _ _ _ _ _ c.group.ensures c.if-group-eq0.true c.check_leaf-then-group-eq0.ensures) c.if-not-check_leaf.true-raw)

pub loop-c-preserved-then-group-eq0 : goal.loop-c-preserved-then-group-eq0
loop-c-preserved-then-group-eq0 g t c = descending_step _ _ _ _ _ _ _ _ _ _ _ _ _ _ _ c.loop-c.invariant _ (part (g.R.Region.sides c.args.node.bounds) _) _ _ _ _ (omega (arith, c.loop-c-test.true)) c.kid-i.ensures.value refl c.narrowed-part.ensures c.check_leaf-then-group-eq0.auto.homes refl (leaf_checked _ _ _ _ _ _ _ _ _ _ _ _ _ _ c.group.ensures c.if-group-eq0.true c.check_leaf-then-group-eq0.ensures) c.if-not-check_leaf.false-raw

pub returns-then-not-check_node : goal.returns-then-not-check_node
returns-then-not-check_node g t c = check_divided _ _ _ _ _ _ _ _ _ _ _ _ _ _ _ _ _ _ (omega (arith, g.met.R.Tree.named.low)) c.group-k.ensures c.count-n.ensures c.if-k-eq0.false c.if-node-eq0.false (omega (arith, c.if-n-capacity.false)) c.claim.ensures c.if-not-claim.false-raw (descending_not _ _ _ _ _ _ _ _ _ _ _ _ _ _ _ c.loop-c.invariant _ _ _ _ _ _ _ _ (omega (arith, c.loop-c-test.true)) c.kid-i.ensures.value c.child.ensures c.narrowed-part.ensures c.check_node.ensures c.if-not-check_node.true-raw)

pub loop-c-preserved : goal.loop-c-preserved
loop-c-preserved g t c = descending_step _ _ _ _ _ _ _ _ _ _ _ _ _ _ _ c.loop-c.invariant _ _ _ _ _ _ (omega (arith, c.loop-c-test.true)) c.kid-i.ensures.value c.child.ensures c.narrowed-part.ensures c.check_node.auto.homes c.check_node.auto.used c.check_node.ensures c.if-not-check_node.false-raw

pub returns : goal.returns
returns g t c = check_divided _ _ _ _ _ _ _ _ _ _ _ _ _ _ _ _ _ _ (omega (arith, g.met.R.Tree.named.low)) c.group-k.ensures c.count-n.ensures c.if-k-eq0.false c.if-node-eq0.false (omega (arith, c.if-n-capacity.false)) c.claim.ensures c.if-not-claim.false-raw (descending_end _ _ _ _ _ _ _ _ _ _ _ _ _ _ _ c.loop-c.invariant _ (omega (arith, c.loop-c-test.false)) (ap (λ s. eqb s c.count-n.result) (c.children_count.ensures ∙ ap (λ w. counts w (words c.args.tree.now.nodes.now) c.group-k.result 0 w) c.ways.ensures)))
