-- `groups::has_groups`: the goals that the search leaves. Assumes nothing.
use Rattle.std.proofs.Common.{ap₂, ◌∙◌, arith}
use Rattle.groups.proofs.Walks.{enough_end, enough_stop, enough_go, tells}
use Rattle.words.specs.Words.{words}
use Rattle.pool.specs.Writes.{enough}
use Rattle.groups.proofs.has_groups.Goals as goal

pub loop-init : goal.loop-init
loop-init c = ap₂ (λ m h. enough c.args.ways (words c.args.nodes.now) m h) (omega arith) c.get-k.ensures

pub returns-then-k-eq0 : goal.returns-then-k-eq0
returns-then-k-eq0 c = let r = tells _ _ _ _ (enough_stop _ _ _ _ (omega arith) c.if-k-eq0.true ∙ c.loop.invariant) in record { value = r.0; tree = r.1 }

pub loop-preserved : goal.loop-preserved
loop-preserved c = enough_go _ _ _ _ _ _ _ (omega arith) c.if-k-eq0.false c.child.ensures.value c.group-k.ensures ∙ c.loop.invariant

pub returns : goal.returns
returns c = let r = tells _ _ _ _ (enough_end _ _ _ _ (omega arith) ∙ c.loop.invariant) in record { value = r.0; tree = r.1 }
