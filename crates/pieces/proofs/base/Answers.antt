-- `pieces::base`: the goals that the search leaves. Assumes nothing.
use Rattle.pool.proofs.Steps.{product_small}
use native.Mathlib.Omega.{arith}
use Rattle.trees.proofs.Heads.{base_is}
use Rattle.pieces.proofs.base.Goals as goal

pub overflow_mul-result : goal.overflow_mul-result
overflow_mul-result c = omega (arith, product_small c.args.axes c.args.p (omega arith) (omega arith))

pub overflow_add-result : goal.overflow_add-result
overflow_add-result c = omega (arith, product_small c.args.axes c.args.p (omega arith) (omega arith))

pub returns : goal.returns
returns c = record { value = base_is c.args.axes c.args.p; near = omega (arith, product_small c.args.axes c.args.p (omega arith) (omega arith)) }
