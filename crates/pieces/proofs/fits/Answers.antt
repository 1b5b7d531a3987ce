-- `pieces::fits`: the goals that the search leaves. Assumes nothing.
use native.Mathlib.Omega.{arith}
use Rattle.pool.proofs.Steps.{product_small}
use Rattle.pieces.specs.Views.{seen}
use Rattle.trees.proofs.Heads.{measured}
use Rattle.pieces.proofs.fits.Goals as goal

pub overflow_mul-result-2 : goal.overflow_mul-result-2
overflow_mul-result-2 c = omega (arith, product_small c.args.ways c.args.rows (omega arith) (omega arith))

pub overflow_add-result-2 : goal.overflow_add-result-2
overflow_add-result-2 c = omega (arith, product_small c.args.ways c.args.rows (omega arith) (omega arith))

pub overflow_mul-result-3 : goal.overflow_mul-result-3
overflow_mul-result-3 c = omega (arith, product_small c.args.ways c.args.rows (omega arith) (omega arith))

pub returns : goal.returns
returns c = measured _ _ _ (seen c.args.tree.now)
