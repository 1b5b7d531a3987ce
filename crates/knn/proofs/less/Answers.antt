-- `knn::less`: the goals that the search leaves. Assumes nothing.
use mathlib.Core.Path.{sym, subst}
use lib.Dec.{T}
use Rattle.knn.proofs.Order.{less_is}
use Rattle.knn.proofs.less.Goals as goal

pub returns : goal.returns
returns c = less_is c.args.x c.args.y (subst T (sym c.well_formed.0.1) tt) (subst T (sym c.well_formed.1.0.1) tt)
