-- `sound::all_met`: what it looks at is all but the first. Assumes nothing.
use mathlib.Core.Bool.{not}
use lib.Dec.{eqb}
use Rattle.std.proofs.Common.{rules}
use Rattle.std.proofs.lemmas.Iterator.{YieldsList-from_slice}
use Rattle.std.proofs.lemmas.Iterator.Adapters.{YieldsList-from_skip}
use Rattle.std.proofs.lemmas.Iterator.Search.{all_from_yields_List}
use Rattle.sound.proofs.Marks.{all_met_is}
use Rattle.sound.proofs.all_met.Goals as goal

pub returns : goal.returns
returns c = all_met_is _ _ (all_from_yields_List (λ x. not (eqb x 0)) _ _ _ c.all.ensures.ran (YieldsList-from_skip 1 (YieldsList-from_slice c.args.marks.now cc) c.skip.ensures.count) (λ x b q k. search rules))
