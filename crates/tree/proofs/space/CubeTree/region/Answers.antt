-- `tree::space::CubeTree::region`: the goals that the search leaves. Assumes nothing.
use mathlib.Core.Path.{refl}
use mathlib.Core.List.{zip_with}
use Rattle.tree.proofs.space.CubeTree.region.Goals as goal

pub returns : goal.returns
unfolding zip_with
returns c = refl
