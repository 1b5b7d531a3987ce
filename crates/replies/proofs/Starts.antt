-- Where a program begins: with no tree. Over any kind of tree.
use mathlib.Core.Path.{refl}
use mathlib.Core.Bool.{false}
use Rattle.model.specs.Calls.{Kind, broken}
use Rattle.trees.specs.Pieces.{Fits, Pieces}
use Rattle.replies.specs.Lines.{held?}
use Rattle.replies.specs.Programs.{Keeps}

-- pieces of the right length are enough
pub none_yet : (k : Kind) (s : Pieces) → Fits k s → Keeps k false s broken
unfolding held?
none_yet k s f = (refl, f)
