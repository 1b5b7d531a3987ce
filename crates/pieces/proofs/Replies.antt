-- No refusal has the number of what is done.
use Prim.Native.Nat.{◌<◌}
use native.Mathlib.Omega.{arith}
use Rattle.model.specs.Calls.{number}
use Rattle.pieces.specs.Replies.{reply_of}
use Rattle.pieces.specs.declared.Refusal.{Refusal}
use Rattle.pieces.specs.declared.Refusal.TheVariants.{Outside, Absent, NoCapacity, BadBoundary, Full, NoNodes, NoRoom, Unsound, NotUnderstood, NoTree}

pub some_number : (e : Refusal) → 0 < number (reply_of e)
unfolding number
some_number Outside = omega arith
some_number Absent = omega arith
some_number NoCapacity = omega arith
some_number BadBoundary = omega arith
some_number Full = omega arith
some_number NoNodes = omega arith
some_number NoRoom = omega arith
some_number Unsound = omega arith
some_number NotUnderstood = omega arith
some_number NoTree = omega arith
