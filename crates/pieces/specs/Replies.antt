-- The reply numbers of the code's answers: document 01, "Reply numbers". Definitions only.
use Rattle.std.specs.Prelude.{ℕ, Bool, true, false, Result, Ok, Err}
use Rattle.model.specs.Calls.{Reply, number, done, outside, absent, no_capacity, bad_boundary, full, no_nodes, no_room, unsound, not_understood, no_tree}
use Rattle.pieces.specs.declared.Refusal.{Refusal}
use Rattle.pieces.specs.declared.Refusal.TheVariants.{Outside, Absent, NoCapacity, BadBoundary, Full, NoNodes, NoRoom, Unsound, NotUnderstood, NoTree}

-- the reply of each refusal
abbrev pub reply_of : Refusal → Reply
reply_of Outside = outside
reply_of Absent = absent
reply_of NoCapacity = no_capacity
reply_of BadBoundary = bad_boundary
reply_of Full = full
reply_of NoNodes = no_nodes
reply_of NoRoom = no_room
reply_of Unsound = unsound
reply_of NotUnderstood = not_understood
reply_of NoTree = no_tree

-- the reply number of an answer
abbrev pub number_in : {A : Type 0} → Result A Refusal → ℕ
number_in (Ok x) = number done
number_in (Err e) = number (reply_of e)

-- the count of an answer: "where a count or a yes or no must still be handed over, it is 0"
abbrev pub count_in : Result ℕ Refusal → ℕ
count_in (Ok n) = n
count_in (Err e) = 0

-- a yes or no as a count
abbrev pub figure : Bool → ℕ
figure true = 1
figure false = 0

abbrev pub figure_in : Result Bool Refusal → ℕ
figure_in (Ok said) = figure said
figure_in (Err e) = 0
