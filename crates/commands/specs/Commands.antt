-- What a command says: document 01, "Each record becomes one command that carries its numbers." Definitions only; `sides` and `place` say which boxes and points
-- of the model the code's are.
use Rattle.std.specs.Prelude.{ℕ, cond, eqb, List, Float}
use Rattle.model.specs.Boxes.{Side}
use Rattle.model.specs.Calls as calls
use Rattle.record.specs.Commands.{word_oct, word_quad}
use Rattle.commands.specs.declared.Command.{Command}
use Rattle.commands.specs.declared.Command.TheVariants.{Create, Insert, Delete, Contains, Range, Knn, Box, Len, Clear}

-- "The octree's program has oct for quad": the word that makes a tree of a kind, which is the octree where there are three axes
abbrev pub made_for : calls.Kind → List ℕ
made_for k = cond (eqb k.axes 3) word_oct word_quad

-- the call of each case. A search is lent places for as many points as a tree can hold
unfoldable pub call_in : {R P : Type 0} (sides : R → List Side) (place : P → List Float) → Command R P → calls.Call
call_in sides place (Create b capacity) = calls.Create (sides b) capacity
call_in sides place (Insert p n) = calls.Insert (record { at = place p; payload = n })
call_in sides place (Delete p n) = calls.Delete (record { at = place p; payload = n })
call_in sides place (Contains p n) = calls.Ask (calls.Contains (record { at = place p; payload = n }))
call_in sides place (Range p radius) = calls.Ask (calls.Radius (place p) radius 512)
call_in sides place (Knn p k) = calls.Ask (calls.Nearest (place p) k 512)
call_in sides place (Box b) = calls.Ask (calls.Box (sides b) 512)
call_in sides place Len = calls.Ask calls.Len
call_in sides place Clear = calls.Clear
