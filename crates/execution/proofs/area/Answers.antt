-- `execution::area`: the goals that the search leaves. Assumes nothing.
use mathlib.Core.Path.{refl}
use lib.ListN.{replicate}
use Rattle.execution.proofs.Doing.{box_done}
use Rattle.execution.proofs.area.Goals as goal

pub returns-clause-answers : goal.returns-clause-answers
returns-clause-answers g c = box_done _ g.met.R.Program.some_axes g.met.R.Program.few_axes _ _ _ _ _ c.requires.bytes c.requires.room (replicate 12288 0) (replicate 2048 0) _ _ (refl, refl) (c.range_search_bbox-told.auto.coords, c.range_search_bbox-told.auto.payloads) _ _ c.axes.ensures c.put_told.ensures.puts_told _ c.range_search_bbox-told.ensures
