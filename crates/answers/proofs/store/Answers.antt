-- `answers::store`: the goals that the search leaves. Assumes nothing.
use mathlib.Core.Path.{ap, ◌∙◌}
use lib.Seq.{sets}
use Rattle.words.proofs.Words.{stored}
use Rattle.answers.proofs.store.Goals as goal

pub returns : goal.returns
returns g c = stored _ _ _ _ c.requires c.copy_from_slice.ensures.len ∙ ap (sets _ _) c.copy_from_slice.ensures.after
