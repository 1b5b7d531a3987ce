-- `sound::rest_is_free`: the goals that the search leaves. Assumes nothing.
use mathlib.Core.Path.{ap}
use mathlib.Core.Bool.{not}
use Rattle.std.proofs.Common.{rules}
use Rattle.trees.proofs.Marks.{rest_places, rest_groups, rest_all}
use Rattle.sound.proofs.Marks.{frees_as, groups_freed}
use Rattle.sound.proofs.rest_is_free.Goals as goal

pub returns-then-not-walk_free : goal.returns-then-not-walk_free
returns-then-not-walk_free c = rest_places _ _ _ _ _ _ _ (frees_as _ _ _ _ _ _ (c.walk_free.ensures _ (λ p r h e. search rules))) (ap not c.if-not-walk_free.true)

pub returns-then-not-walk_free-2 : goal.returns-then-not-walk_free-2
returns-then-not-walk_free-2 c =
    rest_groups _ _ _ _ _ _ _ _ _ (frees_as _ _ _ _ _ _ (c.walk_free.ensures _ (λ p r h e. search rules))) (ap not c.if-not-walk_free.false)
    (groups_freed _ _ _ _ _ (c.walk_free-2.ensures _ (λ p r h e. search rules))) (ap not c.if-not-walk_free-2.true)

pub returns : goal.returns
returns c =
    rest_all _ _ _ _ _ _ _ _ _ _ _ (frees_as _ _ _ _ _ _ (c.walk_free.ensures _ (λ p r h e. search rules))) (ap not c.if-not-walk_free.false)
    (groups_freed _ _ _ _ _ (c.walk_free-2.ensures _ (λ p r h e. search rules))) (ap not c.if-not-walk_free-2.false) c.all_met.ensures c.all_met-2.ensures
