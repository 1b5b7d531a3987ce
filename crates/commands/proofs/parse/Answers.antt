-- `commands::parse`: the goals that the search leaves. Assumes nothing.
use mathlib.Core.Path.{ap, ◌∙◌, refl}
use native.Mathlib.Omega.{arith}
use Rattle.std.specs.Prelude.{option_map}
use Rattle.commands.specs.Commands.{call_in}
use Rattle.commands.proofs.Said.{Spells, says_not, says_other, says_some, first_of, next_of, spelt, create_is, insert_is, delete_is, contains_is, range_is, knn_is, box_is, len_is, clear_is}
use Rattle.commands.proofs.parse.Goals as goal
use Rattle.commands.proofs.parse.Goals.{in-Create, in-Insert, in-Delete, in-Contains, in-Range, in-Knn, in-Box, in-Len, in-Clear}

pub returns-in_err-word : goal.returns-in_err-word
returns-in_err-word g c = ap (option_map (call_in g.R.Region.sides g.R.Point.Place.place)) c.from_residual.ensures ∙ says_other _ _ _ _ _ g.met.R.Program.plain c.unwrap_or-end.ensures c.find.ensures.found c.find.ensures.first c.find.ensures.nowhere _ _ c.word.ensures c.word_of.ensures c.in_err-word.was

pub returns-in_err-whole : goal.returns-in_err-whole
returns-in_err-whole g c =
    ap (option_map (call_in g.R.Region.sides g.R.Point.Place.place)) c.from_residual-in_err-whole.ensures
    ∙ says_not _ _ _ _ _ g.met.R.Program.plain c.unwrap_or-end.ensures c.find.ensures.found c.find.ensures.first c.find.ensures.nowhere _ _ c.word.ensures c.word_of.ensures c.in_ok-word.word _ _ _ _ g.met.R.Program.some_axes g.met.R.Program.few_axes c.axes.ensures refl c.in_ok-word.was c.numbers_of.ensures c.in_err-whole.was

pub returns : goal.returns
returns g c =
    let few = g.met.R.Program.few_axes in
    let many = c.axes-axes.ensures in
    let first = c.point-point.ensures ∙ first_of c.numbers_of.new.numbers _ g.R.Tree.kind.axes few (omega (arith, c.numbers_of.auto.numbers)) in
    let next = c.point-extent.ensures ∙ next_of c.numbers_of.new.numbers _ g.R.Tree.kind.axes c.axes-axes.result few (omega (arith, c.numbers_of.auto.numbers, many, few)) many in
    let call : Spells g.R.Region.sides g.R.Point.Place.place g.R.Tree.kind.axes c.numbers_of.new.numbers c.in_ok-whole.whole c.in_ok-word.word c.match-word.command = elim c.match-word.branch [
      | in-Create w ↦ spelt _ _ _ _ _ w.in-Create.is w.command-is (create_is _ _ _ _ _ _ _ _ _ few many first next w.region.ensures)
      | in-Insert w ↦ spelt _ _ _ _ _ w.in-Insert.is w.command-is (insert_is _ _ _ _ _ _ first)
      | in-Delete w ↦ spelt _ _ _ _ _ w.in-Delete.is w.command-is (delete_is _ _ _ _ _ _ first)
      | in-Contains w ↦ spelt _ _ _ _ _ w.in-Contains.is w.command-is (contains_is _ _ _ _ _ _ first)
      | in-Range w ↦ spelt _ _ _ _ _ w.in-Range.is w.command-is (range_is _ _ _ _ _ _ _ many first)
      | in-Knn w ↦ spelt _ _ _ _ _ w.in-Knn.is w.command-is (knn_is _ _ _ _ _ _ first)
      | in-Box w ↦ spelt _ _ _ _ _ w.in-Box.is w.command-is (box_is _ _ _ _ _ _ _ _ _ few many first next w.region-in-Box.ensures)
      | in-Len w ↦ spelt _ _ _ _ _ w.in-Len.is w.command-is (len_is _ _ _ _ _)
      | in-Clear w ↦ spelt _ _ _ _ _ w.in-Clear.is w.command-is (clear_is _ _ _ _ _)
    ] in
    says_some _ _ _ _ _ g.met.R.Program.plain c.unwrap_or-end.ensures c.find.ensures.found c.find.ensures.first c.find.ensures.nowhere _ _ c.word.ensures c.word_of.ensures c.in_ok-word.word _ _ _ _ g.met.R.Program.some_axes g.met.R.Program.few_axes c.axes.ensures refl c.in_ok-word.was c.numbers_of.ensures c.in_ok-whole.whole _ c.in_ok-whole.was call
