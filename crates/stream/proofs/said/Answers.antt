-- `stream::said`: the goals that the search leaves. Assumes nothing.
use Prim.Native.Nat.{◌≤◌, ◌<◌}
use mathlib.Core.Path.{◌≡◌, ap, ◌∙◌, subst}
use lib.ListN.{length}
use Rattle.std.specs.Prelude.{MatchOption, option_map}
use Rattle.record.proofs.Streams.{ended_long, ended_short}
use Rattle.record.specs.Input.{begun, strip}
use Rattle.record.specs.Commands.{understood}
use Rattle.commands.specs.Commands.{call_in}
use Rattle.stream.proofs.said.Goals as goal

pub returns-in_err-record_of : goal.returns-in_err-record_of
returns-in_err-record_of g c = ap (option_map (call_in g.R.Region.sides g.R.Point.Place.place)) c.from_residual.ensures ∙ ended_long (understood g.R.Program.made g.R.Tree.kind.axes) _ (subst (λ o. MatchOption o (128 < length (strip (begun c.args.start c.args.line.now))) (λ r. (r.now ≡ strip (begun c.args.start c.args.line.now)) × (length r.now ≤ 128))) c.in_err-record_of.was c.record_of.ensures)

pub returns : goal.returns
returns g c = let r = subst (λ o. MatchOption o (128 < length (strip (begun c.args.start c.args.line.now))) (λ r. (r.now ≡ strip (begun c.args.start c.args.line.now)) × (length r.now ≤ 128))) c.in_ok-record_of.was c.record_of.ensures in
    ended_short (understood g.R.Program.made g.R.Tree.kind.axes) _ _ _ r.0 r.1 c.parse.ensures
