-- `replies::Page::put_found`: the goals that the search leaves. Assumes nothing.
use mathlib.Core.List.{◌++◌}
use native.Mathlib.Omega.{arith}
use Rattle.record.specs.Numbers.{decimal}
use Rattle.replies.specs.Lines.{field}
use Rattle.replies.specs.Printed.{points_from}
use Rattle.replies.proofs.Written.{then, done_written}
use Rattle.replies.proofs.Page.put_found.Goals as goal

pub put_points-requires-clause-n_in_bounds : goal.put_points-requires-clause-n_in_bounds
put_points-requires-clause-n_in_bounds c = omega (arith, c.requires.count_in_bounds, c.put_byte.ensures.same.1, c.put_whole.ensures.same.1, c.put_byte.ensures.end, c.put_whole.ensures.end)

pub put_end-requires : goal.put_end-requires
put_end-requires c = omega (arith, c.requires.count_in_bounds, c.put_byte.ensures.same.1, c.put_whole.ensures.same.1, c.put_points.ensures.same.1, c.put_byte.ensures.end, c.put_whole.ensures.end, c.put_points.ensures.end)

pub returns-clause-wrote : goal.returns-clause-wrote
returns-clause-wrote c = let a = c.args in
    let ps = points_from a.axes a.count a.coords.now a.payloads.now 0 in
    done_written a.self.now.out.now _ _ _ (field (decimal a.count) ++ ps) _ _ _ _ c.put_byte.ensures.wrote (then c.put_byte.new.self.out.now c.put_whole.new.self.out.now _ (field (decimal a.count)) ps _ _ _ c.put_whole.ensures.wrote c.put_points.ensures.wrote) c.put_end.ensures.wrote
