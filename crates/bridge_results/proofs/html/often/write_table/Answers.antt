use Rattle.std.proofs.Common.{sym, ◌∙◌}
use Rattle.bridge_results.proofs.OftenParts.{some_often}
use Rattle.bridge_results.proofs.html.often.write_table.Goals as goal

pub returns : goal.returns
returns g c =
    let some = some_often c.args.plays c.args.frequencies.now (sym c.is_empty.ensures ∙ c.if-is_empty.false) in
    rw some at c.write_bars.ensures
