use Rattle.std.proofs.Common.{sym, ◌∙◌}
use Rattle.event_results.proofs.Played.{ranked_some}
use Rattle.event_results.proofs.pages.sheets.write_ranked.Goals as goal

pub returns : goal.returns
returns g c =
    let some = ranked_some c.args.format c.args.sections.now c.args.among c.args.field c.args.ranking.now (sym c.is_empty.ensures ∙ c.if-is_empty.false) in
    rw some at c.write_ranking.ensures
