use Rattle.std.proofs.Common.{sym, ◌∙◌}
use Rattle.event_results.proofs.Played.{played_some}
use Rattle.event_results.proofs.pages.boards.write_played.Goals as goal

pub returns : goal.returns
returns g c =
    let some = played_some c.args.format c.args.boards.now c.args.sections.now c.args.board c.args.lines.now (sym c.is_empty.ensures ∙ c.if-is_empty.false) in
    rw some at c.write_board.ensures
