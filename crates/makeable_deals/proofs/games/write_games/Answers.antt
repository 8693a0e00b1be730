use Rattle.std.specs.Str.Lines.{lines}
use Rattle.makeable_deals.proofs.GamesWritten.{line_written, line_failed, all_written}
use Rattle.makeable_deals.proofs.games.write_games.Goals as goal

pub returns-in_err-write_game_line : goal.returns-in_err-write_game_line
returns-in_err-write_game_line g c =
    line_failed (g.W.Write.contents c.args.writer.now) (g.W.Write.contents c.loop-line.writer) (g.W.Write.contents c.write_game_line.new.writer)
    c.in-Some.line.now (lines c.loop-line.rest.now) (lines c.in-Some.after.now) (lines c.args.text.now) c.loop-line.left.now c.args.deals.now
    c.from_residual.result c.from_residual.ensures.0 c.in-Some.ensures c.in_err-write_game_line.ensures c.loop-line.invariant

pub loop-line-preserved : goal.loop-line-preserved
loop-line-preserved g c =
    rw c.deals_after-left.ensures
    (line_written (g.W.Write.contents c.args.writer.now) (g.W.Write.contents c.loop-line.writer) (g.W.Write.contents c.write_game_line.new.writer)
    c.in-Some.line.now (lines c.loop-line.rest.now) (lines c.in-Some.after.now) (lines c.args.text.now) c.loop-line.left.now c.args.deals.now
    c.in-Some.ensures c.in_ok-write_game_line.ensures c.loop-line.invariant)

pub returns : goal.returns
returns g c =
    all_written (g.W.Write.contents c.args.writer.now) (g.W.Write.contents c.loop-line.writer) (lines c.loop-line.rest.now) (lines c.args.text.now)
    c.loop-line.left.now c.args.deals.now c.in_default.ensures c.loop-line.invariant
