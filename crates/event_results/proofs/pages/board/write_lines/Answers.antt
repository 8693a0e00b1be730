use Rattle.page_layout.proofs.Walk.{one_taken, one_failed}
use Rattle.event_results.specs.EventPage.{line_row}
use Rattle.event_results.proofs.pages.board.write_lines.Goals as goal

pub returns-in_err-write_line : goal.returns-in_err-write_line
returns-in_err-write_line g c =
    one_failed (line_row c.args.format c.args.scoring) c.args.lines.now c.loop-line.line-index c.line-item.result
    (g.W.Write.contents c.args.writer.now) (g.W.Write.contents c.loop-line.writer) (g.W.Write.contents c.write_line.new.writer) c.from_residual.result
    c.loop-line.invariant c.in_err-write_line.ensures c.from_residual.ensures.0 c.line-item.is c.loop-line-test.true

pub loop-line-preserved : goal.loop-line-preserved
loop-line-preserved g c =
    one_taken (line_row c.args.format c.args.scoring) c.args.lines.now c.loop-line.line-index c.line-item.result
    (g.W.Write.contents c.args.writer.now) (g.W.Write.contents c.loop-line.writer) (g.W.Write.contents c.write_line.new.writer)
    c.loop-line-test.true c.line-item.is c.loop-line.invariant c.in_ok-write_line.ensures
