use Rattle.page_layout.proofs.Walk.{one_taken, one_failed}
use Rattle.results_pbn.specs.Scores.{score_row}
use Rattle.results_pbn.proofs.scores.write_rows.Goals as goal

pub returns-in_err-write_row : goal.returns-in_err-write_row
returns-in_err-write_row g c =
    one_failed (score_row c.args.scoring) c.args.lines.now c.loop-line.line-index c.line-item.result
    (g.W.Write.contents c.args.writer.now) (g.W.Write.contents c.loop-line.writer) (g.W.Write.contents c.write_row.new.writer) c.from_residual.result
    c.loop-line.invariant c.in_err-write_row.ensures c.from_residual.ensures.0 c.line-item.is c.loop-line-test.true

pub loop-line-preserved : goal.loop-line-preserved
loop-line-preserved g c =
    one_taken (score_row c.args.scoring) c.args.lines.now c.loop-line.line-index c.line-item.result
    (g.W.Write.contents c.args.writer.now) (g.W.Write.contents c.loop-line.writer) (g.W.Write.contents c.write_row.new.writer)
    c.loop-line-test.true c.line-item.is c.loop-line.invariant c.in_ok-write_row.ensures
