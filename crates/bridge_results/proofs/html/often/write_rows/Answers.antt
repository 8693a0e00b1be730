use Rattle.bridge_results.specs.HtmlOften.{often_row}
use Rattle.bridge_results.proofs.WrittenRows.{element_taken, element_failed}
use Rattle.bridge_results.proofs.html.often.write_rows.Goals as goal

pub returns-in_err-write_row : goal.returns-in_err-write_row
returns-in_err-write_row g c =
    element_failed (often_row c.args.plays) c.args.frequencies.now c.loop-frequency.frequency-index _
    (g.W.Write.contents c.args.writer.now) (g.W.Write.contents c.loop-frequency.writer) (g.W.Write.contents c.write_row.new.writer) c.from_residual.result
    c.from_residual.ensures.0 c.loop-frequency-test.true c.loop-frequency.invariant c.in_err-write_row.ensures

pub loop-frequency-preserved : goal.loop-frequency-preserved
loop-frequency-preserved g c =
    element_taken (often_row c.args.plays) c.args.frequencies.now c.loop-frequency.frequency-index _
    (g.W.Write.contents c.args.writer.now) (g.W.Write.contents c.loop-frequency.writer) (g.W.Write.contents c.write_row.new.writer)
    c.loop-frequency-test.true c.loop-frequency.invariant c.in_ok-write_row.ensures
