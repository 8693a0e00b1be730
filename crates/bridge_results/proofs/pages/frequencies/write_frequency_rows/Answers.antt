use Rattle.bridge_results.specs.BoardText.{frequency_row}
use Rattle.bridge_results.proofs.WrittenRows.{element_taken, element_failed}
use Rattle.bridge_results.proofs.pages.frequencies.write_frequency_rows.Goals as goal

pub returns-in_err-write_frequency : goal.returns-in_err-write_frequency
returns-in_err-write_frequency g c =
    element_failed (frequency_row c.args.format c.args.scoring) c.args.frequencies.now c.loop-frequency.frequency-index _
    (g.W.Write.contents c.args.writer.now) (g.W.Write.contents c.loop-frequency.writer) (g.W.Write.contents c.write_frequency.new.writer) c.from_residual.result
    c.from_residual.ensures.0 c.loop-frequency-test.true c.loop-frequency.invariant c.in_err-write_frequency.ensures

pub loop-frequency-preserved : goal.loop-frequency-preserved
loop-frequency-preserved g c =
    element_taken (frequency_row c.args.format c.args.scoring) c.args.frequencies.now c.loop-frequency.frequency-index _
    (g.W.Write.contents c.args.writer.now) (g.W.Write.contents c.loop-frequency.writer) (g.W.Write.contents c.write_frequency.new.writer)
    c.loop-frequency-test.true c.loop-frequency.invariant c.in_ok-write_frequency.ensures
