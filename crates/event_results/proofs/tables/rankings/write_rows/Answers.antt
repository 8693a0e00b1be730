use Rattle.event_results.specs.EventTables.{ranked_row}
use Rattle.bridge_results.proofs.WrittenRows.{element_taken, element_failed}
use Rattle.event_results.proofs.tables.rankings.write_rows.Goals as goal

pub returns-in_err-write_row : goal.returns-in_err-write_row
returns-in_err-write_row g c =
    element_failed (ranked_row c.args.scoring c.args.sections.now c.args.field) c.args.ranking.now c.loop-ranked.ranked-index _
    (g.W.Write.contents c.args.writer.now) (g.W.Write.contents c.loop-ranked.writer) (g.W.Write.contents c.write_row.new.writer) c.from_residual.result
    c.from_residual.ensures.0 c.loop-ranked-test.true c.loop-ranked.invariant c.in_err-write_row.ensures

pub loop-ranked-preserved : goal.loop-ranked-preserved
loop-ranked-preserved g c =
    element_taken (ranked_row c.args.scoring c.args.sections.now c.args.field) c.args.ranking.now c.loop-ranked.ranked-index _
    (g.W.Write.contents c.args.writer.now) (g.W.Write.contents c.loop-ranked.writer) (g.W.Write.contents c.write_row.new.writer)
    c.loop-ranked-test.true c.loop-ranked.invariant c.in_ok-write_row.ensures
