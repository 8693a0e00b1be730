use Rattle.std.proofs.Common.{map, arith}
use Rattle.std.proofs.lemmas.List.{length-map}
use Rattle.page_layout.proofs.Walk.{one_taken, one_failed}
use Rattle.bridge_config.specs.Spelling.{row_text}
use Rattle.evening_draft.specs.ConfigText.{ended}
use Rattle.evening_draft.proofs.Lines.{row_there}
use Rattle.evening_draft.proofs.rows.write_rows.Goals as goal

pub returns-in_err-write_row : goal.returns-in_err-write_row
returns-in_err-write_row g c =
    let rows = c.args.rows.now in
    let i = c.loop-row.row-index in
    one_failed ended (map row_text rows) i _ (g.W.Write.contents c.args.writer.now)
    (g.W.Write.contents c.loop-row.writer) (g.W.Write.contents c.write_row.new.writer) c.from_residual.result
    c.loop-row.invariant c.in_err-write_row.ensures c.from_residual.ensures.0
    (row_there rows i _ _ c.loop-row-test.true) (omega (arith, c.loop-row-test.true, length-map rows row_text))

pub loop-row-preserved : goal.loop-row-preserved
loop-row-preserved g c =
    let rows = c.args.rows.now in
    let i = c.loop-row.row-index in
    one_taken ended (map row_text rows) i _ (g.W.Write.contents c.args.writer.now)
    (g.W.Write.contents c.loop-row.writer) (g.W.Write.contents c.write_row.new.writer)
    (omega (arith, c.loop-row-test.true, length-map rows row_text))
    (row_there rows i _ _ c.loop-row-test.true) c.loop-row.invariant c.in_ok-write_row.ensures
