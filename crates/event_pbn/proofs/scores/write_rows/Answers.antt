use Rattle.page_layout.proofs.Walk.{one_taken, one_failed}
use Rattle.event_pbn.specs.SectionScores.{section_row}
use Rattle.event_pbn.proofs.scores.write_rows.Goals as goal

pub returns-in_err-write_section_row : goal.returns-in_err-write_section_row
returns-in_err-write_section_row g c =
    one_failed (section_row c.args.scoring) c.args.plays.now c.loop-play.play-index c.play-item.result
    (g.W.Write.contents c.args.writer.now) (g.W.Write.contents c.loop-play.writer) (g.W.Write.contents c.write_section_row.new.writer) c.from_residual.result
    c.loop-play.invariant c.in_err-write_section_row.ensures c.from_residual.ensures.0 c.play-item.is c.loop-play-test.true

pub loop-play-preserved : goal.loop-play-preserved
loop-play-preserved g c =
    one_taken (section_row c.args.scoring) c.args.plays.now c.loop-play.play-index c.play-item.result
    (g.W.Write.contents c.args.writer.now) (g.W.Write.contents c.loop-play.writer) (g.W.Write.contents c.write_section_row.new.writer)
    c.loop-play-test.true c.play-item.is c.loop-play.invariant c.in_ok-write_section_row.ensures
