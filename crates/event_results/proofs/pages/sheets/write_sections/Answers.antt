use Rattle.std.proofs.Common.{length, arith}
use Rattle.event_results.specs.EventPage.{section_sheets}
use Rattle.bridge_results.proofs.WrittenRows.{index_taken, index_failed, indexes_taken}
use Rattle.event_results.proofs.pages.sheets.write_sections.Goals as goal

pub returns-in_err-write_section : goal.returns-in_err-write_section
returns-in_err-write_section g c =
    index_failed (section_sheets c.args.format c.args.sections.now c.args.first.now c.args.second.now) (length c.args.sections.now) c.loop-index.index
    (g.W.Write.contents c.args.writer.now) (g.W.Write.contents c.loop-index.writer) (g.W.Write.contents c.write_section.new.writer) c.from_residual.result
    c.from_residual.ensures.0 c.loop-index-test.true c.loop-index.invariant c.in_err-write_section.ensures

pub loop-index-preserved : goal.loop-index-preserved
loop-index-preserved g c =
    index_taken (section_sheets c.args.format c.args.sections.now c.args.first.now c.args.second.now) (length c.args.sections.now) c.loop-index.index
    (g.W.Write.contents c.args.writer.now) (g.W.Write.contents c.loop-index.writer) (g.W.Write.contents c.write_section.new.writer)
    c.loop-index-test.true c.loop-index.invariant c.in_ok-write_section.ensures

pub returns : goal.returns
returns g c =
    indexes_taken (section_sheets c.args.format c.args.sections.now c.args.first.now c.args.second.now) (length c.args.sections.now) c.loop-index.index
    (g.W.Write.contents c.args.writer.now) (g.W.Write.contents c.loop-index.writer) (omega arith) c.loop-index.invariant
