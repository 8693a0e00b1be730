use Rattle.bridge_results.specs.HtmlBoard.{line_course}
use Rattle.page_layout.proofs.Walk.{one_taken, one_failed}
use Rattle.bridge_results.proofs.html.recorded.write_courses.Goals as goal

pub returns-in_err-write_line_course : goal.returns-in_err-write_line_course
returns-in_err-write_line_course g c =
    one_failed (line_course c.args.names c.args.plays.now c.args.session.now) c.args.lines.now c.loop-line.line-index c.line-item.result
    (g.W.Write.contents c.args.writer.now) (g.W.Write.contents c.loop-line.writer) (g.W.Write.contents c.write_line_course.new.writer) c.from_residual.result
    c.loop-line.invariant c.in_err-write_line_course.ensures c.from_residual.ensures.0 c.line-item.is c.loop-line-test.true

pub loop-line-preserved : goal.loop-line-preserved
loop-line-preserved g c =
    one_taken (line_course c.args.names c.args.plays.now c.args.session.now) c.args.lines.now c.loop-line.line-index c.line-item.result
    (g.W.Write.contents c.args.writer.now) (g.W.Write.contents c.loop-line.writer) (g.W.Write.contents c.write_line_course.new.writer)
    c.loop-line-test.true c.line-item.is c.loop-line.invariant c.in_ok-write_line_course.ensures
