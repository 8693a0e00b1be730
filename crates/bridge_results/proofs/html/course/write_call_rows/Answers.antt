use Rattle.std.proofs.Common.{length, arith}
use Rattle.bridge_results.specs.HtmlCourse.{call_row, fours}
use Rattle.bridge_results.proofs.WrittenRows.{index_taken, index_failed, indexes_taken}
use Rattle.bridge_results.proofs.html.course.write_call_rows.Goals as goal

pub returns-in_err-write_calls : goal.returns-in_err-write_calls
returns-in_err-write_calls g c =
    index_failed (call_row c.args.calls.now) (fours (length c.args.calls.now)) c.loop-line.line
    (g.W.Write.contents c.args.writer.now) (g.W.Write.contents c.loop-line.writer) (g.W.Write.contents c.write_calls.new.writer) c.from_residual.result
    c.from_residual.ensures.0 c.loop-line-test.true c.loop-line.invariant c.in_err-write_calls.ensures

pub loop-line-preserved : goal.loop-line-preserved
loop-line-preserved g c =
    index_taken (call_row c.args.calls.now) (fours (length c.args.calls.now)) c.loop-line.line
    (g.W.Write.contents c.args.writer.now) (g.W.Write.contents c.loop-line.writer) (g.W.Write.contents c.write_calls.new.writer)
    c.loop-line-test.true c.loop-line.invariant c.in_ok-write_calls.ensures

pub returns : goal.returns
returns g c =
    indexes_taken (call_row c.args.calls.now) (fours (length c.args.calls.now)) c.loop-line.line
    (g.W.Write.contents c.args.writer.now) (g.W.Write.contents c.loop-line.writer) (omega arith) c.loop-line.invariant
