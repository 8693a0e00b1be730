use Rattle.std.proofs.Common.{take, length}
use Rattle.std.specs.Prelude.{flat_map}
use Rattle.std.specs.List.{range_with_len}
use Rattle.line_text.specs.Streams.{between, Takes}
use Rattle.bridge_results.specs.HtmlCourse.{call_row, fours}
use Rattle.bridge_results.proofs.html.course.write_call_rows.Given as goal

abbrev pub invariant-loop-line : goal.invariant-loop-line
invariant-loop-line g l =
    Takes (between (g.W.Write.contents l.fn.writer) (g.W.Write.contents l.writer)) (flat_map (call_row l.calls) (take l.line (range_with_len 0 (fours (length l.calls)))))
