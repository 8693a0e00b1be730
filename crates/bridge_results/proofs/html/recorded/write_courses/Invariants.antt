use Rattle.std.proofs.Common.{take}
use Rattle.std.specs.Prelude.{flat_map}
use Rattle.line_text.specs.Streams.{between, Takes}
use Rattle.bridge_results.specs.HtmlBoard.{line_course}
use Rattle.bridge_results.proofs.html.recorded.write_courses.Given as goal

abbrev pub invariant-loop-line : goal.invariant-loop-line
invariant-loop-line g l =
    Takes (between (g.W.Write.contents l.fn.writer) (g.W.Write.contents l.writer)) (flat_map (line_course l.names l.plays l.session) (take l.line-index l.lines))
