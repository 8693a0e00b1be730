use Rattle.std.proofs.Common.{take}
use Rattle.std.specs.Prelude.{flat_map}
use Rattle.line_text.specs.Streams.{between, Takes}
use Rattle.bridge_results.specs.HtmlBoard.{html_line}
use Rattle.bridge_results.proofs.html.lines.write_rows.Given as goal

abbrev pub invariant-loop-line : goal.invariant-loop-line
invariant-loop-line g l =
    Takes (between (g.W.Write.contents l.fn.writer) (g.W.Write.contents l.writer)) (flat_map (html_line l.scoring l.available) (take l.line-index l.lines))
