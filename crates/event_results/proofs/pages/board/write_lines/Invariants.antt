use Rattle.std.proofs.Common.{take}
use Rattle.std.specs.Prelude.{flat_map}
use Rattle.line_text.specs.Streams.{between, Takes}
use Rattle.event_results.specs.EventPage.{line_row}
use Rattle.event_results.proofs.pages.board.write_lines.Given as goal

abbrev pub invariant-loop-line : goal.invariant-loop-line
invariant-loop-line g l =
    Takes (between (g.W.Write.contents l.fn.writer) (g.W.Write.contents l.writer)) (flat_map (line_row l.format l.scoring) (take l.line-index l.lines))
