use Rattle.std.proofs.Common.{take, length}
use Rattle.std.specs.Prelude.{flat_map}
use Rattle.std.specs.List.{range_with_len}
use Rattle.line_text.specs.Streams.{between, Takes}
use Rattle.event_results.specs.EventPage.{section_sheets}
use Rattle.event_results.proofs.pages.sheets.write_sections.Given as goal

abbrev pub invariant-loop-index : goal.invariant-loop-index
invariant-loop-index g l =
    Takes (between (g.W.Write.contents l.fn.writer) (g.W.Write.contents l.writer)) (flat_map (section_sheets l.format l.sections l.first l.second) (take l.index (range_with_len 0 (length l.sections))))
