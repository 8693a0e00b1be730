use Rattle.std.proofs.Common.{take}
use Rattle.std.specs.Prelude.{flat_map}
use Rattle.line_text.specs.Streams.{between, Takes}
use Rattle.event_ranking.specs.EventText.{section_row}
use Rattle.event_ranking.proofs.sheet.write_rows.Given as goal

abbrev pub invariant-loop-ranked : goal.invariant-loop-ranked
invariant-loop-ranked g l =
    Takes (between (g.W.Write.contents l.fn.writer) (g.W.Write.contents l.writer)) (flat_map (section_row l.format l.scoring l.sections) (take l.ranked-index l.ranking))
