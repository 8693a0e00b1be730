use Rattle.std.proofs.Common.{take}
use Rattle.std.specs.Prelude.{flat_map}
use Rattle.line_text.specs.Streams.{between, Takes}
use Rattle.event_pbn.specs.EventTotals.{total_row}
use Rattle.event_pbn.proofs.totals.write_rows.Given as goal

abbrev pub invariant-loop-ranked : goal.invariant-loop-ranked
invariant-loop-ranked g l =
    Takes (between (g.W.Write.contents l.fn.writer) (g.W.Write.contents l.writer)) (flat_map (total_row l.two l.scoring l.sections l.field) (take l.ranked-index l.ranking))
