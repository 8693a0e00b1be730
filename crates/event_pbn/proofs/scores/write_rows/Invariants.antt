use Rattle.std.proofs.Common.{take}
use Rattle.std.specs.Prelude.{flat_map}
use Rattle.line_text.specs.Streams.{between, Takes}
use Rattle.event_pbn.specs.SectionScores.{section_row}
use Rattle.event_pbn.proofs.scores.write_rows.Given as goal

abbrev pub invariant-loop-play : goal.invariant-loop-play
invariant-loop-play g l =
    Takes (between (g.W.Write.contents l.fn.writer) (g.W.Write.contents l.writer)) (flat_map (section_row l.scoring) (take l.play-index l.plays))
