use Rattle.std.proofs.Common.{take}
use Rattle.std.specs.Prelude.{flat_map}
use Rattle.line_text.specs.Streams.{between, Takes}
use Rattle.bridge_results.specs.BoardText.{frequency_row}
use Rattle.bridge_results.proofs.pages.frequencies.write_frequency_rows.Given as goal

abbrev pub invariant-loop-frequency : goal.invariant-loop-frequency
invariant-loop-frequency g l =
    Takes (between (g.W.Write.contents l.fn.writer) (g.W.Write.contents l.writer)) (flat_map (frequency_row l.format l.scoring) (take l.frequency-index l.frequencies))
