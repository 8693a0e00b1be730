use Rattle.std.proofs.Common.{map, take}
use Rattle.line_text.specs.Streams.{between, Takes}
use Rattle.bridge_config.specs.Spelling.{row_text}
use Rattle.evening_draft.specs.ConfigText.{text_of}
use Rattle.evening_draft.proofs.rows.write_rows.Given as goal

abbrev pub invariant-loop-row : goal.invariant-loop-row
invariant-loop-row g l =
    Takes (between (g.W.Write.contents l.fn.writer) (g.W.Write.contents l.writer))
    (text_of (take l.row-index (map row_text l.rows)))
