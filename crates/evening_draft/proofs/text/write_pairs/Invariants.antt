use Rattle.std.proofs.Common.{map, take}
use Rattle.line_text.specs.Streams.{between, Takes}
use Rattle.bridge_config.specs.ConfigValue.{pair_of}
use Rattle.bridge_config.specs.Spelling.{pair_lines}
use Rattle.evening_draft.specs.ConfigText.{text_of}
use Rattle.evening_draft.proofs.text.write_pairs.Given as goal

abbrev pub invariant-loop-index : goal.invariant-loop-index
invariant-loop-index g l =
    Takes (between (g.W.Write.contents l.fn.writer) (g.W.Write.contents l.writer))
    (text_of (take l.index (pair_lines 1 (map pair_of l.pairs))))
