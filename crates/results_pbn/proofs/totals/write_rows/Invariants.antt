use Rattle.std.proofs.Common.{map, take}
use Rattle.std.specs.Prelude.{flat_map}
use Rattle.line_text.specs.Streams.{between, Takes}
use Rattle.bridge_config.specs.ConfigValue.{pair_of}
use Rattle.results_pbn.specs.Totals.{total_row}
use Rattle.results_pbn.proofs.totals.write_rows.Given as goal

abbrev pub invariant-loop-ranked : goal.invariant-loop-ranked
invariant-loop-ranked g l =
    Takes (between (g.W.Write.contents l.fn.writer) (g.W.Write.contents l.writer)) (flat_map (total_row l.two l.scoring (map pair_of l.pairs) l.field) (take l.ranked-index l.ranking))
