use Rattle.bridge_config.specs.ConfigValue.{pair_of}
use Rattle.std.proofs.Common.{map, take}
use Rattle.std.specs.Prelude.{flat_map}
use Rattle.line_text.specs.Streams.{between, Takes}
use Rattle.bridge_results.specs.HtmlPage.{html_ranked}
use Rattle.bridge_results.proofs.html.ranking.write_rows.Given as goal

abbrev pub invariant-loop-ranked : goal.invariant-loop-ranked
invariant-loop-ranked g l =
    Takes (between (g.W.Write.contents l.fn.writer) (g.W.Write.contents l.writer)) (flat_map (html_ranked l.scoring l.names (map pair_of l.pairs)) (take l.ranked-index l.ranking))
