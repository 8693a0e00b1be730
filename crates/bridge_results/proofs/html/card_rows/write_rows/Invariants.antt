use Rattle.bridge_config.specs.ConfigValue.{pair_of}
use Rattle.std.proofs.Common.{map, take}
use Rattle.std.specs.Prelude.{flat_map}
use Rattle.line_text.specs.Streams.{between, Takes}
use Rattle.bridge_results.specs.HtmlCard.{html_card_line}
use Rattle.bridge_results.proofs.html.card_rows.write_rows.Given as goal

abbrev pub invariant-loop-line : goal.invariant-loop-line
invariant-loop-line g l =
    Takes (between (g.W.Write.contents l.fn.writer) (g.W.Write.contents l.writer)) (flat_map (html_card_line l.scoring l.names (map pair_of l.pairs)) (take l.line-index l.lines))
