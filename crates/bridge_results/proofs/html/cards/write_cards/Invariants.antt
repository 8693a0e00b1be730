use Rattle.std.specs.Option.{option_map}
use Rattle.std.proofs.Common.{◌-◌, ◌≤◌, take}
use Rattle.std.specs.Prelude.{flat_map}
use Rattle.std.specs.List.{range_with_len}
use Rattle.line_text.specs.Streams.{between, Takes}
use Rattle.bridge_results.specs.HtmlPage.{html_card_on}
use Rattle.bridge_results.proofs.html.cards.write_cards.Given as goal

abbrev pub invariant-loop-pair : goal.invariant-loop-pair
invariant-loop-pair g l = record {
  taken : Takes (between (g.W.Write.contents l.fn.writer) (g.W.Write.contents l.writer)) (flat_map (html_card_on l.names l.session (option_map (λ ranked. ranked.items) l.first) (option_map (λ ranked. ranked.items) l.second)) (take (l.pair - 1) (range_with_len 1 l.pairs)));
  least : 1 ≤ l.pair;
}
