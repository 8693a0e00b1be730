use Rattle.std.proofs.Common.{◌-◌, ◌≤◌, take}
use Rattle.std.specs.Prelude.{flat_map}
use Rattle.std.specs.List.{range_with_len}
use Rattle.line_text.specs.Streams.{between, Takes}
use Rattle.bridge_results.specs.ResultsText.{card_on}
use Rattle.bridge_results.proofs.pages.sheets.write_cards.Given as goal

abbrev pub invariant-loop-pair : goal.invariant-loop-pair
invariant-loop-pair g l = record {
  taken : Takes (between (g.W.Write.contents l.fn.writer) (g.W.Write.contents l.writer)) (flat_map (card_on l.format l.names l.session) (take (l.pair - 1) (range_with_len 1 l.pairs)));
  least : 1 ≤ l.pair;
}
