use Rattle.std.proofs.Common.{◌∙◌, ap}
use Rattle.bridge_results.proofs.PageParts.{mapped_some, mapped_there}
use Rattle.results_pbn.specs.Totals.{first_board}
use Rattle.results_pbn.proofs.games.totals_of.Goals as goal

pub returns : goal.returns
returns c = record {
  board = c.first_board-board.ensures ∙ ap first_board c.plays.ensures;
  first = record {
    there = mapped_there c.ranking-first.result (λ ranked. ranked.items) ∙ c.ranking-first.ensures.field;
    ranked = mapped_some c.ranking-first.result (λ ranked. ranked.items) _ c.ranking-first.ensures.ranking;
  };
  second = record {
    there = mapped_there c.ranking-second.result (λ ranked. ranked.items) ∙ c.ranking-second.ensures.field;
    ranked = mapped_some c.ranking-second.result (λ ranked. ranked.items) _ c.ranking-second.ensures.ranking;
  };
}
