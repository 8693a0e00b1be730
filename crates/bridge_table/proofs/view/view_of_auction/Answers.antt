use Rattle.std.proofs.Common.{length, refl, ap, ◌∙◌}
use Rattle.bridge_cards.specs.Seat.{clockwise_from}
use Rattle.bridge_table.proofs.view.view_of_auction.Goals as goal

pub returns : goal.returns
returns c = record {
  round_is = refl;
  table_is = refl;
  index = refl;
  board = refl;
  seat_is = refl;
  dealer = c.dealer.ensures;
  vulnerability = c.vulnerability_of.ensures;
  in_play = refl;
  turn = c.turn.ensures ∙ ap (λ dealer. clockwise_from dealer (length c.args.auction.now.calls)) c.requires;
  calls_made = ap length c.calls.ensures.calls;
  cards_made = refl;
  claims_made = refl;
  hand = c.dealt_to.ensures;
  dummy = refl;
  calls = c.calls-2.ensures.calls;
  few = c.calls-2.ensures.few;
  trick = refl;
  last = refl;
  tricks_ns = refl;
  tricks_ew = refl;
  claim = refl;
}
