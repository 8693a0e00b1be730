use Rattle.std.proofs.Common.{◌≡◌, ◌+◌, ◌++◌, drop}
use Rattle.arrayvec.specs.ArrayVec.{array_vec_len}
use Rattle.bridge_cards.specs.CardSet.{card_count}
use Rattle.bridge_cards.specs.declared.seat.Side.TheVariants.{NorthSouth, EastWest}
use Rattle.bridge_endings.specs.SearchValue.{GoesOn, IsTable}
use Rattle.bridge_endings.specs.PlayedCards.{seen, IsMoment, first_moment, after_cards, are_legal, won_in_all, costs_of, given_by}
use Rattle.bridge_endings.proofs.costs.costs_in_all.Given as goal

abbrev pub invariant-loop-card : goal.invariant-loop-card
invariant-loop-card l = record {
  moment : IsMoment l.fn.search.trump l.moment;
  won : l.won ≡ won_in_all l.fn.search.trump (seen l.moment);
  after : after_cards l.fn.search.trump (seen l.moment) (drop l.card-index l.cards) ≡ after_cards l.fn.search.trump (first_moment l.fn.hands l.fn.declarer) l.cards;
  legal : are_legal l.fn.search.trump (seen l.moment) (drop l.card-index l.cards) ≡ are_legal l.fn.search.trump (first_moment l.fn.hands l.fn.declarer) l.cards;
  costs : l.costs.items ++ costs_of l.fn.search.trump (seen l.moment) (drop l.card-index l.cards) ≡ costs_of l.fn.search.trump (first_moment l.fn.hands l.fn.declarer) l.cards;
  explained : won_in_all l.fn.search.trump (first_moment l.fn.hands l.fn.declarer) + given_by EastWest l.costs.items ≡ l.won + given_by NorthSouth l.costs.items;
  room : array_vec_len l.costs + card_count l.moment.left ≡ 52;
  later : GoesOn l.fn.search l.search;
  table : IsTable l.table;
}
