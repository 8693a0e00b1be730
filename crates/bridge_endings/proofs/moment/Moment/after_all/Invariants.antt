use Rattle.std.proofs.Common.{◌≡◌, drop}
use Rattle.bridge_endings.specs.PlayedCards.{seen, IsMoment, first_moment, after_cards, are_legal}
use Rattle.bridge_endings.proofs.moment.Moment.after_all.Given as goal

abbrev pub invariant-loop-card : goal.invariant-loop-card
invariant-loop-card l = record {
  moment : IsMoment l.fn.trump l.moment;
  after : after_cards l.fn.trump (seen l.moment) (drop l.card-index l.cards) ≡ after_cards l.fn.trump (first_moment l.fn.hands l.fn.declarer) l.cards;
  legal : are_legal l.fn.trump (seen l.moment) (drop l.card-index l.cards) ≡ are_legal l.fn.trump (first_moment l.fn.hands l.fn.declarer) l.cards;
}
