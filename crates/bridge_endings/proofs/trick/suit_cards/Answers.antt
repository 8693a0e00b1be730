use Rattle.bridge_endings.proofs.Winning.{of_deck}
use Rattle.bridge_endings.proofs.trick.suit_cards.Goals as goal

pub returns : goal.returns
returns c = λ card. of_deck c.whole_deck.result c.of_suit.result c.args.suit card (c.whole_deck.ensures.all card) (c.of_suit.ensures card)
