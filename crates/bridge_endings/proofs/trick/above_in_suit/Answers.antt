use Rattle.std.proofs.Common.{ap, ◌∙◌}
use Rattle.bridge_cards.specs.CardSet.{is_of_suit}
use Rattle.bridge_endings.proofs.Winning.{above_it}
use Rattle.bridge_endings.proofs.trick.above_in_suit.Goals as goal

pub returns : goal.returns
returns c = λ other inside.
    above_it c.suit_cards.result c.up_to.result c.difference.result c.args.card other c.suit_of.ensures.known (c.suit_cards.ensures other ∙ ap (λ suit. is_of_suit suit other) c.suit_of.ensures.suit) (c.up_to.ensures other) (c.difference.ensures other)
