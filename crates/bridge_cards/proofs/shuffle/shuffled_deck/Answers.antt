use Rattle.std.proofs.Common.{rules}
use Rattle.bridge_cards.specs.Shuffle.{shuffled_deck}
use Rattle.bridge_cards.proofs.shuffle.shuffled_deck.Goals as goal

pub returns-clause-order : goal.returns-clause-order
unfolding shuffled_deck
returns-clause-order c = search rules
