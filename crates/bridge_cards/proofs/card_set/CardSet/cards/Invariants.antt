use Rattle.std.proofs.Common.{◌≡◌, ◌++◌}
use Rattle.bridge_cards.specs.CardSet.{cards_of, card_count}
use Rattle.bridge_cards.proofs.card_set.CardSet.cards.Given as goal

abbrev pub invariant-loop-card : goal.invariant-loop-card
invariant-loop-card l = l.cards.items ++ cards_of l.rest ≡ cards_of l.fn.self

abbrev pub decreases-loop-card : goal.decreases-loop-card
decreases-loop-card l = card_count l.rest
