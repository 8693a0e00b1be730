use Rattle.std.proofs.Common.{◌≡◌, ◌==◌, ℕ, take}
use Rattle.std.specs.List.{list_any}
use Rattle.bridge_cards.specs.CardSet.{has_card}
use Rattle.bridge_cards.proofs.shuffle.set_of.Given as goal

abbrev pub invariant-loop-card : goal.invariant-loop-card
invariant-loop-card l =
    (card : ℕ) → has_card l.set card ≡ list_any (λ dealt. card == dealt) (take l.card-index l.cards)
