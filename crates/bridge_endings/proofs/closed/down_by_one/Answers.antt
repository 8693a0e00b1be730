use Rattle.std.proofs.Common.{◌/◌, ◌∙◌, ap}
use Rattle.bridge_cards.specs.CardSet.{has_card}
use Rattle.bridge_endings.proofs.MovedCards.{down_bits, down_shift}
use Rattle.bridge_endings.proofs.closed.down_by_one.Goals as goal

pub returns-in-Some : goal.returns-in-Some
returns-in-Some c = λ card.
    ap (λ n. has_card n card) (c.in-Some.ensures.value ∙ down_shift c.bits.result ∙ ap (λ n. n / 2) c.bits.ensures.value) ∙ down_bits c.args.cards card
