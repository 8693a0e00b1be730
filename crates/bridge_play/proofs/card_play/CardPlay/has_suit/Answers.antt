use Rattle.bridge_cards.proofs.SuitHeld.{has_suit_by}
use Rattle.bridge_play.specs.Legal.{holds}
use Rattle.bridge_play.proofs.card_play.CardPlay.has_suit.Goals as goal

pub returns : goal.returns
returns c =
    has_suit_by (holds c.args.self.now.hands c.args.self.now.cards c.args.seat) c.args.led c.remaining.result c.of_suit.result c.requires
    c.remaining.ensures (λ card. rw (← c.suit.ensures) (c.of_suit.ensures card)) c.is_empty.result c.is_empty.ensures.cards
