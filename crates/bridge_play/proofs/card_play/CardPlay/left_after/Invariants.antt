use Rattle.std.proofs.Common.{◌≡◌, ℕ, length, take}
use Rattle.bridge_cards.specs.declared.seat.Seat.{Seat}
use Rattle.bridge_cards.specs.CardSet.{has_card}
use Rattle.bridge_cards.specs.Deal.{hand_at}
use Rattle.bridge_play.specs.Legal.{holds}
use Rattle.bridge_play.proofs.card_play.CardPlay.left_after.Given as goal

abbrev pub invariant-loop-card : goal.invariant-loop-card
invariant-loop-card l =
    (length l.left ≡ 4)
    × ((seat : Seat) (card : ℕ) → has_card (hand_at l.left seat) card ≡ holds l.fn.self.hands (take l.card-index l.played) seat card)
