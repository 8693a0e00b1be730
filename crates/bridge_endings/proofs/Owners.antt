-- A card is in one of four hands at most, where no card is in two of them: so they are dealt out.
use Rattle.std.proofs.Common.{◌≡◌, ℕ, List, length, All, arith}
use Rattle.bridge_cards.specs.Seat.{seat_number}
use Rattle.bridge_cards.specs.CardSet.{IsCardSet}
use Rattle.bridge_cards.specs.Deal.{hand_at, NoneTwice, IsDeal}
use Rattle.bridge_cards.proofs.OneHolder.{one_holder, seat_few}
use Rattle.bridge_endings.specs.Ending.{IsEnding}
use Rattle.bridge_endings.specs.Worth.{dealt}
use Rattle.bridge_endings.specs.Agree.{IsDealtOut}
use Rattle.bridge_endings.proofs.SearchSteps.{inside_deck}

hands_dealt_out : (hands : List ℕ) → length hands ≡ 4 → All IsCardSet hands → NoneTwice hands → IsDealtOut (dealt hands)
hands_dealt_out hands four sets once = record {
  inside = λ seat card has. inside_deck (hand_at hands seat) card (sets (seat_number seat) 0 (omega (arith, four, seat_few seat))) has;
  once = one_holder hands four once;
}

pub ending_dealt_out : (hands : List ℕ) → IsEnding hands → IsDealtOut (dealt hands)
ending_dealt_out hands ending = hands_dealt_out hands ending.four ending.sets ending.once

pub deal_dealt_out : (hands : List ℕ) → IsDeal hands → IsDealtOut (dealt hands)
deal_dealt_out hands deal = hands_dealt_out hands deal.four (λ k d within. (deal.each k d within).set) deal.once
