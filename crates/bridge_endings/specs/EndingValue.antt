-- What a contract sees of an ending: the hands by the seats' numbers, the trump suit if there is one, and the seat to lead.
use Rattle.std.specs.Prelude.{ℕ, List, Option}
use Rattle.bridge_cards.specs.declared.suit.Suit.{Suit}
use Rattle.bridge_cards.specs.declared.seat.Seat.{Seat}

-- four hands, what is trump, and who leads
pub record EndingValue : Type 0 where
  pub hands : List ℕ
  pub trump : Option Suit
  pub leader : Seat
