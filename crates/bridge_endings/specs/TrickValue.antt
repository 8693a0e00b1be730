-- What a contract sees of a trick that is being played: the trump suit, the seat that led, and the cards so far.
use Rattle.std.specs.Prelude.{◌≡◌, ℕ, ◌<◌, Bool, true, false, not, ◌&&◌, ◌||◌, nat_lt, List, length, slice_index, Option}
use Rattle.bridge_cards.specs.declared.suit.Suit.{Suit}
use Rattle.bridge_cards.specs.declared.seat.Seat.{Seat}
use Rattle.bridge_cards.specs.Card.{same_suit}
use Rattle.bridge_cards.specs.CardSet.{has_card}
use Rattle.bridge_cards.specs.Trick.{is_trump, wins}

-- a trick so far, by the seat that led to it
pub record TrickValue : Type 0 where
  pub trump : Option Suit
  pub leader : Seat
  pub cards : List ℕ

-- the card at that index beats the others, and none before it does
pub record IsWinning (trump : Option Suit) (trick : List ℕ) (index : ℕ) : Type 0 where
  pub within : index < length trick
  pub wins_there : wins trump trick (slice_index trick index) ≡ true
  pub first : (k : ℕ) → k < index → wins trump trick (slice_index trick k) ≡ false

-- whether a card beats that one where this wins a trick so far: it is higher in its suit, or a trump where that is none
abbrev pub is_over : Option Suit → ℕ → ℕ → Bool
is_over trump winner card = (same_suit card winner && nat_lt winner card) || (is_trump trump card && not (is_trump trump winner))

-- where a card is played, that card wins so far, at that index, and the cards that beat it are those
pub record IsKeptWinner (trump : Option Suit) (trick : List ℕ) (card index higher : ℕ) : Type 0 where
  pub winning : 0 < length trick → IsWinning trump trick index
  pub card_is : 0 < length trick → slice_index trick index ≡ card
  pub over : 0 < length trick → (other : ℕ) → other < 52 → has_card higher other ≡ is_over trump card other
