-- Tricks (Laws 41 to 45): which cards follow suit, which card wins a trick, and who leads to the next. A card is its number, a
-- hand says of each card whether it has it, and trump is a suit, or none.
use Rattle.std.specs.Prelude.{ℕ, Bool, true, false, not, ◌&&◌, ◌||◌, ◌==◌, nat_lt, List, [], ◌∷◌, slice_index, position, unwrap_or, Option, Some, None}
use Rattle.std.specs.List.{list_all, list_any}
use Rattle.bridge_cards.specs.declared.suit.Suit.{Suit}
use Rattle.bridge_cards.specs.declared.seat.Seat.{Seat}
use Rattle.bridge_cards.specs.Card.{same_suit}
use Rattle.bridge_cards.specs.CardSet.{is_of_suit, deck}
use Rattle.bridge_cards.specs.Seat.{clockwise_from}

-- whether the hand has a card of the suit of that one
abbrev pub has_suit : (ℕ → Bool) → ℕ → Bool
has_suit hand led = list_any (λ card. hand card && same_suit card led) deck

-- whether the card leads to the trick, or is of the suit led, or the hand has none of that suit (Law 44); the cards are those
-- of the trick so far
abbrev pub follows_suit : (ℕ → Bool) → List ℕ → ℕ → Bool
follows_suit hand [] card = true
follows_suit hand (led ∷ others) card = same_suit card led || not (has_suit hand led)

-- whether the card is a trump; no card is where there is no trump suit
abbrev pub is_trump : Option Suit → ℕ → Bool
is_trump None card = false
is_trump (Some suit) card = is_of_suit suit card

-- Card c beats d in a trick to which that card was led: both are of one suit and c is higher, or c is a trump and d is
-- none, or c is of the suit led and d is neither of it nor a trump (Law 44).
abbrev pub beats : Option Suit → ℕ → ℕ → ℕ → Bool
beats trump led c d =
    (same_suit c d && nat_lt d c)
    || ((is_trump trump c && not (is_trump trump d))
    || (same_suit c led && (not (same_suit d led) && not (is_trump trump d))))

-- the card is d, or beats it
abbrev pub is_or_beats : Option Suit → ℕ → ℕ → ℕ → Bool
is_or_beats trump led c d = c == d || beats trump led c d

-- whether the card beats the others of the trick
abbrev pub wins : Option Suit → List ℕ → ℕ → Bool
wins trump trick card = list_all (is_or_beats trump (slice_index trick 0) card) trick

-- the index in the trick of the card that beats the others, 0 for the card led; of different cards one does
abbrev pub winning_index : Option Suit → List ℕ → ℕ
winning_index trump trick = unwrap_or (position (wins trump trick) trick) 0

-- the seat that leads to the next trick: the winner of this one (Law 44)
abbrev pub next_leader : Option Suit → Seat → List ℕ → Seat
next_leader trump leader trick = clockwise_from leader (winning_index trump trick)
