-- What a search asks: of the cards dealt, those that are left, and whether so many tricks are won.
use Rattle.std.specs.Prelude.{◌≡◌, ℕ, ◌+◌, ◌*◌, ◌<◌, ◌⊎◌, Bool, true, false, ◌&&◌, List, count_by}
use Rattle.bridge_cards.specs.declared.seat.Seat.{Seat}
use Rattle.bridge_cards.specs.declared.seat.Side.{Side}
use Rattle.bridge_cards.specs.declared.seat.Side.TheVariants.{NorthSouth, EastWest}
use Rattle.bridge_cards.specs.declared.suit.Suit.{Suit}
use Rattle.bridge_cards.specs.declared.suit.Suit.TheVariants.{Clubs, Diamonds, Hearts, Spades}
use Rattle.bridge_cards.specs.declared.seat.Seat.TheVariants.{North, East, South, West}
use Rattle.bridge_cards.specs.CardSet.{has_card, is_of_suit, deck}
use Rattle.bridge_cards.specs.Deal.{hand_at}

-- whether the seat was dealt the card, and it is left
abbrev pub left_to : List ℕ → ℕ → Seat → ℕ → Bool
left_to hands left seat card = has_card (hand_at hands seat) card && has_card left card

-- whether the side wants the answer to be yes
abbrev pub is_sought : Side → Bool
is_sought NorthSouth = true
is_sought EastWest = false

-- at the start of a trick, no tricks are needed, or more than are left
abbrev pub IsForegone : ℕ → ℕ → ℕ → Type 0
IsForegone played tricks need = (played ≡ 0) × ((need ≡ 0) ⊎ (tricks < need))

-- how many cards of the suit the hand has
abbrev pub suit_length : ℕ → Suit → ℕ
suit_length hand suit = count_by (λ card. has_card hand card && is_of_suit suit card) deck

-- how many it has of each suit, in one number
abbrev pub lengths_in : ℕ → ℕ
lengths_in hand = (suit_length hand Clubs * 16 + suit_length hand Diamonds) * 256 + (suit_length hand Hearts * 16 + suit_length hand Spades)

-- the same of four hands
abbrev pub all_lengths : List ℕ → ℕ
all_lengths hands =
    (lengths_in (hand_at hands North) * 65536 + lengths_in (hand_at hands East)) * 4294967296
    + (lengths_in (hand_at hands South) * 65536 + lengths_in (hand_at hands West))

-- of each suit the hands have as many cards
abbrev pub AreAsLong : ℕ → ℕ → Type 0
AreAsLong hand other = (suit : Suit) → suit_length hand suit ≡ suit_length other suit

-- of the cards that count the hands have the same
abbrev pub HoldAlike : ℕ → ℕ → ℕ → Type 0
HoldAlike counts hand other = (card : ℕ) → has_card counts card ≡ true → has_card hand card ≡ has_card other card
