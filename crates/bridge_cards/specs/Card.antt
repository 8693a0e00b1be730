-- The deck (Law 1): a card is a number from 0 to 51.
use Rattle.std.specs.Prelude.{ℕ, ◌+◌, ◌-◌, ◌*◌, ◌/◌, ◌%◌, ◌<◌, Bool, ◌==◌, List, [], ◌∷◌}
use Rattle.bridge_cards.specs.declared.suit.Suit.{Suit}
use Rattle.bridge_cards.specs.Suit.{suit_number, suit_at, suit_letter}
use Rattle.bridge_cards.specs.Rank.{rank_letter}

-- a card of the deck
abbrev pub IsCard : ℕ → Type 0
IsCard card = card < 52

-- the suits one after another, each from its 2 to its ace
abbrev pub card_of : Suit → ℕ → ℕ
card_of suit rank = 13 * suit_number suit + (rank - 2)

-- the index of a card's suit in the order of the suits
abbrev pub suit_number_of : ℕ → ℕ
suit_number_of card = card / 13

-- the suit of a card
abbrev pub card_suit : ℕ → Suit
card_suit card = suit_at (suit_number_of card)

-- whether two cards are of one suit
abbrev pub same_suit : ℕ → ℕ → Bool
same_suit c d = suit_number_of c == suit_number_of d

-- the rank of a card
abbrev pub card_rank : ℕ → ℕ
card_rank card = card % 13 + 2

-- a card's text: its suit's letter, and its rank's
abbrev pub card_text : ℕ → List ℕ
card_text card = suit_letter (card_suit card) ∷ rank_letter (card_rank card) ∷ []
