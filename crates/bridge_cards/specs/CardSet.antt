-- Sets of cards: the numbers in which bit n says whether card n is there.
use Rattle.std.specs.Prelude.{ℕ, Bool, ◌^◌, ◌<◌, ◌==◌, List, filter, count_by}
use Rattle.std.specs.List.{range_with_len}
use Rattle.std.specs.Int.{bit_at}
use Rattle.bridge_cards.specs.declared.suit.Suit.{Suit}
use Rattle.bridge_cards.specs.Suit.{suit_number}
use Rattle.bridge_cards.specs.Card.{suit_number_of}

-- no bit is set but those of the deck
abbrev pub IsCardSet : ℕ → Type 0
IsCardSet cards = cards < 2 ^ 52

-- whether the set has the card
unfoldable pub has_card : ℕ → ℕ → Bool
has_card cards card = bit_at cards card == 1

-- whether the card is of the suit
abbrev pub is_of_suit : Suit → ℕ → Bool
is_of_suit suit card = suit_number_of card == suit_number suit

-- the deck in order
unfoldable pub deck : List ℕ
deck = range_with_len 0 52

-- the cards of a set in order
unfoldable pub cards_of : ℕ → List ℕ
cards_of cards = filter (has_card cards) deck

-- how many cards a set has
unfoldable pub card_count : ℕ → ℕ
card_count cards = count_by (has_card cards) deck
