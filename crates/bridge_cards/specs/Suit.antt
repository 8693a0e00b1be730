-- Suits in order (Law 1).
use Rattle.std.specs.Prelude.{ℕ, ◌==◌, if◌then◌else◌}
use Rattle.bridge_cards.specs.declared.suit.Suit.{Suit}
use Rattle.bridge_cards.specs.declared.suit.Suit.TheVariants.{Clubs, Diamonds, Hearts, Spades}

-- the index of a suit in the order of the suits, from 0
abbrev pub suit_number : Suit → ℕ
suit_number Clubs = 0
suit_number Diamonds = 1
suit_number Hearts = 2
suit_number Spades = 3

-- the suit at that index in the order of the suits
abbrev pub suit_at : ℕ → Suit
suit_at index = if index == 0 then Clubs else if index == 1 then Diamonds else if index == 2 then Hearts else Spades

-- the letter that stands for a suit, in ASCII
abbrev pub suit_letter : Suit → ℕ
suit_letter Clubs = 67
suit_letter Diamonds = 68
suit_letter Hearts = 72
suit_letter Spades = 83
