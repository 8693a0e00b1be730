-- The hands of a board as a diagram: North at the top, West and East in the middle, South at the bottom.
use Rattle.std.specs.Prelude.{ℕ, if◌then◌else◌, List, [], ◌∷◌, ◌++◌, codes, flat_map}
use Rattle.bridge_cards.specs.declared.suit.Suit.{Suit}
use Rattle.bridge_cards.specs.declared.suit.Suit.TheVariants.{Clubs, Diamonds, Hearts, Spades}
use Rattle.bridge_cards.specs.declared.seat.Seat.TheVariants.{North, East, South, West}
use Rattle.bridge_cards.specs.Card.{card_of}
use Rattle.bridge_cards.specs.Rank.{rank_letter}
use Rattle.bridge_cards.specs.Suit.{suit_letter}
use Rattle.bridge_cards.specs.CardSet.{has_card}
use Rattle.bridge_cards.specs.Deal.{hand_at}
use Rattle.bridge_cards.specs.DealText.{descending}
use Rattle.page_layout.specs.declared.format.Format.{Format}
use Rattle.page_layout.specs.declared.format.Format.TheVariants.{Plain, Html}
use Rattle.page_layout.specs.Table.{row_text, table_start, table_end}
use Rattle.bridge_results.specs.declared.pages.columns.TheConstants.{HAND_COLUMNS}
use Rattle.bridge_results.specs.HtmlCells.{shown_letter}

-- letters, or a dash where there are none
abbrev pub or_dash : List ℕ → List ℕ
or_dash [] = codes "-"
or_dash (letter ∷ letters) = letter ∷ letters

-- the letter of a rank, in HTML with 10 for a ten
abbrev pub letter_in : Format → ℕ → List ℕ
letter_in Plain letter = letter ∷ []
letter_in Html letter = shown_letter letter

-- the same, where the hand has its card of the suit
abbrev pub rank_in : Format → ℕ → Suit → ℕ → List ℕ
rank_in format hand suit rank = if has_card hand (card_of suit rank) then letter_in format (rank_letter rank) else []

-- the letters of a hand's ranks in a suit, from the highest down
unfoldable pub suit_in : Format → ℕ → Suit → List ℕ
suit_in format hand suit = flat_map (rank_in format hand suit) descending

-- a suit of a hand, as `S AQ65`
abbrev pub suit_cell : Format → ℕ → Suit → List ℕ
suit_cell format hand suit = (suit_letter suit ∷ codes " ") ++ or_dash (suit_in format hand suit)

-- the suits as a diagram has them
abbrev pub suits : List Suit
suits = Spades ∷ Hearts ∷ Diamonds ∷ Clubs ∷ []

-- a suit of North's or South's hand
abbrev pub middle_row : Format → ℕ → Suit → List ℕ
middle_row format hand suit = row_text format HAND_COLUMNS ([] ∷ suit_cell format hand suit ∷ [] ∷ [])

-- a suit of West's and of East's hand
abbrev pub sides_row : Format → ℕ → ℕ → Suit → List ℕ
sides_row format west east suit = row_text format HAND_COLUMNS (suit_cell format west suit ∷ [] ∷ suit_cell format east suit ∷ [])

-- North's or South's hand
unfoldable pub middle_text : Format → ℕ → List ℕ
middle_text format hand = flat_map (middle_row format hand) suits

-- West's and East's hands
unfoldable pub sides_text : Format → ℕ → ℕ → List ℕ
sides_text format west east = flat_map (sides_row format west east) suits

-- the diagram of these hands
abbrev pub diagram_text : Format → List ℕ → List ℕ
diagram_text format hands =
    (((table_start format ++ middle_text format (hand_at hands North)) ++ sides_text format (hand_at hands West) (hand_at hands East))
    ++ middle_text format (hand_at hands South)) ++ table_end format
