-- The text of four hands: a seat's letter, a colon, and the hands clockwise from that seat with single
-- spaces between. A hand is its spades, hearts, diamonds and clubs with dots between. A suit is the
-- letters of the ranks that the hand has in it, in any order; of a suit that it has not, there are none.
use Rattle.std.specs.Prelude.{ℕ, ◌≡◌, ◌==◌, List, [], ◌∷◌, ◌++◌, length, count_by, All, flat_map, if◌then◌else◌}
use Rattle.bridge_cards.specs.declared.suit.Suit.{Suit}
use Rattle.bridge_cards.specs.declared.suit.Suit.TheVariants.{Clubs, Diamonds, Hearts, Spades}
use Rattle.bridge_cards.specs.declared.seat.Seat.{Seat}
use Rattle.bridge_cards.specs.Seat.{seat_letter, clockwise_from}
use Rattle.bridge_cards.specs.Rank.{IsRank, rank_letter}
use Rattle.bridge_cards.specs.Card.{card_of}
use Rattle.bridge_cards.specs.CardSet.{IsCardSet, has_card}
use Rattle.bridge_cards.specs.Deal.{hand_at}

-- what stands between two hands, in ASCII
abbrev pub space : ℕ
space = 32

-- what stands between two suits
abbrev pub dot : ℕ
dot = 46

-- what stands after the seat's letter
abbrev pub colon : ℕ
colon = 58

-- the text is one of a kind P, the separator, and one of a kind Q
pub record Joined (separator : ℕ) (P Q : List ℕ → Type 0) (text : List ℕ) : Type 0 where
  pub before : List ℕ
  pub after : List ℕ
  pub first : P before
  pub rest : Q after
  pub whole : text ≡ before ++ separator ∷ after

-- some rank's letter
abbrev pub IsRankLetter : ℕ → Type 0
IsRankLetter letter = (rank : ℕ) × IsRank rank × (rank_letter rank ≡ letter)

-- each rank's letter stands once where the hand has its card of the suit, and otherwise not at all; and
-- nothing else stands there
pub record SpellsSuit (hand : ℕ) (suit : Suit) (letters : List ℕ) : Type 0 where
  pub ranks_only : All IsRankLetter letters
  pub once : (rank : ℕ) → IsRank rank
      → count_by (λ letter. letter == rank_letter rank) letters ≡ (if has_card hand (card_of suit rank) then 1 else 0)

-- the hand's spades, hearts, diamonds and clubs, with dots between
abbrev pub SpellsHand : ℕ → List ℕ → Type 0
SpellsHand hand =
    Joined dot (SpellsSuit hand Spades)
    (Joined dot (SpellsSuit hand Hearts) (Joined dot (SpellsSuit hand Diamonds) (SpellsSuit hand Clubs)))

-- the text of four hands in this order
abbrev pub SpellsFour : ℕ → ℕ → ℕ → ℕ → List ℕ → Type 0
SpellsFour one two three four =
    Joined space (SpellsHand one) (Joined space (SpellsHand two) (Joined space (SpellsHand three) (SpellsHand four)))

-- the text of the hands, which are given North's first
pub record SpellsDeal (hands : List ℕ) (text : List ℕ) : Type 0 where
  pub four : length hands ≡ 4
  pub sets : All IsCardSet hands
  pub first : Seat
  pub rest : List ℕ
  pub begins : text ≡ seat_letter first ∷ colon ∷ rest
  pub clockwise : SpellsFour (hand_at hands first) (hand_at hands (clockwise_from first 1)) (hand_at hands (clockwise_from first 2)) (hand_at hands (clockwise_from first 3)) rest

-- the text states four hands of which this holds
abbrev pub States : (List ℕ → Type 0) → List ℕ → Type 0
States P text = (hands : List ℕ) × SpellsDeal hands text × P hands

-- the text states no four hands
abbrev pub StatesNone : List ℕ → Type 0
StatesNone text = (hands : List ℕ) → ¬ SpellsDeal hands text

-- the text states no four hands but these
abbrev pub StatesOnly : List ℕ → List ℕ → Type 0
StatesOnly text hands = (other : List ℕ) → SpellsDeal other text → other ≡ hands

-- whatever four hands the text states, it states no others
abbrev pub StatesOnce : List ℕ → Type 0
StatesOnce text = (hands : List ℕ) → SpellsDeal hands text → StatesOnly text hands

-- the ranks from the ace to the 2
abbrev pub descending : List ℕ
descending = 14 ∷ 13 ∷ 12 ∷ 11 ∷ 10 ∷ 9 ∷ 8 ∷ 7 ∷ 6 ∷ 5 ∷ 4 ∷ 3 ∷ 2 ∷ []

-- the letter of a rank, where the hand has its card of the suit
abbrev pub letter_of : ℕ → Suit → ℕ → List ℕ
letter_of hand suit rank = if has_card hand (card_of suit rank) then rank_letter rank ∷ [] else []

-- the letters of a suit as they are printed
unfoldable pub suit_text : ℕ → Suit → List ℕ
suit_text hand suit = flat_map (letter_of hand suit) descending

-- a hand as it is printed
unfoldable pub hand_text : ℕ → List ℕ
hand_text hand =
    suit_text hand Spades ++ dot ∷ (suit_text hand Hearts ++ dot ∷ (suit_text hand Diamonds ++ dot ∷ suit_text hand Clubs))

-- the text as it is printed from a seat
unfoldable pub deal_text : List ℕ → Seat → List ℕ
deal_text hands first =
    seat_letter first ∷ colon ∷ (hand_text (hand_at hands first)
    ++ space ∷ (hand_text (hand_at hands (clockwise_from first 1))
    ++ space ∷ (hand_text (hand_at hands (clockwise_from first 2)) ++ space ∷ hand_text (hand_at hands (clockwise_from first 3)))))
