-- The four hands of a board (Law 1): North's, and then clockwise.
use Rattle.std.specs.Prelude.{ℕ, ◌≡◌, ◌≢◌, ◌<◌, ◌≤◌, ◌==◌, nat_le, Bool, ◌&&◌, List, length, slice_index, count_by, All, Any}
use Rattle.std.specs.List.{list_all}
use Rattle.bridge_cards.specs.declared.seat.Seat.{Seat}
use Rattle.bridge_cards.specs.Seat.{seat_number}
use Rattle.bridge_cards.specs.CardSet.{IsCardSet, has_card, deck, card_count}

-- the hand of a seat
abbrev pub hand_at : List ℕ → Seat → ℕ
hand_at hands seat = slice_index hands (seat_number seat)

-- how many of the hands have the card
abbrev pub holders : List ℕ → ℕ → ℕ
holders hands card = count_by (λ hand. has_card hand card) hands

-- no card is in two of the hands
abbrev pub NoneTwice : List ℕ → Type 0
NoneTwice hands = (card : ℕ) → holders hands card ≤ 1

-- some card is in two of the hands
abbrev pub SomeTwice : List ℕ → Type 0
SomeTwice hands = (card : ℕ) × (1 < holders hands card)

-- a hand as it is dealt
pub record IsHand (hand : ℕ) : Type 0 where
  pub set : IsCardSet hand
  pub thirteen : card_count hand ≡ 13

-- some hand has another number of cards than 13
abbrev pub SomeNotThirteen : List ℕ → Type 0
SomeNotThirteen hands = Any (λ hand. card_count hand ≢ 13) hands

-- no card is in two of the hands, but one has another number of cards than 13
abbrev pub IsUneven : List ℕ → Type 0
IsUneven hands = NoneTwice hands × SomeNotThirteen hands

-- a deal: four hands of 13, and no card in two of them
pub record IsDeal (hands : List ℕ) : Type 0 where
  pub four : length hands ≡ 4
  pub each : All IsHand hands
  pub once : NoneTwice hands

-- whether each card of the deck is in one of the hands at most
abbrev pub is_each_once : List ℕ → Bool
is_each_once hands = list_all (λ card. nat_le (holders hands card) 1) deck

-- whether the hands are a deal: 13 cards each, and no card in two of them
abbrev pub is_dealt_out : List ℕ → Bool
is_dealt_out hands = is_each_once hands && list_all (λ hand. card_count hand == 13) hands
