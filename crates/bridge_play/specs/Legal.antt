-- Which lists of cards are legal (Laws 44 and 45).
use Rattle.std.specs.Prelude.{◌≡◌, ℕ, Bool, true, not, ◌&&◌, ◌==◌, List}
use Rattle.std.specs.List.{list_any}
use Rattle.bridge_cards.specs.declared.seat.Seat.{Seat}
use Rattle.bridge_cards.specs.EachMayFollow.{EachMayFollow}
use Rattle.bridge_cards.specs.CardSet.{has_card}
use Rattle.bridge_cards.specs.Deal.{hand_at}
use Rattle.bridge_cards.specs.Trick.{follows_suit}
use Rattle.bridge_auction.specs.declared.contract.Contract.{Contract}
use Rattle.bridge_play.specs.Trick.{trick_at, whole_tricks, turn_of}

-- whether the card stands in the list
abbrev pub was_played : List ℕ → ℕ → Bool
was_played cards card = list_any (λ other. card == other) cards

-- whether the seat still holds the card after those cards
abbrev pub holds : List ℕ → List ℕ → Seat → ℕ → Bool
holds hands cards seat card = has_card (hand_at hands seat) card && not (was_played cards card)

-- the cards of the trick that is not whole
abbrev pub current_trick : List ℕ → List ℕ
current_trick cards = trick_at cards (whole_tricks cards)

-- whether the card leads to a trick, or is of the suit led, or the hand has none of that suit
abbrev pub follows : List ℕ → List ℕ → Seat → ℕ → Bool
follows hands cards seat card = follows_suit (holds hands cards seat) (current_trick cards) card

-- whether the hand to play may play the card after those
abbrev pub may_play : List ℕ → Contract → List ℕ → ℕ → Bool
may_play hands contract cards card =
    holds hands cards (turn_of contract cards) card && follows hands cards (turn_of contract cards) card

-- the card may be played after those cards
pub record MayPlay (hands : List ℕ) (contract : Contract) (earlier : List ℕ) (card : ℕ) : Type 0 where
  pub held : holds hands earlier (turn_of contract earlier) card ≡ true
  pub following : follows hands earlier (turn_of contract earlier) card ≡ true

-- A legal list of cards: each may be played after those before it.
abbrev pub IsLegal : List ℕ → Contract → List ℕ → Type 0
IsLegal hands contract = EachMayFollow (MayPlay hands contract)
