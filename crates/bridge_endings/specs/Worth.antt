-- The worth of an ending: how many tricks North and South win where each of the four sees all the cards, and both sides
-- play for as many tricks as they can.
use Rattle.std.specs.Prelude.{ℕ, zero, suc, ◌+◌, ◌*◌, ◌==◌, Bool, not, ◌&&◌, max, min, if◌then◌else◌, List, [], ◌∷◌, ◌++◌, length, map, filter, Option}
use Rattle.bridge_cards.specs.declared.suit.Suit.{Suit}
use Rattle.bridge_cards.specs.declared.seat.Seat.{Seat}
use Rattle.bridge_cards.specs.declared.seat.Side.{Side}
use Rattle.bridge_cards.specs.declared.seat.Side.TheVariants.{NorthSouth, EastWest}
use Rattle.bridge_cards.specs.Seat.{clockwise_from, side_of}
use Rattle.bridge_cards.specs.CardSet.{has_card, deck}
use Rattle.bridge_cards.specs.Deal.{hand_at}
use Rattle.bridge_cards.specs.Trick.{follows_suit, next_leader}
use Rattle.bridge_endings.specs.EndingValue.{EndingValue}
use Rattle.bridge_endings.specs.Ending.{tricks_in}

-- ---- the cards that may be played (Law 44)

-- whether the hand may play the card: it has it, and leads, or follows suit, or has none of the suit led
abbrev pub may_be_played : (ℕ → Bool) → List ℕ → ℕ → Bool
may_be_played hand trick card = hand card && follows_suit hand trick card

-- the cards that the hand may play to the trick, in the order of the deck
abbrev pub legal_cards : (ℕ → Bool) → List ℕ → List ℕ
legal_cards hand trick = filter (may_be_played hand trick) deck

-- what the seats hold once that card is played
abbrev pub after_playing : ℕ → (Seat → ℕ → Bool) → Seat → ℕ → Bool
after_playing played held seat card = held seat card && not (card == played)

-- ---- what each side plays for

-- the better of two numbers of tricks of North and South, for a side
abbrev pub better : Side → ℕ → ℕ → ℕ
better NorthSouth one other = max one other
better EastWest one other = min one other

-- the best of the first of them and the others
abbrev pub best_from : Side → ℕ → List ℕ → ℕ
best_from side first [] = first
best_from side first (next ∷ others) = best_from side (better side first next) others

-- the best of them; of none 0
abbrev pub best : Side → List ℕ → ℕ
best side [] = 0
best side (first ∷ others) = best_from side first others

-- what a trick adds to the tricks of North and South, by the side of its winner
abbrev pub trick_for : Side → ℕ
trick_for NorthSouth = 1
trick_for EastWest = 0

-- ---- plain minimax

-- The worth once the trick is so far: a whole trick counts for the side of its winner, who leads to the next. The worth
-- of what is left then is given.
abbrev pub worth_after : Option Suit → ((Seat → ℕ → Bool) → Seat → List ℕ → ℕ) → (Seat → ℕ → Bool) → Seat → List ℕ → ℕ
worth_after trump worth held leader trick =
    if length trick == 4
    then trick_for (side_of (next_leader trump leader trick)) + worth held (next_leader trump leader trick) []
    else worth held leader trick

-- The worth where so many cards are still to be played: the best for the side in turn of the worths after its legal
-- cards. With no cards it is 0.
unfoldable pub worth_with : Option Suit → ℕ → (Seat → ℕ → Bool) → Seat → List ℕ → ℕ
worth_with trump zero held leader trick = 0
worth_with trump (suc cards) held leader trick =
    let seat = clockwise_from leader (length trick) in
    best (side_of seat) (map (λ card. worth_after trump (worth_with trump cards) (after_playing card held) leader (trick ++ card ∷ [])) (legal_cards (held seat) trick))

-- whether the seat holds the card
abbrev pub dealt : List ℕ → Seat → ℕ → Bool
dealt hands seat card = has_card (hand_at hands seat) card

-- the worth of an ending
abbrev pub worth_of : EndingValue → ℕ
worth_of ending = worth_with ending.trump (4 * tricks_in ending.hands) (dealt ending.hands) ending.leader []
