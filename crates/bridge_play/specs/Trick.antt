-- Tricks (Laws 41 to 45): who leads and who wins, by the whole list of cards. A card is its number.
use Rattle.std.specs.Prelude.{ℕ, zero, suc, ◌+◌, ◌*◌, ◌/◌, ◌%◌, if◌then◌else◌, List, length, take, drop, Option}
use Rattle.bridge_cards.specs.declared.suit.Suit.{Suit}
use Rattle.bridge_cards.specs.declared.seat.Seat.{Seat}
use Rattle.bridge_cards.specs.declared.seat.Side.{Side}
use Rattle.bridge_cards.specs.Seat.{clockwise_from, plays_for}
use Rattle.bridge_cards.specs.Trick.{next_leader}
use Rattle.bridge_auction.specs.declared.contract.Contract.{Contract}
use Rattle.bridge_auction.specs.Bid.{denomination_suit}

-- the trump suit of a contract
abbrev pub trump_of : Contract → Option Suit
trump_of contract = denomination_suit contract.bid.denomination

-- the cards of a trick, the tricks counted from 0
abbrev pub trick_at : List ℕ → ℕ → List ℕ
trick_at cards trick = take 4 (drop (4 * trick) cards)

-- how many tricks are whole after those cards
abbrev pub whole_tricks : List ℕ → ℕ
whole_tricks cards = length cards / 4

-- the seat that leads to a trick: declarer's left-hand opponent to the first, and the winner of each trick to the next
abbrev pub leader_of : Contract → List ℕ → ℕ → Seat
leader_of contract cards zero = clockwise_from contract.declarer 1
leader_of contract cards (suc trick) =
    next_leader (trump_of contract) (leader_of contract cards trick) (trick_at cards trick)

-- the hand to play after those cards: the leader's, then clockwise
abbrev pub turn_of : Contract → List ℕ → Seat
turn_of contract cards = clockwise_from (leader_of contract cards (whole_tricks cards)) (length cards % 4)

-- how many of the first tricks the side's seats won: the winner of a trick leads to the next
abbrev pub tricks_won : Contract → List ℕ → Side → ℕ → ℕ
tricks_won contract cards side zero = 0
tricks_won contract cards side (suc trick) =
    tricks_won contract cards side trick + (if plays_for side (leader_of contract cards (suc trick)) then 1 else 0)
