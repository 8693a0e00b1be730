-- Bids in order (Law 18).
use Rattle.std.specs.Prelude.{ℕ, ◌+◌, ◌-◌, ◌*◌, ◌/◌, ◌%◌, ◌==◌, nat_lt, if◌then◌else◌, Option, Some, None}
use Rattle.bridge_cards.specs.declared.suit.Suit.{Suit}
use Rattle.bridge_cards.specs.declared.suit.Suit.TheVariants as suit
use Rattle.bridge_auction.specs.declared.bid.Denomination.{Denomination}
use Rattle.bridge_auction.specs.declared.bid.Denomination.TheVariants.{Clubs, Diamonds, Hearts, Spades, NoTrump}
use Rattle.bridge_auction.specs.declared.bid.Bid.{Bid}
use Rattle.bridge_auction.specs.Level.{IsLevel}

-- the index of a denomination in their order, from 0
abbrev pub denomination_number : Denomination → ℕ
denomination_number Clubs = 0
denomination_number Diamonds = 1
denomination_number Hearts = 2
denomination_number Spades = 3
denomination_number NoTrump = 4

-- the trump suit that a denomination names; no trump names none
abbrev pub denomination_suit : Denomination → Option Suit
denomination_suit Clubs = Some suit.Clubs
denomination_suit Diamonds = Some suit.Diamonds
denomination_suit Hearts = Some suit.Hearts
denomination_suit Spades = Some suit.Spades
denomination_suit NoTrump = None

-- the index of a bid in their order, from 0: first by level, then by denomination
abbrev pub bid_number : Bid → ℕ
bid_number bid = 5 * (bid.level - 1) + denomination_number bid.denomination

-- a bid of a level from 1 to 7
abbrev pub IsBid : Bid → Type 0
IsBid bid = IsLevel bid.level

-- the denomination at that index in their order, from 0
abbrev pub denomination_at : ℕ → Denomination
denomination_at index =
    if index == 0 then Clubs else if index == 1 then Diamonds else if index == 2 then Hearts else if index == 3 then Spades else NoTrump

-- the bid at that index in their order, from 0, of which there are 35
abbrev pub bid_at : ℕ → Option Bid
bid_at index =
    if nat_lt index 35 then Some (record { level = index / 5 + 1; denomination = denomination_at (index % 5) }) else None
