-- The two bytes of an assigned score: the bid; and the doubling, the declarer and declarer's tricks as one number.
use Rattle.std.specs.Prelude.{ℕ, ◌+◌, ◌*◌, ◌/◌, ◌%◌, ◌==◌, nat_lt, if◌then◌else◌, List, [], ◌∷◌, Option, None, option_map}
use Rattle.bridge_cards.specs.Seat.{seat_number, seat_at}
use Rattle.bridge_auction.specs.declared.bid.Bid.{Bid}
use Rattle.bridge_auction.specs.declared.contract.Contract.{Contract}
use Rattle.bridge_auction.specs.declared.contract.Doubling.{Doubling}
use Rattle.bridge_auction.specs.declared.contract.Doubling.TheVariants.{Undoubled, Doubled, Redoubled}
use Rattle.bridge_auction.specs.Bid.{bid_number, bid_at}

-- the number of a doubling, from 0
abbrev pub doubling_number : Doubling → ℕ
doubling_number Undoubled = 0
doubling_number Doubled = 1
doubling_number Redoubled = 2

-- the doubling of a number
abbrev pub doubling_at : ℕ → Doubling
doubling_at number = if number == 0 then Undoubled else if number == 1 then Doubled else Redoubled

-- the second byte: 14 numbers for each declarer, and those four times for each doubling
abbrev pub assigned_byte : Contract → ℕ → ℕ
assigned_byte contract tricks = (doubling_number contract.doubling * 4 + seat_number contract.declarer) * 14 + tricks

-- both bytes
abbrev pub assigned_bytes : Contract → ℕ → List ℕ
assigned_bytes contract tricks = bid_number contract.bid ∷ assigned_byte contract tricks ∷ []

-- the contract of a bid by the second byte
abbrev pub contract_with : ℕ → Bid → Contract
contract_with byte bid = record { bid = bid; doubling = doubling_at (byte / 56); declarer = seat_at (byte / 14) }

-- the contract of both bytes, if they are those of one
abbrev pub assigned_contract : ℕ → ℕ → Option Contract
assigned_contract first second = if nat_lt second 168 then option_map (contract_with second) (bid_at first) else None

-- declarer's tricks by the second byte
abbrev pub assigned_tricks : ℕ → ℕ
assigned_tricks second = second % 14
