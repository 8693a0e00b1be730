-- The contract that a list of calls makes (Law 22 and the definitions of contract and declarer).
use Rattle.std.specs.Prelude.{ℕ, Bool, false, ◌&&◌, ◌==◌, if◌then◌else◌, List, slice_get, position, Option, Some, None, unwrap_or, option_and_then}
use Rattle.std.specs.Option.{option_map}
use Rattle.std.specs.List.{enumerate_from}
use Rattle.bridge_cards.specs.declared.seat.Seat.{Seat}
use Rattle.bridge_cards.specs.declared.seat.Side.{Side}
use Rattle.bridge_cards.specs.Seat.{clockwise_from, side_of, plays_for}
use Rattle.bridge_auction.specs.declared.bid.Bid.{Bid as BidType}
use Rattle.bridge_auction.specs.declared.bid.Denomination.{Denomination}
use Rattle.bridge_auction.specs.declared.call.Call.{Call}
use Rattle.bridge_auction.specs.declared.call.Call.TheVariants.{Bid, Double, Redouble}
use Rattle.bridge_auction.specs.declared.contract.Contract.{Contract}
use Rattle.bridge_auction.specs.declared.contract.Doubling.{Doubling}
use Rattle.bridge_auction.specs.declared.contract.Doubling.TheVariants.{Undoubled, Doubled, Redoubled}
use Rattle.bridge_auction.specs.Bid.{denomination_number}
use Rattle.bridge_auction.specs.Call.{is_bid, bid_in}
use Rattle.bridge_auction.specs.Legal.{is_ended, last_index, last_but_passes}

-- the bid at that index, if there is one
abbrev pub bid_called_at : List Call → ℕ → Option BidType
bid_called_at calls index = option_and_then bid_in (slice_get calls index)

-- the call is a bid of that denomination
abbrev pub names : Denomination → Call → Bool
names denomination (Bid bid) = denomination_number bid.denomination == denomination_number denomination
names denomination _ = false

-- who makes the call at that index, from 0
abbrev pub caller_at : Seat → ℕ → Seat
caller_at dealer index = clockwise_from dealer index

-- the index of the first call by a player of that side that bids that denomination
abbrev pub first_to_name : Seat → List Call → Side → Denomination → Option ℕ
first_to_name dealer calls side denomination =
    position (λ (indexed : ℕ × Call). plays_for side (caller_at dealer indexed.0) && names denomination indexed.1)
    (enumerate_from 0 calls)

-- the doubling that a call leaves
abbrev pub doubling_by : Option Call → Doubling
doubling_by (Some Double) = Doubled
doubling_by (Some Redouble) = Redoubled
doubling_by _ = Undoubled

-- the doubling after those calls, by the last of them that is no pass
abbrev pub doubling_of : List Call → Doubling
doubling_of calls = doubling_by (option_and_then (slice_get calls) (last_but_passes calls))

-- the contract whose bid, the last one, stands at that index
abbrev pub contract_at : Seat → List Call → ℕ → Option Contract
contract_at dealer calls last = option_map (λ (bid : BidType). record {
  bid = bid;
  doubling = doubling_of calls;
  declarer = caller_at dealer (unwrap_or (first_to_name dealer calls (side_of (caller_at dealer last)) bid.denomination) last);
}) (bid_called_at calls last)

-- the contract of a list of calls: none while the auction is open, or where nobody bid
abbrev pub contract_of : Seat → List Call → Option Contract
contract_of dealer calls = if is_ended calls then option_and_then (contract_at dealer calls) (last_index is_bid calls) else None
