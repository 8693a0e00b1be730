-- The four kinds of call (Laws 17 to 19).
use Rattle.std.specs.Prelude.{ℕ, ◌+◌, ◌-◌, ◌==◌, if◌then◌else◌, Bool, true, false, Option, Some, None}
use Rattle.std.specs.Option.{option_map}
use Rattle.bridge_auction.specs.declared.bid.Bid.{Bid as BidType}
use Rattle.bridge_auction.specs.declared.call.Call.{Call}
use Rattle.bridge_auction.specs.declared.call.Call.TheVariants.{Pass, Bid, Double, Redouble}
use Rattle.bridge_auction.specs.Bid.{IsBid, bid_number, bid_at}

-- whether the call is a pass
abbrev pub is_pass : Call → Bool
is_pass Pass = true
is_pass _ = false

-- whether it is a bid
abbrev pub is_bid : Call → Bool
is_bid (Bid _) = true
is_bid _ = false

-- whether it is a double; a redouble is none
abbrev pub is_double : Call → Bool
is_double Double = true
is_double _ = false

-- the bid that a call is, if it is one
abbrev pub bid_in : Call → Option BidType
bid_in (Bid bid) = Some bid
bid_in _ = None

-- one of the 38 calls
abbrev pub IsCall : Call → Type 0
IsCall (Bid bid) = IsBid bid
IsCall _ = Unit {0}

-- the number of a call: 0 for a pass, 1 for a double, 2 for a redouble, and from 3 on the bids in their order
abbrev pub call_number : Call → ℕ
call_number Pass = 0
call_number Double = 1
call_number Redouble = 2
call_number (Bid bid) = 3 + bid_number bid

-- the call of that number, if there is one
abbrev pub call_at : ℕ → Option Call
call_at number =
    if number == 0 then Some Pass else if number == 1 then Some Double else if number == 2 then Some Redouble
    else option_map Bid (bid_at (number - 3))
