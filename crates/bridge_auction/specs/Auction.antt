-- What a contract sees of an auction.
use Rattle.std.specs.Prelude.{List, [], ◌∷◌, ◌++◌, ◌-◌, length, take}
use Rattle.bridge_cards.specs.declared.seat.Seat.{Seat}
use Rattle.bridge_auction.specs.declared.call.Call.{Call}

-- who calls first, and the calls so far
pub record AuctionValue : Type 0 where
  pub dealer : Seat
  pub calls : List Call

-- the auction of those calls
abbrev pub bidding : Seat → List Call → AuctionValue
bidding dealer calls = record { dealer = dealer; calls = calls }

-- the same auction with one call more
abbrev pub with_call : AuctionValue → Call → AuctionValue
with_call auction call = record auction { calls = auction.calls ++ call ∷ [] }

-- a list less its last element
abbrev pub less_last : {X : Type 0} → List X → List X
less_last list = take (length list - 1) list

-- the same auction less its last call
abbrev pub without_last_call : AuctionValue → AuctionValue
without_last_call auction = record auction { calls = less_last auction.calls }
