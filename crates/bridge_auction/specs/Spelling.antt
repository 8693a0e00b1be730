-- How calls and contracts are spelled, in ASCII.
use Rattle.std.specs.Prelude.{ℕ, ◌+◌, ◌-◌, ◌&&◌, nat_le, if◌then◌else◌, List, [], ◌∷◌, ◌++◌, codes, Option, Some, None}
use Rattle.std.specs.Option.{option_map}
use Rattle.std.specs.Str.{bytes_eq}
use Rattle.bridge_cards.specs.Seat.{seat_letter}
use Rattle.bridge_auction.specs.declared.bid.Bid.{Bid as BidType}
use Rattle.bridge_auction.specs.declared.bid.Denomination.{Denomination}
use Rattle.bridge_auction.specs.declared.bid.Denomination.TheVariants.{Clubs, Diamonds, Hearts, Spades, NoTrump}
use Rattle.bridge_auction.specs.declared.call.Call.{Call}
use Rattle.bridge_auction.specs.declared.call.Call.TheVariants.{Pass, Bid, Double, Redouble}
use Rattle.bridge_auction.specs.declared.contract.Contract.{Contract}
use Rattle.bridge_auction.specs.declared.contract.Doubling.{Doubling}
use Rattle.bridge_auction.specs.declared.contract.Doubling.TheVariants.{Undoubled, Doubled, Redoubled}

-- the letters of a denomination
abbrev pub denomination_text : Denomination → List ℕ
denomination_text Clubs = codes "C"
denomination_text Diamonds = codes "D"
denomination_text Hearts = codes "H"
denomination_text Spades = codes "S"
denomination_text NoTrump = codes "NT"

-- a level from 1 to 9, as its digit
abbrev pub level_text : ℕ → List ℕ
level_text level = (48 + level) ∷ []

-- the level and the denomination, as `1NT`
abbrev pub bid_text : BidType → List ℕ
bid_text bid = level_text bid.level ++ denomination_text bid.denomination

-- a call, as `PASS`, `1NT`, `X` or `XX`
abbrev pub call_text : Call → List ℕ
call_text Pass = codes "PASS"
call_text (Bid bid) = bid_text bid
call_text Double = codes "X"
call_text Redouble = codes "XX"

-- what stands behind a bid: nothing, `X` or `XX`
abbrev pub doubling_text : Doubling → List ℕ
doubling_text Undoubled = []
doubling_text Doubled = codes "X"
doubling_text Redoubled = codes "XX"

-- the bid and its doubling, a space and declarer's letter
abbrev pub contract_text : Contract → List ℕ
contract_text contract =
    ((bid_text contract.bid ++ doubling_text contract.doubling) ++ codes " ") ++ seat_letter contract.declarer ∷ []

-- the denomination of those letters, if they are one's
abbrev pub denomination_of : List ℕ → Option Denomination
denomination_of text =
    if bytes_eq text (codes "C") then Some Clubs
    else if bytes_eq text (codes "D") then Some Diamonds
    else if bytes_eq text (codes "H") then Some Hearts
    else if bytes_eq text (codes "S") then Some Spades
    else if bytes_eq text (codes "NT") then Some NoTrump
    else None

-- a level's digit, from 1 to 7, and a denomination
abbrev pub bid_of : List ℕ → Option BidType
bid_of [] = None
bid_of (digit ∷ letters) =
    if nat_le 49 digit && nat_le digit 55 then option_map (λ denomination. record {
      level = digit - 48;
      denomination = denomination;
    }) (denomination_of letters) else None

-- the call that a text spells
abbrev pub call_of : List ℕ → Option Call
call_of text =
    if bytes_eq text (codes "PASS") then Some Pass
    else if bytes_eq text (codes "X") then Some Double
    else if bytes_eq text (codes "XX") then Some Redouble
    else option_map Bid (bid_of text)
