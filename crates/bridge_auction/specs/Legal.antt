-- Which lists of calls are an auction (Laws 17 to 22).
use Rattle.std.specs.Prelude.{◌≡◌, ℕ, suc, ◌-◌, ◌%◌, ◌==◌, Bool, true, false, not, ◌&&◌, nat_le, nat_lt, if◌then◌else◌, List, [], ◌∷◌, length, drop, slice_get, Option, Some, None, option_and_then}
use Rattle.std.specs.List.{list_all}
use Rattle.std.specs.Option.{option_map_or}
use Rattle.bridge_cards.specs.EachMayFollow.{EachMayFollow}
use Rattle.bridge_auction.specs.declared.call.Call.{Call}
use Rattle.bridge_auction.specs.declared.call.Call.TheVariants.{Pass, Bid, Double, Redouble}
use Rattle.bridge_auction.specs.Bid.{bid_number}
use Rattle.bridge_auction.specs.Call.{is_pass, is_bid, is_double, IsCall}

-- The auction is over: there are at least four calls, and the last three are passes (Law 22).
abbrev pub is_ended : List Call → Bool
is_ended calls = nat_le 4 (length calls) && list_all is_pass (drop (length calls - 3) calls)

-- an index in the rest of a list, or else the index before that rest if it passes
abbrev pub later_or_here : Option ℕ → Bool → Option ℕ
later_or_here (Some later) here = Some (suc later)
later_or_here None here = if here then Some 0 else None

-- the last index whose call passes the test
abbrev pub last_index : (Call → Bool) → List Call → Option ℕ
last_index test [] = None
last_index test (call ∷ calls) = later_or_here (last_index test calls) (test call)

-- the index of the last call other than a pass
abbrev pub last_but_passes : List Call → Option ℕ
last_but_passes calls = last_index (λ call. not (is_pass call)) calls

-- A call at that index was made by an opponent of the player who calls next: it stands an odd number of places before the
-- next call. Turns go clockwise whoever deals, so partners call two places from each other.
abbrev pub is_opponents : List Call → ℕ → Bool
is_opponents calls index = (length calls - index) % 2 == 1

-- the call at that index, if an opponent of the player who calls next made it
abbrev pub opponents_call_at : List Call → ℕ → Option Call
opponents_call_at calls index = if is_opponents calls index then slice_get calls index else None

-- the last call that is no pass, if an opponent of the player who calls next made it
abbrev pub opponents_call : List Call → Option Call
opponents_call calls = option_and_then (opponents_call_at calls) (last_but_passes calls)

-- the call is no bid, or one of a lower number
abbrev pub is_below : ℕ → Call → Bool
is_below number (Bid other) = nat_lt (bid_number other) number
is_below number _ = true

-- While the auction is open, a player may pass, bid higher than every bid so far (Law 18),
-- double an opponent's bid with only passes since, and redouble an opponent's double with only passes since (Law 19).
abbrev pub is_admissible : List Call → Call → Bool
is_admissible earlier Pass = true
is_admissible earlier (Bid bid) = list_all (is_below (bid_number bid)) earlier
is_admissible earlier Double = option_map_or is_bid (opponents_call earlier) false
is_admissible earlier Redouble = option_map_or is_double (opponents_call earlier) false

-- the call may be made after those calls
pub record MayFollow (earlier : List Call) (call : Call) : Type 0 where
  pub known : IsCall call
  pub open_auction : is_ended earlier ≡ false
  pub admissible : is_admissible earlier call ≡ true

-- A legal list of calls: each may be made after those before it.
abbrev pub IsLegal : List Call → Type 0
IsLegal = EachMayFollow MayFollow
