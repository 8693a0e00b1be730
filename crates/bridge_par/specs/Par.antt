-- Par: the score where both sides call as well as they can, and know how many tricks each declarer takes. A contract that
-- makes is played undoubled, and one that fails doubled. All scores are those of North and South.
use Rattle.std.specs.Prelude.{ℕ, zero, suc, ◌+◌, ◌-◌, ◌/◌, ◌%◌, Bool, false, not, ◌&&◌, ◌||◌, nat_le, if◌then◌else◌, List, [], ◌∷◌, ◌++◌, flat_map, ℤ, pos, neg_ℤ, int_lt}
use Rattle.std.specs.Ordering.{int_eq}
use Rattle.bridge_cards.specs.declared.seat.Seat.{Seat}
use Rattle.bridge_cards.specs.declared.seat.Seat.TheVariants.{North, East, South, West}
use Rattle.bridge_cards.specs.declared.seat.Side.{Side}
use Rattle.bridge_cards.specs.declared.seat.Side.TheVariants.{NorthSouth, EastWest}
use Rattle.bridge_cards.specs.declared.vulnerability.Vulnerability.{Vulnerability}
use Rattle.bridge_cards.specs.Seat.{side_of, other_side}
use Rattle.bridge_cards.specs.Vulnerability.{includes_side}
use Rattle.bridge_auction.specs.declared.bid.Bid.{Bid}
use Rattle.bridge_auction.specs.declared.contract.Contract.{Contract}
use Rattle.bridge_auction.specs.declared.contract.Doubling.{Doubling}
use Rattle.bridge_auction.specs.declared.contract.Doubling.TheVariants.{Undoubled, Doubled}
use Rattle.bridge_auction.specs.Bid.{denomination_at}
use Rattle.bridge_score.specs.ScoringTable.{score_of}
use Rattle.bridge_par.specs.declared.tricks.TrickTable.{TrickTable}
use Rattle.bridge_par.specs.declared.par_contract.ParContract.{ParContract}
use Rattle.bridge_par.specs.Tricks.{tricks_in}

-- ---- what a contract is worth

-- the bid that so many bids are above: seven no trump has none above it, and one club 34
abbrev pub bid_below : ℕ → Bid
bid_below above = record { level = (34 - above) / 5 + 1; denomination = denomination_at ((34 - above) % 5) }

-- doubled where it fails with so many tricks
abbrev pub doubling_for : Bid → ℕ → Doubling
doubling_for bid tricks = if nat_le (bid.level + 6) tricks then Undoubled else Doubled

-- the contract of that bid, played by a seat
abbrev pub contract_by : TrickTable → ℕ → Seat → Contract
contract_by table above seat = let bid = bid_below above in record {
  bid = bid;
  doubling = doubling_for bid (tricks_in table bid.denomination seat);
  declarer = seat;
}

-- what a side scores is what North and South score, or its negative
abbrev pub for_north_south : Side → ℤ → ℤ
for_north_south NorthSouth points = points
for_north_south EastWest points = neg_ℤ points

-- what North and South score for it
abbrev pub score_by : TrickTable → Vulnerability → ℕ → Seat → ℤ
score_by table vulnerability above seat =
    let side = side_of seat in
    for_north_south side (score_of (contract_by table above seat) (includes_side vulnerability side) (tricks_in table (bid_below above).denomination seat))

-- ---- what each side calls for

-- the better of two scores of North and South, for a side
abbrev pub better : Side → ℤ → ℤ → ℤ
better NorthSouth one other = if int_lt one other then other else one
better EastWest one other = if int_lt other one then other else one

-- the score where that side's bid is passed out: the hand plays that does better
abbrev pub passed_out : TrickTable → Vulnerability → ℕ → Side → ℤ
passed_out table vulnerability above NorthSouth =
    better NorthSouth (score_by table vulnerability above North) (score_by table vulnerability above South)
passed_out table vulnerability above EastWest =
    better EastWest (score_by table vulnerability above East) (score_by table vulnerability above West)

-- ---- the game of calls

-- The score where a side is to call: it passes, for the score that is given, or it makes one of the so many highest bids,
-- the lowest of them or a higher one. After a bid the other side is to call, and may pass that bid out or bid higher.
unfoldable pub called : TrickTable → Vulnerability → ℕ → Side → ℤ → ℤ
called table vulnerability zero side passed = passed
called table vulnerability (suc above) side passed =
    better side (called table vulnerability above side passed)
    (called table vulnerability above (other_side side) (passed_out table vulnerability above side))

-- the score where that side's bid stands, and the other side is to call
abbrev pub standing : TrickTable → Vulnerability → ℕ → Side → ℤ
standing table vulnerability above side =
    called table vulnerability above (other_side side) (passed_out table vulnerability above side)

-- the dealer's side calls first; where both sides pass, there is no score
abbrev pub par_score : TrickTable → Vulnerability → Seat → ℤ
par_score table vulnerability dealer =
    let side = side_of dealer in
    called table vulnerability 35 side (called table vulnerability 35 (other_side side) (pos 0))

-- ---- the contracts that reach it

-- whether one score is better for a side than another
abbrev pub is_better : Side → ℤ → ℤ → Bool
is_better NorthSouth one other = int_lt other one
is_better EastWest one other = int_lt one other

-- whether one of the so many highest bids is better for a side than par, where it is passed out
unfoldable pub has_better : TrickTable → Vulnerability → ℤ → ℕ → Side → Bool
has_better table vulnerability par zero side = false
has_better table vulnerability par (suc above) side =
    is_better side (passed_out table vulnerability above side) par || has_better table vulnerability par above side

-- a side's bid scores par where it is passed out, and the other side has no better bid above it
abbrev pub bid_reaches : TrickTable → Vulnerability → ℤ → ℕ → Side → Bool
bid_reaches table vulnerability par above side =
    int_eq (passed_out table vulnerability above side) par && not (has_better table vulnerability par above (other_side side))

-- and so it does with that seat as declarer
abbrev pub reaches : TrickTable → Vulnerability → ℤ → ℕ → Seat → Bool
reaches table vulnerability par above seat =
    int_eq (score_by table vulnerability above seat) par && bid_reaches table vulnerability par above (side_of seat)

-- that contract alone where it reaches par, or none
abbrev pub reached_by : TrickTable → Vulnerability → ℤ → ℕ → Seat → List ParContract
reached_by table vulnerability par above seat =
    if reaches table vulnerability par above seat then record { contract = contract_by table above seat } ∷ [] else []

-- those of a bid, by declarer
abbrev pub reaching : TrickTable → Vulnerability → ℤ → ℕ → List ParContract
reaching table vulnerability par above =
    flat_map (reached_by table vulnerability par above) (North ∷ East ∷ South ∷ West ∷ [])

-- those of the so many highest bids, the lowest first
unfoldable pub reaching_from : TrickTable → Vulnerability → ℤ → ℕ → List ParContract
reaching_from table vulnerability par zero = []
reaching_from table vulnerability par (suc above) =
    reaching table vulnerability par above ++ reaching_from table vulnerability par above

-- the contracts that reach par
abbrev pub par_contracts : TrickTable → Vulnerability → ℤ → List ParContract
par_contracts table vulnerability par = reaching_from table vulnerability par 35
