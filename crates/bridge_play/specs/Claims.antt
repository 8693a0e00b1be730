-- Claims (Law 68): who is asked, and when a claim is agreed.
use Rattle.std.specs.Prelude.{Bool, true, false, not, ◌&&◌, ◌||◌, if◌then◌else◌, slice_index_or, slice_set, Result, Ok, Err}
use Rattle.bridge_cards.specs.declared.seat.Seat.{Seat}
use Rattle.bridge_cards.specs.declared.seat.Seat.TheVariants.{North, East, South, West}
use Rattle.bridge_cards.specs.Seat.{seat_number, same_seat, side_of, same_side}
use Rattle.bridge_auction.specs.declared.contract.Contract.{Contract}
use Rattle.bridge_play.specs.declared.claim.Claim.{Claim}
use Rattle.bridge_play.specs.declared.refused.ConsentRefused.{ConsentRefused}
use Rattle.bridge_play.specs.declared.refused.ConsentRefused.TheVariants.{NoClaim, NotAsked}

-- declarer's claim asks both defenders, and a defender's claim asks declarer
abbrev pub is_asked : Contract → Seat → Seat → Bool
is_asked contract claimer seat =
    if same_seat claimer contract.declarer then not (same_side (side_of seat) (side_of contract.declarer)) else same_seat seat contract.declarer

-- whether the seat has agreed
abbrev pub has_agreed : Claim → Seat → Bool
has_agreed claim seat = slice_index_or claim.agreed (seat_number seat) false

-- whether the seat is not asked, or has agreed
abbrev pub needs_no_answer : Contract → Claim → Seat → Bool
needs_no_answer contract claim seat = not (is_asked contract claim.claimer seat) || has_agreed claim seat

-- all who are asked have agreed
abbrev pub all_agreed : Contract → Claim → Bool
all_agreed contract claim =
    needs_no_answer contract claim North && (needs_no_answer contract claim East
    && (needs_no_answer contract claim South && needs_no_answer contract claim West))

-- the seat is asked, or has not agreed
abbrev pub agrees_if_asked : Contract → Claim → Seat → Bool
agrees_if_asked contract claim seat = is_asked contract claim.claimer seat || not (has_agreed claim seat)

-- nobody has agreed who is not asked
abbrev pub only_asked_agree : Contract → Claim → Bool
only_asked_agree contract claim =
    agrees_if_asked contract claim North && (agrees_if_asked contract claim East
    && (agrees_if_asked contract claim South && agrees_if_asked contract claim West))

-- the answer to a player who agrees to that claim, or refuses it
abbrev pub consent_to : Contract → Claim → Seat → Result (Unit {0}) ConsentRefused
consent_to contract claim seat =
    if all_agreed contract claim then Err NoClaim else if needs_no_answer contract claim seat then Err NotAsked else Ok tt

-- the claim, to which the seat has agreed too
abbrev pub with_agreed : Seat → Claim → Claim
with_agreed seat claim = record claim { agreed = slice_set claim.agreed (seat_number seat) true }
