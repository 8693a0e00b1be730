-- The tricks of both sides.
use Rattle.std.proofs.Common.{◌≡◌, ◌≤◌, ◌+◌, ◌-◌, ◌/◌, ℕ, zero, suc, Bool, true, false, ◌==◌, ◌||◌, if◌then◌else◌, List, length, refl, arith}
use Rattle.std.specs.Prelude.{Option, Some, None, IfSome}
use Rattle.std.specs.Option.{option_map_or}
use Rattle.std.proofs.lemmas.Bool.Decides.{nat_tests}
use Rattle.bridge_cards.specs.declared.seat.Seat.{Seat}
use Rattle.bridge_cards.specs.declared.seat.Seat.TheVariants.{North, East, South, West}
use Rattle.bridge_cards.specs.declared.seat.Side.TheVariants.{NorthSouth, EastWest}
use Rattle.bridge_auction.specs.declared.contract.Contract.{Contract}
use Rattle.bridge_play.specs.declared.claim.Claim.{Claim}
use Rattle.bridge_cards.specs.Seat.{plays_for}
use Rattle.bridge_play.specs.Trick.{leader_of, tricks_won}
use Rattle.bridge_play.specs.Claims.{all_agreed}
use Rattle.bridge_play.specs.Play.{PlayValue, IsPlay, IsClaimIn, is_agreed, claimed_tricks, tricks_of, settled_tricks}

-- a seat plays for one side
one_side : (seat : Seat) → (if plays_for NorthSouth seat then 1 else 0) + (if plays_for EastWest seat then 1 else 0) ≡ 1
one_side North = refl
one_side East = refl
one_side South = refl
one_side West = refl

-- each of the first tricks was won by one of the sides
pub tricks_won-both : (contract : Contract) (cards : List ℕ) (tricks : ℕ) → tricks_won contract cards NorthSouth tricks + tricks_won contract cards EastWest tricks ≡ tricks
tricks_won-both contract cards zero = refl
tricks_won-both contract cards (suc tricks) =
    omega (arith, tricks_won-both contract cards tricks, one_side (leader_of contract cards (suc tricks)))

-- a number for one side, and another for the other
one_each : (seat : Seat) (own others : ℕ) → (if plays_for NorthSouth seat then own else others) + (if plays_for EastWest seat then own else others) ≡ own + others
one_each North own others = refl
one_each East own others = omega arith
one_each South own others = refl
one_each West own others = omega arith

-- an agreed claim gives all tricks that are left to one side or the other
claimed_if : (agreed : Bool) (seat : Seat) (own left : ℕ) → own ≤ left → (if agreed then (if plays_for NorthSouth seat then own else left - own) else 0) + (if agreed then (if plays_for EastWest seat then own else left - own) else 0) ≡ (if agreed then left else 0)
claimed_if true seat own left fits = omega (arith, one_each seat own (left - own))
claimed_if false seat own left fits = refl

claimed_tricks-both : (play : PlayValue) (claim : Option Claim) → IfSome claim (IsClaimIn play) → claimed_tricks play.contract play.cards NorthSouth claim + claimed_tricks play.contract play.cards EastWest claim ≡ (if option_map_or (all_agreed play.contract) claim false then 13 - length play.cards / 4 else 0)
claimed_tricks-both play None is = refl
claimed_tricks-both play (Some claim) is =
    claimed_if (all_agreed play.contract claim) claim.claimer claim.tricks (13 - length play.cards / 4) (omega (arith, is.within))

-- the tricks of both sides, by whether all cards were played and whether a claim is agreed
settled_if : (agreed : Bool) (n : ℕ) → n ≤ 52 → n / 4 + (if agreed then 13 - n / 4 else 0) ≡ (if n == 52 || agreed then 13 else n / 4)
settled_if true n few = grind (arith, nat_tests)
settled_if false n few = grind (arith, nat_tests)

pub tricks_of-both : (play : PlayValue) → length play.cards ≤ 52 → IsPlay play → tricks_of play NorthSouth + tricks_of play EastWest ≡ settled_tricks play
tricks_of-both play few is =
    let won = tricks_won-both play.contract play.cards (length play.cards / 4) in
    let claimed = claimed_tricks-both play play.claim is.claimed in
    let settled = settled_if (is_agreed play) (length play.cards) few in
    omega (arith, won, claimed, settled)
