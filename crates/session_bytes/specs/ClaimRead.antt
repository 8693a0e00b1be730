-- A claim as the part of a play has it, by its bytes.
use Rattle.std.specs.Prelude.{ℕ, ◌/◌, ◌%◌, ◌==◌, nat_lt, Bool, true, false, if◌then◌else◌, List, [], ◌∷◌, Option, Some, None}
use Rattle.std.specs.Option.{option_map}
use Rattle.bridge_cards.specs.declared.seat.Seat.{Seat}
use Rattle.bridge_cards.specs.declared.seat.Seat.TheVariants.{North, East, South, West}
use Rattle.bridge_play.specs.declared.claim.Claim.{Claim}

-- who has agreed: a bit for each seat
abbrev pub agreed_in : ℕ → List Bool
agreed_in byte = (byte % 2 == 1) ∷ (byte / 2 % 2 == 1) ∷ (byte / 4 % 2 == 1) ∷ (byte / 8 % 2 == 1) ∷ []

-- the seat of that number
abbrev pub seat_numbered : ℕ → Option Seat
seat_numbered number =
    if number == 0 then Some North else if number == 1 then Some East else if number == 2 then Some South
    else if number == 3 then Some West else None

-- the claim of these numbers: who claims, how many tricks, and who has agreed
abbrev pub claimed_by : ℕ → ℕ → ℕ → Option Claim
claimed_by seat tricks bits =
    if nat_lt 15 bits then None
    else option_map (λ (claimer : Seat). record { claimer = claimer; tricks = tricks; agreed = agreed_in bits }) (seat_numbered seat)

-- the claim behind its mark
abbrev pub marked_at : Bool → List ℕ → Option (Option Claim × Bool × List ℕ)
marked_at agreed (seat ∷ tricks ∷ bits ∷ rest) = option_map (λ (claim : Claim). (Some claim, agreed, rest)) (claimed_by seat tricks bits)
marked_at agreed _ = None

-- the claim, if there is one, and whether it is marked as agreed
abbrev pub claim_at : List ℕ → Option (Option Claim × Bool × List ℕ)
claim_at [] = None
claim_at (mark ∷ rest) =
    if mark == 0 then Some (None, false, rest) else if mark == 1 then marked_at false rest
    else if mark == 2 then marked_at true rest else None
