-- The dealer and the vulnerability of each board (Law 2).
use Rattle.std.specs.Prelude.{ℕ, ◌+◌, ◌-◌, ◌/◌, ◌%◌, ◌==◌, ◌≤◌, if◌then◌else◌}
use Rattle.bridge_cards.specs.declared.seat.Seat.{Seat}
use Rattle.bridge_cards.specs.declared.vulnerability.Vulnerability.{Vulnerability}
use Rattle.bridge_cards.specs.declared.vulnerability.Vulnerability.TheVariants.{Neither, NorthSouth, EastWest, Both}
use Rattle.bridge_cards.specs.Seat.{seat_at}

-- the numbers of boards are 1 to 36
abbrev pub IsBoard : ℕ → Type 0
IsBoard number = (1 ≤ number) × (number ≤ 36)

-- the first board is North's, and each next one is dealt by the next seat clockwise
abbrev pub dealer_of : ℕ → Seat
dealer_of board = seat_at (board - 1)

-- the four in turn, one place later after each four boards
abbrev pub vulnerability_at : ℕ → Vulnerability
vulnerability_at index =
    if index % 4 == 0 then Neither else if index % 4 == 1 then NorthSouth else if index % 4 == 2 then EastWest else Both

-- which sides are vulnerable on a board
abbrev pub vulnerability_on : ℕ → Vulnerability
vulnerability_on board = vulnerability_at ((board - 1) + (board - 1) / 4)
