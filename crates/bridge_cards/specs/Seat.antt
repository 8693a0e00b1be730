-- Seats and sides of the table.
use Rattle.std.specs.Prelude.{ℕ, ◌+◌, ◌%◌, ◌==◌, Bool, true, false, if◌then◌else◌, List, codes}
use Rattle.bridge_cards.specs.declared.seat.Seat.{Seat}
use Rattle.bridge_cards.specs.declared.seat.Seat.TheVariants.{North, East, South, West}
use Rattle.bridge_cards.specs.declared.seat.Side.{Side}
use Rattle.bridge_cards.specs.declared.seat.Side.TheVariants.{NorthSouth, EastWest}

-- the seat's place, clockwise from North, from 0
abbrev pub seat_number : Seat → ℕ
seat_number North = 0
seat_number East = 1
seat_number South = 2
seat_number West = 3

-- the seat that many places clockwise from North
abbrev pub seat_at : ℕ → Seat
seat_at places =
    if places % 4 == 0 then North else if places % 4 == 1 then East else if places % 4 == 2 then South else West

-- the seat that many places clockwise from a seat
abbrev pub clockwise_from : Seat → ℕ → Seat
clockwise_from seat places = seat_at (seat_number seat + places)

-- whether two seats are one
abbrev pub same_seat : Seat → Seat → Bool
same_seat a b = seat_number a == seat_number b

-- the side that a seat plays for
abbrev pub side_of : Seat → Side
side_of North = NorthSouth
side_of East = EastWest
side_of South = NorthSouth
side_of West = EastWest

-- the opponents' side
abbrev pub other_side : Side → Side
other_side NorthSouth = EastWest
other_side EastWest = NorthSouth

-- whether two sides are one
abbrev pub same_side : Side → Side → Bool
same_side NorthSouth NorthSouth = true
same_side NorthSouth EastWest = false
same_side EastWest NorthSouth = false
same_side EastWest EastWest = true

-- whether a seat plays for that side
abbrev pub plays_for : Side → Seat → Bool
plays_for side seat = same_side (side_of seat) side

-- the letter that stands for a seat, in ASCII
abbrev pub seat_letter : Seat → ℕ
seat_letter North = 78
seat_letter East = 69
seat_letter South = 83
seat_letter West = 87

-- the side as Portable Bridge Notation has it
abbrev pub side_text : Side → List ℕ
side_text NorthSouth = codes "NS"
side_text EastWest = codes "EW"
