-- Which pairs stand in a row of a movement, and which rows are played.
use Rattle.std.specs.Prelude.{ℕ, ◌≡◌, ◌≢◌, ◌==◌, Bool, not, ◌&&◌, ◌⊎◌}
use Rattle.bridge_movement.specs.declared.row.Row.{Row}

-- both sides have a pair, so the row is played
abbrev pub IsLive : Row → Type 0
IsLive row = (row.ns ≢ 0) × (row.ew ≢ 0)

-- whether both sides have a pair
abbrev pub is_live : Row → Bool
is_live row = not (row.ns == 0) && not (row.ew == 0)

-- the pair stands in the row, on either side
abbrev pub SitsIn : Row → ℕ → Type 0
SitsIn row pair = (row.ns ≡ pair) ⊎ (row.ew ≡ pair)

-- some pair stands in both rows; 0 is nobody
abbrev pub ShareAPair : Row → Row → Type 0
ShareAPair a b = (pair : ℕ) × (pair ≢ 0) × SitsIn a pair × SitsIn b pair

-- some pair stands in both rows, and they are of one round
abbrev pub SeatPairTwice : Row → Row → Type 0
SeatPairTwice a b = (a.round ≡ b.round) × ShareAPair a b

-- some pair plays one set in both rows
abbrev pub PlaySetAgain : Row → Row → Type 0
PlaySetAgain a b = IsLive a × IsLive b × (a.set ≡ b.set) × ShareAPair a b

-- the same two pairs play against each other in both rows
abbrev pub MeetAgain : Row → Row → Type 0
MeetAgain a b =
    IsLive a × IsLive b × (((a.ns ≡ b.ns) × (a.ew ≡ b.ew)) ⊎ ((a.ns ≡ b.ew) × (a.ew ≡ b.ns)))
