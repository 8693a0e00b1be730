-- Where a pair plays in a round.
use Rattle.std.specs.Prelude.{ℕ, ◌≡◌, ◌==◌, ◌&&◌, if◌then◌else◌, List, [], ◌∷◌, ◌<◌, length, Option, None, Some, MatchOption, All, Any}
use Rattle.std.specs.List.{HoldsAt, AllWithin}
use Rattle.std.specs.Option.{option_or}
use Rattle.bridge_cards.specs.declared.seat.Side.{Side}
use Rattle.bridge_cards.specs.declared.seat.Side.TheVariants.{NorthSouth, EastWest}
use Rattle.bridge_movement.specs.declared.place.Place.{Place}
use Rattle.bridge_movement.specs.declared.row.Row.{Row}
use Rattle.bridge_movement.specs.declared.shape.Shape.{Shape}
use Rattle.bridge_movement.specs.Row.{IsLive, is_live, SitsIn}
use Rattle.bridge_movement.specs.Shape.{IsBetween}

-- the pair that sits on a side
abbrev pub pair_on : Side → Row → ℕ
pair_on NorthSouth row = row.ns
pair_on EastWest row = row.ew

-- the row is live, of the round, and has the pair at that place
abbrev pub IsSeat : ℕ → ℕ → Place → Row → Type 0
IsSeat round pair place row =
    (row.round ≡ round) × IsLive row × (pair_on place.side row ≡ pair) × (row.table ≡ place.table)
    × (row.set ≡ place.set)

-- the row is live, of the round, and has the pair
abbrev pub HasSeat : ℕ → ℕ → Row → Type 0
HasSeat round pair row = (row.round ≡ round) × IsLive row × SitsIn row pair

-- the rows have the pair at that place in the round
abbrev pub PlaysAt : List Row → ℕ → ℕ → Place → Type 0
PlaysAt rows round pair place = Any (λ row. IsSeat round pair place row) rows

-- the rows have the pair at no other place in the round
abbrev pub PlaysOnlyAt : List Row → ℕ → ℕ → Place → Type 0
PlaysOnlyAt rows round pair place = (other : Place) → PlaysAt rows round pair other → other ≡ place

-- no live row of the round has the pair
abbrev pub SitsOut : List Row → ℕ → ℕ → Type 0
SitsOut rows round pair = ¬ Any (λ row. HasSeat round pair row) rows

-- the table and the set are within the shape
abbrev pub IsPlaceWithin : Shape → Place → Type 0
IsPlaceWithin shape place = IsBetween 1 shape.tables place.table × IsBetween 1 shape.sets place.set

-- where a row puts the pair in the round, if it is live and has the pair
abbrev pub seat_of : ℕ → ℕ → Row → Option Place
seat_of round pair row =
    if row.round == round && is_live row then
    (if row.ns == pair then Some (record { table = row.table; side = NorthSouth; set = row.set })
    else if row.ew == pair then Some (record { table = row.table; side = EastWest; set = row.set }) else None)
    else None

-- the first place that the rows give
abbrev pub place_of : List Row → ℕ → ℕ → Option Place
place_of [] round pair = None
place_of (row ∷ rows) round pair = option_or (seat_of round pair row) (place_of rows round pair)

-- what the first row gives that has the pair
abbrev pub IsFirstSeat : List Row → ℕ → ℕ → Option Place → Type 0
IsFirstSeat rows round pair found =
    MatchOption found (All (λ row. seat_of round pair row ≡ None) rows)
    (λ place.
    (k : ℕ) × (k < length rows) × HoldsAt (λ row. seat_of round pair row ≡ Some place) rows k
    × AllWithin (λ row. seat_of round pair row ≡ None) rows 0 k)
