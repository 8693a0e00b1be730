-- What each side reaches at best by a bid.
use Rattle.std.specs.Prelude.{ℕ, ◌≡◌, ℤ, Option, None, Some}
use Rattle.bridge_cards.specs.declared.seat.Side.{Side}
use Rattle.bridge_cards.specs.declared.seat.Side.TheVariants.{NorthSouth, EastWest}
use Rattle.bridge_cards.specs.declared.vulnerability.Vulnerability.{Vulnerability}
use Rattle.bridge_par.specs.declared.tricks.TrickTable.{TrickTable}
use Rattle.bridge_par.specs.declared.best_bids.BestBids.{BestBids}
use Rattle.bridge_par.specs.Par.{better, called}

-- that of a side
abbrev pub best_of : BestBids → Side → Option ℤ
best_of best NorthSouth = best.north_south
best_of best EastWest = best.east_west

-- the better of a score and of the best bid, where there is one
abbrev pub or_best : Side → ℤ → Option ℤ → ℤ
or_best side passed None = passed
or_best side passed (Some best) = better side passed best

-- so it is where a side may make one of the so many highest bids
pub record IsBest (table : TrickTable) (vulnerability : Vulnerability) (above : ℕ) (best : BestBids) : Type 0 where
  pub called : (side : Side) (passed : ℤ) → or_best side passed (best_of best side) ≡ called table vulnerability above side passed
