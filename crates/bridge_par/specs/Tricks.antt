-- The tricks that each declarer takes in each denomination.
use Rattle.std.specs.Prelude.{ℕ, ◌≤◌}
use Rattle.bridge_cards.specs.declared.seat.Seat.{Seat}
use Rattle.bridge_cards.specs.declared.seat.Seat.TheVariants.{North, East, South, West}
use Rattle.bridge_auction.specs.declared.bid.Denomination.{Denomination}
use Rattle.bridge_auction.specs.declared.bid.Denomination.TheVariants.{Clubs, Diamonds, Hearts, Spades, NoTrump}
use Rattle.bridge_par.specs.declared.tricks.DeclarerTricks.{DeclarerTricks}
use Rattle.bridge_par.specs.declared.tricks.TrickTable.{TrickTable}

-- those of a seat
abbrev pub tricks_by : DeclarerTricks → Seat → ℕ
tricks_by tricks North = tricks.north
tricks_by tricks East = tricks.east
tricks_by tricks South = tricks.south
tricks_by tricks West = tricks.west

-- those of the declarers in a denomination
abbrev pub tricks_with : TrickTable → Denomination → DeclarerTricks
tricks_with table Clubs = table.clubs
tricks_with table Diamonds = table.diamonds
tricks_with table Hearts = table.hearts
tricks_with table Spades = table.spades
tricks_with table NoTrump = table.no_trump

-- those of a declarer in a denomination
abbrev pub tricks_in : TrickTable → Denomination → Seat → ℕ
tricks_in table denomination seat = tricks_by (tricks_with table denomination) seat

-- there are 13 tricks in a deal
pub record AreTricks (tricks : DeclarerTricks) : Type 0 where
  pub north : tricks.north ≤ 13
  pub east : tricks.east ≤ 13
  pub south : tricks.south ≤ 13
  pub west : tricks.west ≤ 13

-- in each denomination
pub record IsTrickTable (table : TrickTable) : Type 0 where
  pub clubs : AreTricks table.clubs
  pub diamonds : AreTricks table.diamonds
  pub hearts : AreTricks table.hearts
  pub spades : AreTricks table.spades
  pub no_trump : AreTricks table.no_trump
