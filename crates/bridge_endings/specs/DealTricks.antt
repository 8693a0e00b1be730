-- The tricks that a declarer takes in a whole deal where each of the four sees all the cards.
use Rattle.std.specs.Prelude.{ℕ, ◌-◌, ◌*◌, List, [], Option}
use Rattle.bridge_cards.specs.declared.suit.Suit.{Suit}
use Rattle.bridge_cards.specs.declared.seat.Seat.{Seat}
use Rattle.bridge_cards.specs.declared.seat.Side.{Side}
use Rattle.bridge_cards.specs.declared.seat.Side.TheVariants.{NorthSouth, EastWest}
use Rattle.bridge_cards.specs.Seat.{clockwise_from, side_of}
use Rattle.bridge_cards.specs.Deal.{IsDeal}
use Rattle.bridge_endings.specs.declared.entry.Entry.{Entry}
use Rattle.bridge_endings.specs.Worth.{dealt, worth_with}
use Rattle.bridge_endings.specs.SearchValue.{IsTable}

-- of thirteen tricks those of a side, where North and South win so many
abbrev pub tricks_of : Side → ℕ → ℕ
tricks_of NorthSouth won = won
tricks_of EastWest won = 13 - won

-- The tricks of the declarer's side by plain minimax over all 52 cards, where the seat to the declarer's left leads (Law 41).
abbrev pub declarer_tricks : Option Suit → List ℕ → Seat → ℕ
declarer_tricks trump hands declarer = tricks_of (side_of declarer) (worth_with trump (4 * 13) (dealt hands) (clockwise_from declarer 1) [])

-- what a solver keeps: the hands of a deal, and a table
pub record IsDealKept (hands : List ℕ) (table : List Entry) : Type 0 where
  pub deal : IsDeal hands
  pub found : IsTable table
