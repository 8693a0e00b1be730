-- What a director's line deals, as the code has it.
use Rattle.makeable_deals.specs.Reading.{Dealing}
use Rattle.makeable_deals.specs.declared.line_item.Dealing.{Dealing as DealingCode}

-- its texts
abbrev pub view_of_dealing : DealingCode → Dealing
view_of_dealing dealing = record { board = dealing.board.now; hands = dealing.hands.now }
