-- An auction between two lines, and what is still to be written for the bytes to come.
use Rattle.std.specs.Prelude.{◌≡◌, ℕ, true, List, ◌++◌}
use Rattle.std.specs.List.{list_all}
use Rattle.bridge_cards.specs.declared.seat.Seat.{Seat}
use Rattle.bridge_auction.specs.declared.call.Call.{Call}
use Rattle.line_text.specs.Lines.{complete_lines, is_within_line}
use Rattle.auction_command.specs.Replies.{calls_after, replies_to}

-- the dealer, the calls of the complete lines, and the bytes of the line that has begun
pub record AuctionLinesValue : Type 0 where
  pub dealer : Seat
  pub calls : List Call
  pub line : List ℕ

-- the replies to the lines that these bytes complete
abbrev pub replies_from : AuctionLinesValue → List ℕ → List ℕ
replies_from auction_lines bytes = replies_to auction_lines.calls (complete_lines (auction_lines.line ++ bytes))

-- the calls after the lines that these bytes complete
abbrev pub calls_from : AuctionLinesValue → List ℕ → List Call
calls_from auction_lines bytes = calls_after auction_lines.calls (complete_lines (auction_lines.line ++ bytes))

-- the text has the replies to the lines that these bytes complete, whatever bytes come after them
pub record Answers (old new : AuctionLinesValue) (bytes text : List ℕ) : Type 0 where
  pub replies : (rest : List ℕ) → replies_from old (bytes ++ rest) ≡ text ++ replies_from new rest
  pub calls : (rest : List ℕ) → calls_from old (bytes ++ rest) ≡ calls_from new rest
  pub dealer : new.dealer ≡ old.dealer
  pub within : list_all is_within_line new.line ≡ true
