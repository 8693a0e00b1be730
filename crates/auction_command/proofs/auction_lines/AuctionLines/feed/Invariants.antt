use Rattle.std.proofs.Common.{◌≡◌, ◌+◌, ◌-◌, ◌*◌, ◌≤◌, ℕ, List, ◌++◌, drop, length, true}
use Rattle.std.specs.List.{list_all}
use Rattle.line_text.specs.Lines.{is_within_line}
use Rattle.auction_command.specs.AuctionLines.{replies_from, calls_from}
use Rattle.auction_command.proofs.auction_lines.AuctionLines.feed.Given as goal

abbrev pub invariant-loop-byte : goal.invariant-loop-byte
invariant-loop-byte l = record {
  replies : (rest : List ℕ) → l.fn.out.bytes ++ replies_from l.fn.self (l.piece ++ rest) ≡ l.out.bytes ++ replies_from l.self (drop l.byte-index l.piece ++ rest);
  calls : (rest : List ℕ) → calls_from l.fn.self (l.piece ++ rest) ≡ calls_from l.self (drop l.byte-index l.piece ++ rest);
  dealer : l.self.dealer ≡ l.fn.self.dealer;
  within : list_all is_within_line l.self.line ≡ true;
  room : length l.out.bytes + 29 * (length l.piece - l.byte-index) ≤ 29696;
}
