use Rattle.std.proofs.Common.{◌-◌, ◌≤◌, take}
use Rattle.std.specs.Prelude.{flat_map}
use Rattle.std.specs.List.{range_with_len}
use Rattle.line_text.specs.Streams.{between, Takes}
use Rattle.event_results.specs.EventPage.{board_on}
use Rattle.event_results.proofs.pages.boards.write_boards.Given as goal

abbrev pub invariant-loop-number : goal.invariant-loop-number
invariant-loop-number g l = record {
  taken : Takes (between (g.W.Write.contents l.fn.writer) (g.W.Write.contents l.writer)) (flat_map (board_on l.format l.boards l.results) (take (l.number - 1) (range_with_len 1 36)));
  least : 1 ≤ l.number;
}
