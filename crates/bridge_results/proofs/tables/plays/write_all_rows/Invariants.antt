use Rattle.std.proofs.Common.{◌-◌, ◌≤◌, take}
use Rattle.std.specs.Prelude.{flat_map}
use Rattle.std.specs.List.{range_with_len}
use Rattle.line_text.specs.Streams.{between, Takes}
use Rattle.bridge_results.specs.TablesText.{board_rows}
use Rattle.bridge_results.proofs.tables.plays.write_all_rows.Given as goal

abbrev pub invariant-loop-number : goal.invariant-loop-number
invariant-loop-number g l = record {
  taken : Takes (between (g.W.Write.contents l.fn.writer) (g.W.Write.contents l.writer)) (flat_map (board_rows l.session) (take (l.number - 1) (range_with_len 1 36)));
  least : 1 ≤ l.number;
}
