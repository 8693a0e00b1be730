use Rattle.std.proofs.Common.{◌≡◌, ◌-◌, ◌≤◌, take, map}
use Rattle.std.specs.List.{range_with_len}
use Rattle.serde_json.specs.View.{view}
use Rattle.event_object.specs.EventObject.{board_data}
use Rattle.event_object.proofs.boards.board_values.Given as goal

abbrev pub invariant-loop-number : goal.invariant-loop-number
invariant-loop-number l = record {
  made : map view l.list.items ≡ map (board_data l.results) (take (l.number - 1) (range_with_len 1 36));
  least : 1 ≤ l.number;
}
