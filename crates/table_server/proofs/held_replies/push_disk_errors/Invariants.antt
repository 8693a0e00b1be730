use Rattle.std.proofs.Common.{◌≡◌, ◌≤◌, ◌*◌, length}
use Rattle.table_server.specs.Answered.{disk_errors}
use Rattle.table_server.proofs.held_replies.push_disk_errors.Given as goal

abbrev pub invariant-loop : goal.invariant-loop
invariant-loop l = record {
  text : l.text.bytes ≡ disk_errors l.counter;
  room : length l.text.bytes ≤ 29 * l.counter;
}
