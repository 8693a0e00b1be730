use Rattle.std.proofs.Common.{◌≡◌, length, map, take}
use Rattle.bridge_auction.specs.Call.{call_at}
use Rattle.session_bytes.specs.Reading.{some_call}
use Rattle.session_bytes.proofs.record_read.calls_of.Given as goal

abbrev pub invariant-loop-number : goal.invariant-loop-number
invariant-loop-number l = record {
  so_far : map some_call l.calls.items ≡ map call_at (take l.number-index l.numbers);
  room : length l.calls.items ≡ l.number-index;
}
