use Rattle.std.proofs.Common.{◌≡◌, ◌+◌, ◌++◌, length, take, map}
use Rattle.bridge_auction.specs.Call.{call_number}
use Rattle.session_bytes.specs.Parts.{two_bytes}
use Rattle.session_bytes.proofs.record_bytes.put_calls.Given as goal

abbrev pub invariant-loop-call : goal.invariant-loop-call
invariant-loop-call l = record {
  bytes : l.part.items ≡ l.fn.part.items ++ two_bytes (length l.calls) ++ map call_number (take l.call-index l.calls);
  room : length l.part.items ≡ length l.fn.part.items + 2 + l.call-index;
}
