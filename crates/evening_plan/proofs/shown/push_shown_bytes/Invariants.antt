use Rattle.std.proofs.Common.{◌≡◌, ◌+◌, ◌*◌, ◌≤◌, ◌++◌, length, take}
use Rattle.std.specs.Prelude.{flat_map}
use Rattle.evening_plan.specs.Shown.{shown_byte}
use Rattle.evening_plan.proofs.shown.push_shown_bytes.Given as goal

abbrev pub invariant-loop-byte : goal.invariant-loop-byte
invariant-loop-byte l = record {
  text : l.text.items ≡ l.fn.text.items ++ flat_map shown_byte (take l.byte-index l.bytes);
  room : length l.text.items ≤ length l.fn.text.items + 4 * l.byte-index;
}
