use Rattle.std.proofs.Common.{◌≡◌, ◌+◌, ◌*◌, ◌≤◌, ◌++◌, length, take, map}
use Rattle.std.specs.Prelude.{flat_map}
use Rattle.bridge_config.specs.ConfigValue.{pair_of}
use Rattle.line_text.specs.Lines.{lines_text}
use Rattle.desk_replies.specs.Told.{call_lines}
use Rattle.desk_replies.proofs.telling.push_each.Given as goal

abbrev pub invariant-loop-call : goal.invariant-loop-call
invariant-loop-call l = record {
  text : l.text.bytes ≡ l.fn.text.bytes ++ lines_text (flat_map (call_lines (map pair_of l.pairs)) (take l.call-index l.calls));
  room : length l.text.bytes ≤ length l.fn.text.bytes + 864 * l.call-index;
}
