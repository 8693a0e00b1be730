use Rattle.std.proofs.Common.{◌≡◌, ◌+◌, ◌-◌, length}
use Rattle.std.specs.Str.Lines.{lines}
use Rattle.bridge_config.specs.Reading.{rows_in}
use Rattle.bridge_config.proofs.Loops.{with_front}
use Rattle.bridge_config.proofs.reading.read_rows.Given as goal

-- the rows so far, and those of the lines that are left, are all the rows
abbrev pub invariant-loop-index : goal.invariant-loop-index
invariant-loop-index l = record {
  read : with_front l.rows.items (rows_in (l.count - l.index) (7 + l.index) (lines l.rest)) ≡ rows_in l.count 7 (lines l.text);
  count : length l.rows.items ≡ l.index;
}
