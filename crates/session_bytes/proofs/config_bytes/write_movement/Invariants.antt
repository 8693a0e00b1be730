use Rattle.std.proofs.Common.{◌≡◌, ◌*◌, length, take}
use Rattle.std.specs.Prelude.{flat_map}
use Rattle.session_bytes.specs.Parts.{row_bytes}
use Rattle.session_bytes.proofs.config_bytes.write_movement.Given as goal

abbrev pub invariant-loop-row : goal.invariant-loop-row
invariant-loop-row l = record {
  bytes : l.part.items ≡ flat_map row_bytes (take l.row-index l.rows);
  room : length l.part.items ≡ 3 * l.row-index;
}
