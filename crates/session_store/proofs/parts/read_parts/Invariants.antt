use Rattle.std.proofs.Common.{◌≡◌, ◌≤◌, ◌-◌, length, map, vec_capacity}
use Rattle.sector_disk.specs.Runs.{Quiet}
use Rattle.session_store.specs.Stands.{parts_from}
use Rattle.session_store.proofs.PartsLemmas.{with_parts}
use Rattle.session_store.proofs.parts.read_parts.Given as goal

abbrev pub invariant-loop-i : goal.invariant-loop-i
invariant-loop-i g l = let disk = g.D.SectorDisk.disk in record {
  quiet : Quiet disk l.fn.disk l.disk;
  no_fault : disk.faults l.disk ≡ disk.faults l.fn.disk;
  room : l.header.parts ≤ vec_capacity l.parts;
  count : length l.parts.items ≡ l.i;
  read : disk.honest l.fn.disk → parts_from l.header.format (disk.reads l.fn.disk) l.header.epoch 0 l.header.parts
      ≡ with_parts (map (λ part. part.items) l.parts.items) (parts_from l.header.format (disk.reads l.fn.disk) l.header.epoch l.i (l.header.parts - l.i));
}
