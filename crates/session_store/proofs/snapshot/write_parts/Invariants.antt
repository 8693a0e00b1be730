use Rattle.std.proofs.Common.{◌≡◌, ◌<◌, ◌+◌, ℕ, [], get_or}
use Rattle.sector_disk.specs.Runs.{EveryMoment, Remains}
use Rattle.session_store.specs.declared.disk_format.DiskFormat.TheVariants.{Two}
use Rattle.session_store.specs.Form.{sector, part_mark, place}
use Rattle.session_store.specs.Snapshot.{ButForParts}
use Rattle.session_store.proofs.snapshot.write_parts.Given as goal

abbrev pub invariant-loop-i : goal.invariant-loop-i
invariant-loop-i g l = let disk = g.D.SectorDisk.disk in record {
  remains : Remains disk l.fn.disk l.disk;
  no_fault : disk.faults l.disk ≡ disk.faults l.fn.disk;
  moments : disk.honest l.fn.disk → EveryMoment disk l.fn.disk l.disk (ButForParts (disk.may_leave l.fn.disk) l.epoch);
  written : disk.honest l.fn.disk → (k : ℕ) → k < l.i
      → disk.reads l.disk (place l.epoch + 1 + k) ≡ sector (part_mark Two) l.epoch k (get_or (g.K.Kept.kept.parts l.state) k []);
}
