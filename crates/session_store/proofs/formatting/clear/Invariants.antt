use Rattle.std.proofs.Common.{◌≡◌, ◌<◌, ℕ, replicate}
use Rattle.sector_disk.specs.Runs.{EveryMoment, Remains}
use Rattle.session_store.specs.Snapshot.{SameBehind}
use Rattle.session_store.proofs.formatting.clear.Given as goal

abbrev pub invariant-loop-i : goal.invariant-loop-i
invariant-loop-i g l = let disk = g.D.SectorDisk.disk in record {
  remains : Remains disk l.fn.disk l.disk;
  no_fault : disk.faults l.disk ≡ disk.faults l.fn.disk;
  zeros : disk.honest l.fn.disk → (k : ℕ) → k < l.i → disk.reads l.disk k ≡ replicate 512 0;
  behind : disk.honest l.fn.disk → EveryMoment disk l.fn.disk l.disk (SameBehind (disk.may_leave l.fn.disk));
}
