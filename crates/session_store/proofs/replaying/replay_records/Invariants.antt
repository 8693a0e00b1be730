use Rattle.std.proofs.Common.{◌≡◌, ◌<◌, ◌-◌, ℕ}
use Rattle.sector_disk.specs.Runs.{Quiet}
use Rattle.session_store.specs.Looking.{HoldsRecord}
use Rattle.session_store.specs.Stands.{replay}
use Rattle.session_store.proofs.replaying.replay_records.Given as goal

abbrev pub invariant-loop-number : goal.invariant-loop-number
invariant-loop-number g l = let disk = g.D.SectorDisk.disk in record {
  quiet : Quiet disk l.fn.disk l.disk;
  no_fault : disk.faults l.disk ≡ disk.faults l.fn.disk;
  same : l.base ≡ l.state;
  held : disk.honest l.fn.disk → (k : ℕ) → k < l.number → HoldsRecord g.K.Kept.kept l.format (disk.reads l.fn.disk) l.epoch k;
  replayed : disk.honest l.fn.disk → replay g.K.Kept.kept l.format 1024 (disk.reads l.fn.disk) l.epoch 0 l.fn.state
      ≡ replay g.K.Kept.kept l.format (1024 - l.number) (disk.reads l.fn.disk) l.epoch l.number l.state;
}
