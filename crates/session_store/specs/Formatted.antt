-- What formatting makes of a disk.
use Rattle.std.specs.Prelude.{◌≡◌, ◌≤◌}
use Rattle.sector_disk.specs.Disk.{Image, Disk, Rose}
use Rattle.sector_disk.specs.Runs.{EveryMoment, Remains}
use Rattle.session_store.specs.Layout.{sector_count}
use Rattle.session_store.specs.Keeping.{Keeping}
use Rattle.session_store.specs.declared.disk_format.DiskFormat.TheVariants.{Two}
use Rattle.session_store.specs.Base.{HasEpoch, HasFormat}
use Rattle.session_store.specs.Snapshot.{SameBehind}
use Rattle.session_store.specs.Sound.{IsSoundDisk, StandsOnlyFor}

-- Of a disk one was made that holds this state alone, in epoch 1 and in the second format, and no call of it failed. The
-- sectors behind those that a store uses were left alone at every moment.
pub record IsFormatted {D S A R : Type 0} (kept : Keeping S A R) (disk : Disk D) (state : S) (old new : D) : Type 0 where
  pub remains : Remains disk old new
  pub large : sector_count ≤ disk.count new
  pub no_fault : disk.faults new ≡ disk.faults old
  pub epoch : disk.honest old → (c : Image) → disk.may_leave new c → HasEpoch 1 c
  pub format : disk.honest old → (c : Image) → disk.may_leave new c → HasFormat Two c
  pub stands : disk.honest old → StandsOnlyFor kept disk state new
  pub sound : disk.honest old → IsSoundDisk kept disk new
  pub behind : disk.honest old → EveryMoment disk old new (SameBehind (disk.may_leave old))

-- A call of the disk failed while it was formatted. The sectors behind were left alone at every moment.
pub record IsUnformatted {D : Type 0} (disk : Disk D) (old new : D) : Type 0 where
  pub remains : Remains disk old new
  pub fault : Rose (disk.faults old) (disk.faults new)
  pub behind : disk.honest old → EveryMoment disk old new (SameBehind (disk.may_leave old))
