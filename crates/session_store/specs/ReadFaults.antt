-- Why the state of a disk was not read, as a caller of the store is told.
use Rattle.std.specs.Prelude.{◌≡◌, ◌⊎◌, ◌+◌, ℕ, None}
use Rattle.sector_disk.specs.Disk.{Disk as SectorsOf, Rose}
use Rattle.session_store.specs.declared.disk_format.DiskFormat.{DiskFormat}
use Rattle.session_store.specs.Form.{part_mark, payload_in, place}
use Rattle.session_store.specs.declared.fault.ReadFault.{ReadFault}
use Rattle.session_store.specs.declared.fault.ReadFault.TheVariants.{Disk, NotFormatted, EpochsSpent, Damaged, NoMemory}
use Rattle.session_store.specs.declared.fault.CheckpointFault.{CheckpointFault}
use Rattle.session_store.specs.declared.fault.CheckpointFault.TheVariants.{Failed as CheckpointFailed, EpochsSpent as CheckpointEpochsSpent, Disk as CheckpointDisk}
use Rattle.session_store.specs.declared.fault.StoreFault.{StoreFault}
use Rattle.session_store.specs.declared.fault.StoreFault.TheVariants.{Disk as StoreDisk, NotFormatted as StoreNotFormatted, EpochsSpent as StoreEpochsSpent, Damaged as StoreDamaged, NoMemory as StoreNoMemory}

-- the fault of a store that a fault of reading is
abbrev pub store_fault : ReadFault → StoreFault
store_fault Disk = StoreDisk
store_fault NotFormatted = StoreNotFormatted
store_fault EpochsSpent = StoreEpochsSpent
store_fault (Damaged sector) = StoreDamaged sector
store_fault (NoMemory room) = StoreNoMemory

-- the fault of a store that could not make a checkpoint
abbrev pub checkpoint_fault : CheckpointFault → StoreFault
checkpoint_fault CheckpointFailed = StoreDisk
checkpoint_fault CheckpointEpochsSpent = StoreEpochsSpent
checkpoint_fault CheckpointDisk = StoreDisk

-- why part i of an epoch's snapshot was not read: a call of the disk failed, or the part is damaged
abbrev pub IsPartUnread : {D : Type 0} → SectorsOf D → DiskFormat → ℕ → ℕ → D → D → ReadFault → Type 0
IsPartUnread disk format epoch i old new fault =
    ((fault ≡ Disk) × Rose (disk.faults old) (disk.faults new))
    ⊎ ((fault ≡ Damaged (place epoch + 1 + i)) × (disk.faults new ≡ disk.faults old)
    × (disk.honest old → payload_in (part_mark format) epoch i (disk.reads old (place epoch + 1 + i)) ≡ None))
