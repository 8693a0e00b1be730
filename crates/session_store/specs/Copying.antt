-- What bringing a state to a second disk does there.
use Rattle.std.specs.Prelude.{◌≡◌, ◌⊎◌, ◌≤◌, ◌+◌, ◌-◌, ◌^◌, ℕ, [], true, false, Ok, Err}
use Rattle.sector_disk.specs.Disk.{Image, Disk, Rose}
use Rattle.sector_disk.specs.declared.disk.DiskFault.{DiskFault}
use Rattle.session_store.specs.Keeping.{Keeping}
use Rattle.session_store.specs.Epochs.{epoch_in}
use Rattle.session_store.specs.Stands.{recovered, IsInOrder}
use Rattle.session_store.specs.Snapshot.{NothingLater, WritesSnapshot}
use Rattle.session_store.specs.Opening.{IsStillSound}
use Rattle.session_store.specs.Value.{StoreValue}
use Rattle.session_store.specs.declared.fault.StoreFault.{StoreFault}
use Rattle.session_store.specs.declared.fault.StoreFault.TheVariants.{Disk as DiskFailed, TooSmall, NotFormatted, Damaged, EpochsSpent, NoMemory}

-- An honest disk on which no header and no record is of an epoch above that of the header that counts: as on any that a
-- store left, and as on one of zeros.
pub record IsOrderly {D : Type 0} (disk : Disk D) (d : D) : Type 0 where
  pub honest : disk.honest d
  pub nothing_later : NothingLater (epoch_in (disk.reads d)) (disk.reads d)

-- what a power cut leaves while a state is brought to a disk with these images: it is in order, and stands for what one of
-- these images stood for, or for the state
abbrev pub IsOldOrNew : {S A R : Type 0} → Keeping S A R → (Image → Type 0) → S → Image → Type 0
IsOldOrNew kept images s c = IsStillSound kept images c ⊎ ((recovered kept c ≡ Ok s) × IsInOrder c)

-- a store goes on in its epoch or the next, and no call of its disk failed
abbrev pub GoesOn : {D S A : Type 0} → Disk D → StoreValue D S A → StoreValue D S A → Type 0
GoesOn disk old new = (new.epoch ≤ old.epoch + 1) × (disk.faults new.disk ≡ disk.faults old.disk)

-- why a store that works was not made ready for a copy: memory was refused, or there is no epoch after its own, and then it is
-- left as it was; or a call of its disk failed
abbrev pub CannotPrepare : {D S A : Type 0} → Disk D → StoreValue D S A → StoreValue D S A → StoreFault → Type 0
CannotPrepare disk old new NoMemory = new ≡ old
CannotPrepare disk old new EpochsSpent = (old.epoch ≡ 2 ^ 64 - 1) × (new ≡ old)
CannotPrepare disk old new DiskFailed = Rose (disk.faults old.disk) (disk.faults new.disk)
CannotPrepare disk old new TooSmall = ⊥
CannotPrepare disk old new NotFormatted = ⊥
CannotPrepare disk old new (Damaged _) = ⊥

-- A store of this state at the beginning of this epoch, of which the snapshot was written to this disk; where it has
-- failed, a call of the disk failed in that.
pub record BeginsCopy {D S A R : Type 0} (kept : Keeping S A R) (disk : Disk D) (d : D) (epoch : ℕ) (state : S)
    (v : StoreValue D S A) : Type 0 where
  pub is : v ≡ record { disk = v.disk; base = state; pending = []; state = state; epoch = epoch; records = 0; failed = v.failed }
  pub written : v.failed ≡ false → WritesSnapshot {E = DiskFault} kept disk d v.disk epoch state (Ok tt)
  pub fault : v.failed ≡ true → (fault : DiskFault) × WritesSnapshot kept disk d v.disk epoch state (Err fault)
