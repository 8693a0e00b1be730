-- What opening a disk answers.
use Rattle.std.specs.Prelude.{◌≡◌, ◌≢◌, ◌⊎◌, ◌<◌, ◌+◌, ◌-◌, ◌^◌, ◌==◌, ℕ, [], Option, Some, None, Result, Ok, Err, false, if◌then◌else◌}
use Rattle.sector_disk.specs.Disk.{Image, Disk, Rose}
use Rattle.sector_disk.specs.Runs.{EveryMoment, OnlyRead, Remains}
use Rattle.session_store.specs.Keeping.{Keeping, fold}
use Rattle.sector_disk.specs.declared.disk.DiskFault.{DiskFault}
use Rattle.session_store.specs.declared.reading.Header.{Header}
use Rattle.session_store.specs.declared.fault.StoreFault.{StoreFault}
use Rattle.session_store.specs.declared.fault.StoreFault.TheVariants.{Disk as DiskFailed, TooSmall, NotFormatted, EpochsSpent, NoMemory}
use Rattle.session_store.specs.declared.disk_format.DiskFormat.TheVariants.{Two}
use Rattle.session_store.specs.Base.{HasEpoch, HasFormat}
use Rattle.session_store.specs.Stands.{header_in, recovered, IsInOrder}
use Rattle.session_store.specs.Snapshot.{WritesSnapshot}
use Rattle.session_store.specs.Sound.{IsSoundDisk, StandsOnlyFor}
use Rattle.session_store.specs.Value.{StoreValue}
use Rattle.session_store.specs.Store.{IsSoundStore}

-- Why a call of a disk that is honest, or not, answered this fault: the disk's faults rose in it; or they did not, and
-- memory was refused, or it is what was found.
abbrev pub IsCause : {X : Type 0} → Type 0 → ℕ → ℕ → Result X StoreFault → StoreFault → Type 0
IsCause honest before now found fault =
    ((fault ≡ DiskFailed) × Rose before now)
    ⊎ ((now ≡ before)
    × ((fault ≡ NoMemory) ⊎ ((fault ≢ DiskFailed) × (fault ≢ TooSmall) × (honest → found ≡ Err fault))))

-- the same of a call that left this disk of that one
abbrev pub Causes : {D X : Type 0} → Disk D → D → D → Result X StoreFault → StoreFault → Type 0
Causes disk old new found fault = IsCause (disk.honest old) (disk.faults old) (disk.faults new) found fault

-- the header that counts is of an epoch before the last, so that its parts are read
abbrev pub HasNext : Image → Type 0
HasNext image = (h : Header) × (header_in image ≡ Some h) × (h.epoch ≢ 2 ^ 64 - 1)

-- every image of these is that one
abbrev pub IsOnly : (Image → Type 0) → Image → Type 0
IsOnly images image = (c : Image) → images c → c ≡ image

module _ {S A R : Type 0} (kept : Keeping S A R) where
  -- the state that a disk of this image is opened with, or why it is not: the epochs are tested before the parts
  unfoldable pub reading_from : Image → Option Header → Result S StoreFault
  reading_from image None = Err NotFormatted
  reading_from image (Some h) = if h.epoch == 2 ^ 64 - 1 then Err EpochsSpent else recovered kept image

  -- the same by the header that counts
  unfoldable pub reading : Image → Result S StoreFault
  reading image = reading_from image (header_in image)

  -- What a power cut leaves while a disk with these images is opened: it is in order, and stands for a state that one of
  -- these images stood for.
  pub record IsStillSound (images : Image → Type 0) (c : Image) : Type 0 where
    pub in_order : IsInOrder c
    pub state : S
    pub stands : recovered kept c ≡ Ok state
    pub start : Image
    pub was_there : images start
    pub stood : recovered kept start ≡ Ok state

module _ {D S A R : Type 0} (kept : Keeping S A R) (disk : Disk D) where
  -- what was read of a disk: an epoch that is not the last, and the state, twice; no call failed
  pub record IsRead (old new : D) (epoch : ℕ) (base state : S) : Type 0 where
    pub no_fault : disk.faults new ≡ disk.faults old
    pub more : epoch < 2 ^ 64 - 1
    pub same : base ≡ state
    pub state_of : disk.honest old → reading kept (disk.reads old) ≡ Ok state
    pub stands : disk.honest old → recovered kept (disk.reads old) ≡ Ok state
    pub has_epoch : disk.honest old → HasEpoch epoch (disk.reads old)

  -- why it was not read; `NoMemory` comes of an honest disk only where it has a header, of an epoch that is not the last
  pub record IsUnread (old new : D) (fault : StoreFault) : Type 0 where
    pub cause : Causes disk old new (reading kept (disk.reads old)) fault
    pub memory : fault ≡ NoMemory → disk.honest old → HasNext (disk.reads old)

  -- the store of this state with nothing pending, at the beginning of an epoch
  abbrev pub at_beginning : D → S → ℕ → StoreValue D S A
  at_beginning d state epoch =
      record { disk = d; base = state; pending = []; state = state; epoch = epoch; records = 0; failed = false }

  -- a store at the beginning of this epoch, of which the snapshot was written
  pub record Begins (d : D) (epoch : ℕ) (state : S) (v : StoreValue D S A) : Type 0 where
    pub is : v ≡ at_beginning v.disk state epoch
    pub snapshot : WritesSnapshot {E = DiskFault} kept disk d v.disk epoch state (Ok tt)

  -- opening this disk answered Ok with this store
  pub record IsOpened (d : D) (v : StoreValue D S A) : Type 0 where
    pub remains : Remains disk d v.disk
    pub state : disk.honest d → reading kept (disk.reads d) ≡ Ok v.state
    pub none_pending : v.pending ≡ []
    pub accepted : fold kept v.base v.pending ≡ Some v.state
    pub any_moment : IsSoundDisk kept disk d → EveryMoment disk d v.disk (IsStillSound kept (disk.may_leave d))
    pub sound : IsSoundDisk kept disk d → IsSoundStore kept disk v

  -- opening it failed, and gave this disk back
  pub record IsNotOpened (d e : D) : Type 0 where
    pub remains : Remains disk d e
    pub any_moment : IsSoundDisk kept disk d → EveryMoment disk d e (IsStillSound kept (disk.may_leave d))
    pub stays_sound : IsSoundDisk kept disk d → IsSoundDisk kept disk e

  -- Opening this disk answered Ok with this store, which works, and in which nothing is recorded so far. No call of the disk
  -- failed; the epoch is the one after the disk's, and every image that a power cut may leave is of the second format.
  pub record Opens (d : D) (v : StoreValue D S A) : Type 0 where
    pub opened : IsOpened d v
    pub works : v.failed ≡ false
    pub no_records : v.records ≡ 0
    pub no_fault : disk.faults v.disk ≡ disk.faults d
    pub next_epoch : disk.honest d → (epoch : ℕ) × HasEpoch epoch (disk.reads d) × (v.epoch ≡ epoch + 1)
    pub format : disk.honest d → (c : Image) → disk.may_leave v.disk c → HasFormat Two c
    pub stands : IsSoundDisk kept disk d → StandsOnlyFor kept disk v.state v.disk

  -- Opening this disk, of at least 2,048 sectors, failed by this fault, and gave this disk back. Unless a call of it failed,
  -- nothing was written, and a power cut leaves what was read. A sound disk is refused for one of three causes.
  pub record Refuses (d e : D) (fault : StoreFault) : Type 0 where
    pub not_opened : IsNotOpened d e
    pub unread : IsUnread d e fault
    pub only_read : fault ≢ DiskFailed → disk.honest d → OnlyRead disk d e
    pub at_rest : fault ≢ DiskFailed → disk.honest d → IsOnly (disk.may_leave e) (disk.reads d)
    pub causes : IsSoundDisk kept disk d → (fault ≡ DiskFailed) ⊎ ((fault ≡ EpochsSpent) ⊎ (fault ≡ NoMemory))
