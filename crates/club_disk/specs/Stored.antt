-- The disk of a club, and the session that a disk holds, opened of it or read of it.
use Rattle.std.specs.Prelude.{◌≡◌, ◌⊎◌, ◌<◌, ◌≤◌, ◌+◌, ℕ, false, Option, Ok}
use Rattle.std.specs.declared.fs.File.{File}
use Rattle.sector_disk.specs.declared.file.FileDisk.{FileDisk}
use Rattle.sector_disk.specs.declared.system_file.SystemFile.{SystemFile}
use Rattle.sector_disk.specs.File.{file_disk}
use Rattle.sector_disk.specs.Disk.{Disk, Image}
use Rattle.sector_disk.specs.Runs.{Quiet}
use Rattle.session_store.specs.declared.fault.StoreFault.{StoreFault}
use Rattle.session_store.specs.declared.fault.StoreFault.TheVariants.{TooSmall}
use Rattle.session_store.specs.declared.reading.Header.{Header}
use Rattle.session_store.specs.Layout.{sector_count}
use Rattle.session_store.specs.Base.{HasEpoch}
use Rattle.session_store.specs.Looking.{IsUnseen}
use Rattle.session_store.specs.Opening.{IsOpened, Refuses}
use Rattle.session_store.specs.Stands.{recovered}
use Rattle.session_store.specs.Value.{StoreValue}
use Rattle.bridge_config.specs.ConfigValue.{ConfigValue}
use Rattle.bridge_session.specs.SessionKeeping.{session_keeping}
use Rattle.session_rules.specs.declared.action.Action.{Action}
use Rattle.session_rules.specs.State.{SessionValue, opening}

-- the store of a session on a disk
abbrev pub StoreOn : Type 0 → Type 0
StoreOn D = StoreValue D SessionValue Action

-- a disk of this image holds the session as a configuration begins it
abbrev pub IsOpening : Image → Type 0
IsOpening image = (configuration : ConfigValue) × (recovered session_keeping image ≡ Ok (opening configuration))

module _ {D : Type 0} (disk : Disk D) where
  -- Opening a disk gave this store, which works: no call of the disk failed. Its epoch is the one after the disk's, and has
  -- no record so far.
  pub record OpensSession (d : D) (store : StoreOn D) : Type 0 where
    pub opened : IsOpened session_keeping disk d store
    pub works : store.failed ≡ false
    pub no_records : store.records ≡ 0
    pub no_fault : disk.faults store.disk ≡ disk.faults d
    pub next_epoch : disk.honest d → (epoch : ℕ) × HasEpoch epoch (disk.reads d) × (store.epoch ≡ epoch + 1)

  -- Opening a disk gives no session, and hands back the disk that opening left: it has fewer than 2,048 sectors, and is as it
  -- was; or opening refuses it, for a call of it that failed, for want of memory, or by what it reads, and unless a call failed
  -- it was only read.
  abbrev pub RefusesDisk : D → D → StoreFault → Type 0
  RefusesDisk d left fault = ((disk.count d < sector_count) × (left ≡ d) × (fault ≡ TooSmall))
      ⊎ ((sector_count ≤ disk.count d) × Refuses session_keeping disk d left fault)

  -- Reading a disk left it so and gave the session that it stands for. Nothing was written, and no call of the disk failed.
  pub record ReadsSession (d left : D) (session : SessionValue) : Type 0 where
    pub quiet : Quiet disk d left
    pub no_fault : disk.faults left ≡ disk.faults d
    pub stands : disk.honest d → recovered session_keeping (disk.reads d) ≡ Ok session

  -- Reading what stands under a header of a disk left the disk so and gave nothing: it has fewer than 2,048 sectors, and is
  -- as it was; or nothing was written, and a call of it failed, memory was refused, or what it reads is refused. `NoMemory`
  -- comes of an honest disk only where it has that header.
  abbrev pub RefusesReading : (Image → Option Header) → D → D → StoreFault → Type 0
  RefusesReading header d left fault = ((disk.count d < sector_count) × (left ≡ d) × (fault ≡ TooSmall))
      ⊎ ((sector_count ≤ disk.count d) × Quiet disk d left × IsUnseen session_keeping disk header d left fault)

-- the disk of a club, which is in a file of the system
abbrev pub ClubDisk : Type 0
ClubDisk = FileDisk (SystemFile File)

-- the store of the session on it
abbrev pub ClubStore : Type 0
ClubStore = StoreOn ClubDisk

-- a store was led to another, between which that holds, and whose disk is left
abbrev pub Leads : (ClubStore → ClubStore → Type 0) → ClubStore → ClubDisk → Type 0
Leads P start left = (last : ClubStore) × (left ≡ last.disk) × P start last

-- a session was opened on a disk, and its store led so
abbrev pub Over : (ClubStore → ClubStore → Type 0) → ClubDisk → ClubDisk → Type 0
Over P d left = (start : ClubStore) × OpensSession file_disk d start × Leads P start left
