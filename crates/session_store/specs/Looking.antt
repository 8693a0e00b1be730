-- What is seen on a disk that is left as it is: the snapshot of a header, and its epoch's records.
use Rattle.std.specs.Prelude.{◌≡◌, ◌<◌, ◌≤◌, ◌+◌, nat_lt, ℕ, if◌then◌else◌, Option, Some, None, Ok}
use Rattle.sector_disk.specs.Disk.{Image, Disk}
use Rattle.session_store.specs.Layout.{journal_place, record_limit, second_place}
use Rattle.session_store.specs.Keeping.{Keeping}
use Rattle.session_store.specs.declared.disk_format.DiskFormat.{DiskFormat}
use Rattle.session_store.specs.declared.reading.Header.{Header}
use Rattle.session_store.specs.declared.reading.Entry.TheVariants.{Missing, Holds}
use Rattle.session_store.specs.declared.fault.StoreFault.{StoreFault}
use Rattle.session_store.specs.declared.fault.StoreFault.TheVariants.{NoMemory}
use Rattle.session_store.specs.Form.{entry_in, place}
use Rattle.session_store.specs.Stands.{header_at, after_header}
use Rattle.session_store.specs.Opening.{Causes}

-- of two headers the one with the lower epoch
unfoldable pub older : Option Header → Option Header → Option Header
older None b = None
older (Some a) None = None
older (Some a) (Some b) = if nat_lt a.epoch b.epoch then Some a else Some b

-- the header that does not count, where there are two
unfoldable pub older_header_in : Image → Option Header
older_header_in image = older (header_at 0 (image 0)) (header_at second_place (image second_place))

module _ {S A R : Type 0} (kept : Keeping S A R) where
  -- the journal has this record of an epoch, in form
  abbrev pub HoldsRecord : DiskFormat → Image → ℕ → ℕ → Type 0
  HoldsRecord format image epoch k = (a : A) × (entry_in kept format epoch k (image (journal_place + k)) ≡ Holds a)

  -- so many records of an epoch stand in the journal before the first that is missing
  pub record CountsRecords (format : DiskFormat) (image : Image) (epoch count : ℕ) : Type 0 where
    pub few : count ≤ record_limit
    pub held : (k : ℕ) → k < count → HoldsRecord format image epoch k
    pub ends : count < record_limit → entry_in kept format epoch count (image (journal_place + count)) ≡ Missing

module _ {D S A R : Type 0} (kept : Keeping S A R) (disk : Disk D) (header : Image → Option Header) where
  -- What was seen of a disk under that header of it: its format, epoch and place, the state, and how many records led to it
  -- from the snapshot. No call failed.
  pub record IsSeen (old new : D) (state : S) (format : DiskFormat) (epoch sector records : ℕ) : Type 0 where
    pub no_fault : disk.faults new ≡ disk.faults old
    pub state_of : disk.honest old → after_header kept (disk.reads old) (header (disk.reads old)) ≡ Ok state
    pub stated : disk.honest old
        → (h : Header) × (header (disk.reads old) ≡ Some h) × (h.format ≡ format) × (h.epoch ≡ epoch)
    pub stands_at : sector ≡ place epoch
    pub counted : disk.honest old → CountsRecords kept format (disk.reads old) epoch records

  -- why nothing was seen; `NoMemory` comes of an honest disk only where it has that header
  pub record IsUnseen (old new : D) (fault : StoreFault) : Type 0 where
    pub cause : Causes disk old new (after_header kept (disk.reads old) (header (disk.reads old))) fault
    pub memory : fault ≡ NoMemory → disk.honest old → (h : Header) × (header (disk.reads old) ≡ Some h)
