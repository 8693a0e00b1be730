-- What the writing of a snapshot, of the second format, does to an image.
use Rattle.std.specs.Prelude.{◌≡◌, ◌⊎◌, ◌<◌, ◌≤◌, ◌+◌, ℕ, List, [], length, slice_index_or, Some, Result, OnOk, OnErr}
use Rattle.sector_disk.specs.Disk.{Image, with_sector, Disk, Rose}
use Rattle.sector_disk.specs.Runs.{EveryMoment, Remains}
use Rattle.session_store.specs.Layout.{second_place, sector_count, snapshot_size}
use Rattle.session_store.specs.Keeping.{Keeping}
use Rattle.session_store.specs.declared.disk_format.DiskFormat.TheVariants.{Two}
use Rattle.session_store.specs.declared.reading.Header.{Header}
use Rattle.session_store.specs.Form.{sector, header_mark, part_mark, place}
use Rattle.session_store.specs.Stands.{header_at, NoneLater}

-- the same but for the sectors of this epoch's snapshot past its header
abbrev pub SameButParts : ℕ → Image → Image → Type 0
SameButParts epoch a b =
    (k : ℕ) → ((place epoch < k) × (k < place epoch + snapshot_size) → ⊥) → b k ≡ a k

-- one of these images, but for the parts of this epoch's snapshot
abbrev pub ButForParts : (Image → Type 0) → ℕ → Image → Type 0
ButForParts images epoch c = (d : Image) × images d × SameButParts epoch d c

-- from sector 2,048 on, behind those that a store uses, the same as one of these images
abbrev pub SameBehind : (Image → Type 0) → Image → Type 0
SameBehind images c = (d : Image) × images d × ((k : ℕ) → sector_count ≤ k → c k ≡ d k)

-- no header and no record is of an epoch above this one
pub record NothingLater (epoch : ℕ) (image : Image) : Type 0 where
  pub first : (h : Header) → header_at 0 (image 0) ≡ Some h → h.epoch ≤ epoch
  pub second : (h : Header) → header_at second_place (image second_place) ≡ Some h → h.epoch ≤ epoch
  pub none_later : NoneLater epoch image

module _ {S A R : Type 0} (kept : Keeping S A R) where
  -- the parts of this state stand in this epoch's snapshot
  abbrev pub HasParts : ℕ → S → Image → Type 0
  HasParts epoch state image = (i : ℕ) → i < length (kept.parts state)
      → image (place epoch + 1 + i) ≡ sector (part_mark Two) epoch i (slice_index_or (kept.parts state) i [])

  -- the header of a snapshot of this state
  abbrev pub header_sector : ℕ → S → List ℕ
  header_sector epoch state = sector (header_mark Two) epoch (length (kept.parts state)) []

  -- one of these images with a new snapshot of this state: all its parts, and over them its header
  abbrev pub WithSnapshot : (Image → Type 0) → ℕ → S → Image → Type 0
  WithSnapshot images epoch state c = (d : Image) × ButForParts images epoch d × HasParts epoch state d
      × (c ≡ with_sector d (place epoch) (header_sector epoch state))

  -- what the writing of a snapshot may leave at any moment
  abbrev pub IsSnapshotting : (Image → Type 0) → ℕ → S → Image → Type 0
  IsSnapshotting images epoch state c = ButForParts images epoch c ⊎ WithSnapshot images epoch state c

-- The writing of a snapshot of this state for this epoch: Ok where it stands on the disk, an error where a call of the disk
-- failed.
pub record WritesSnapshot {D S A R E : Type 0} (kept : Keeping S A R) (disk : Disk D) (old new : D) (epoch : ℕ) (state : S)
    (result : Result (Unit {0}) E) : Type 0 where
  pub remains : Remains disk old new
  pub fault : OnErr result (Rose (disk.faults old) (disk.faults new))
  pub no_fault : OnOk result (disk.faults new ≡ disk.faults old)
  pub any_moment : disk.honest old → EveryMoment disk old new (IsSnapshotting kept (disk.may_leave old) epoch state)
  pub written : disk.honest old → OnOk result ((c : Image) → disk.may_leave new c
      → WithSnapshot kept (disk.may_leave old) epoch state c)
  pub is_state : kept.IsState state
