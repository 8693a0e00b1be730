-- Sound disks: every image that a power cut may leave stands for a state, and is in order.
use Rattle.std.specs.Prelude.{◌≡◌, ◌≤◌, Ok}
use Rattle.sector_disk.specs.Disk.{Image, Disk}
use Rattle.session_store.specs.Layout.{sector_count}
use Rattle.session_store.specs.Keeping.{Keeping}
use Rattle.session_store.specs.Stands.{recovered, IsInOrder}

module _ {S A R D : Type 0} (kept : Keeping S A R) (disk : Disk D) where
  -- an honest disk, large enough, of which every power cut leaves a state
  pub record IsSoundDisk (d : D) : Type 0 where
    pub honest : disk.honest d
    pub large : sector_count ≤ disk.count d
    pub stands : (c : Image) → disk.may_leave d c → (s : S) × (recovered kept c ≡ Ok s)
    pub in_order : (c : Image) → disk.may_leave d c → IsInOrder c

  -- every image that a power cut may leave stands for this state
  abbrev pub StandsOnlyFor : S → D → Type 0
  StandsOnlyFor s d = (c : Image) → disk.may_leave d c → recovered kept c ≡ Ok s
