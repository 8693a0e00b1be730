-- What a disk of sectors means: what a read gives, what a power cut leaves, how many calls failed.
use Rattle.std.specs.Prelude.{◌≡◌, ◌≤◌, ◌+◌, ◌-◌, ◌^◌, min, ℕ, List, if◌then◌else◌, ◌==◌}

-- what may stand on a disk: the bytes of each sector, by the sector's number
abbrev pub Image : Type 0
Image = ℕ → List ℕ

-- the same bytes in each sector
abbrev pub IsSame : Image → Image → Type 0
IsSame a b = (k : ℕ) → a k ≡ b k

-- the image with these bytes in sector i
unfoldable pub with_sector : Image → ℕ → List ℕ → Image
with_sector image i bytes k = if k == i then bytes else image k

-- The meaning of a disk D. All but `count` and `faults` is said of an honest disk.
pub record Disk (D : Type 0) : Type 1 where
  -- it keeps sectors old or new and never torn, and gives synced sectors as they were written
  pub honest : D → Type 0
  -- how many sectors it has
  pub count : D → ℕ
  -- what reads give
  pub reads : D → Image
  -- what a power cut at this moment may leave
  pub may_leave : D → Image → Type 0
  -- a clock that never goes back
  pub moment : D → ℕ
  -- what a power cut at some moment from that one on, within a call or between two, might have left
  pub left_since : D → ℕ → Image → Type 0
  -- how many calls failed
  pub faults : D → ℕ
  -- the disk as it reads is one of the images that a power cut may leave
  pub reads_left : (d : D) → honest d → may_leave d (reads d)
  -- this moment is one of those since an earlier one
  pub counts_now : (d : D) (t : ℕ) (c : Image) → honest d → t ≤ moment d → may_leave d c → left_since d t c
  -- since this moment there is no other
  pub only_now : (d : D) (c : Image) → honest d → left_since d (moment d) c → may_leave d c

-- one fault more; a count that stands at 2^64 - 1 stays there
abbrev pub one_more : ℕ → ℕ
one_more faults = min (faults + 1) (2 ^ 64 - 1)

-- there was a fault between the two counts; at 2^64 - 1 that can't be told, and counts as a rise
abbrev pub Rose : ℕ → ℕ → Type 0
Rose before now = one_more before ≤ now
