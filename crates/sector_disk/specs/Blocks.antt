-- What a file of blocks of 512 bytes means: how long it is, what a read gives, what a power cut leaves.
use Rattle.std.specs.Prelude.{◌≡◌, ◌≤◌, ◌/◌, ◌%◌, ℕ}
use Rattle.sector_disk.specs.Disk.{Image, Disk}
use Rattle.sector_disk.specs.Calls.{Elapses}

-- The meaning of a file F. Block k is its bytes 512 k to 512 k + 511, and an image has the bytes of each block. All of it
-- is said of an honest file.
pub record Blocks (F : Type 0) : Type 1 where
  -- it keeps blocks old or new and never torn, and gives synced blocks as they were written
  pub honest : F → Type 0
  -- how many bytes it has
  pub length : F → ℕ
  -- what reads give
  pub reads : F → Image
  -- what a power cut at this moment may leave
  pub may_leave : F → Image → Type 0
  -- a clock that never goes back
  pub moment : F → ℕ
  -- what a power cut at some moment from that one on, within a call or between two, might have left
  pub left_since : F → ℕ → Image → Type 0
  -- the file as it reads is one of the images that a power cut may leave
  pub reads_left : (f : F) → honest f → may_leave f (reads f)
  -- this moment is one of those since an earlier one
  pub counts_now : (f : F) (t : ℕ) (c : Image) → honest f → t ≤ moment f → may_leave f c → left_since f t c
  -- since this moment there is no other
  pub only_now : (f : F) (c : Image) → honest f → left_since f (moment f) c → may_leave f c

-- a block begins at this byte
abbrev pub IsPlace : ℕ → Type 0
IsPlace offset = offset % 512 ≡ 0

-- the disk that has the blocks as its sectors, and counts no faults
abbrev pub as_disk : {F : Type 0} → Blocks F → Disk F
as_disk blocks = record {
  honest = λ f. blocks.honest f;
  count = λ f. blocks.length f / 512;
  reads = λ f. blocks.reads f;
  may_leave = λ f c. blocks.may_leave f c;
  moment = λ f. blocks.moment f;
  left_since = λ f t c. blocks.left_since f t c;
  faults = λ f. 0;
  reads_left = λ f honest. blocks.reads_left f honest;
  counts_now = λ f t c honest le left. blocks.counts_now f t c honest le left;
  only_now = λ f c honest left. blocks.only_now f c honest left;
}

-- what each call of a file does, whichever it is
pub record Keeps {F : Type 0} (blocks : Blocks F) (old new : F) : Type 0 where
  pub stays_honest : blocks.honest old → blocks.honest new
  pub was_honest : blocks.honest new → blocks.honest old
  pub time : blocks.honest old → Elapses (as_disk blocks) old new
