-- What holds at every moment of a run of calls. The laws that a caller goes by from call to call stand in
-- `proofs/RunLaws.antt`: `begins`, then `reads_on`, `writes_on`, `syncs_on` or `goes_on` for each call; `joins` puts two runs
-- together.
use Rattle.std.specs.Prelude.{◌≡◌, ◌⊎◌, ◌≤◌, ℕ}
use Rattle.sector_disk.specs.Disk.{Image, IsSame, Disk}

-- A power cut at any moment since old, within a call or between two, leaves an image that has P.
pub record EveryMoment {D : Type 0} (disk : Disk D) (old new : D) (P : Image → Type 0) : Type 0 where
  pub honest : disk.honest new
  pub later : disk.moment old ≤ disk.moment new
  pub each : (c : Image) → disk.left_since new (disk.moment old) c → P c
  -- for a run that began earlier
  pub before : (t : ℕ) (c : Image) → t ≤ disk.moment old → disk.left_since new t c → disk.left_since old t c ⊎ P c
  pub keeps : (t : ℕ) (c : Image) → t ≤ disk.moment old → disk.left_since old t c → disk.left_since new t c

-- after any run of reads: reads give the same, and a power cut at any moment of it left nothing that it might not have
-- left before
pub record OnlyRead {D : Type 0} (disk : Disk D) (old new : D) : Type 0 where
  pub reads : IsSame (disk.reads new) (disk.reads old)
  pub moments : EveryMoment disk old new (disk.may_leave old)

-- what no call changes: whether the disk is honest, and the number of sectors
pub record Remains {D : Type 0} (disk : Disk D) (old new : D) : Type 0 where
  pub stays_honest : disk.honest old → disk.honest new
  pub was_honest : disk.honest new → disk.honest old
  pub count : disk.count new ≡ disk.count old

-- after any number of reads and syncs
pub record Quiet {D : Type 0} (disk : Disk D) (old new : D) : Type 0 where
  pub remains : Remains disk old new
  pub only_read : disk.honest old → OnlyRead disk old new
