-- What one call of a disk does.
use Rattle.std.specs.Prelude.{◌≡◌, ◌⊎◌, ◌<◌, ◌≤◌, ℕ, List, Result, OnOk, OnErr}
use Rattle.sector_disk.specs.Disk.{Image, IsSame, with_sector, Disk, one_more}

-- Time goes on: a power cut since t might have left what it might have left before, or what it may leave now.
pub record Elapses {D : Type 0} (disk : Disk D) (old new : D) : Type 0 where
  pub later : disk.moment old ≤ disk.moment new
  pub nothing_else : (t : ℕ) (c : Image) → t ≤ disk.moment old → disk.left_since new t c
      → disk.left_since old t c ⊎ disk.may_leave new c
  pub keeps : (t : ℕ) (c : Image) → t ≤ disk.moment old → disk.left_since old t c → disk.left_since new t c

-- what each call does, whichever it is
pub record Called {D T E : Type 0} (disk : Disk D) (old new : D) (result : Result T E) : Type 0 where
  pub stays_honest : disk.honest old → disk.honest new
  pub was_honest : disk.honest new → disk.honest old
  pub count : disk.count new ≡ disk.count old
  pub faults_ok : OnOk result (disk.faults new ≡ disk.faults old)
  pub faults_err : OnErr result (disk.faults new ≡ one_more (disk.faults old))
  pub time : disk.honest old → Elapses disk old new

-- reads give the same, and a power cut leaves nothing that it might not have left before
pub record IsDiskUntouched {D : Type 0} (disk : Disk D) (old new : D) : Type 0 where
  pub reads : IsSame (disk.reads new) (disk.reads old)
  pub images : (c : Image) → disk.may_leave new c → disk.may_leave old c

-- one of these images, or one of them with these bytes in sector i
abbrev pub WithOrWithout : (Image → Type 0) → ℕ → List ℕ → Image → Type 0
WithOrWithout images i bytes c = images c ⊎ ((d : Image) × images d × IsSame c (with_sector d i bytes))

-- a sector was written: a power cut may leave its new bytes, or what it might have left before
pub record IsWritten {D : Type 0} (disk : Disk D) (old new : D) (i : ℕ) (bytes : List ℕ) : Type 0 where
  pub reads : IsSame (disk.reads new) (with_sector (disk.reads old) i bytes)
  pub images : (c : Image) → disk.may_leave new c → WithOrWithout (disk.may_leave old) i bytes c
  pub later : disk.moment old < disk.moment new

-- all was synced: a power cut leaves what reads give
pub record IsSynced {D : Type 0} (disk : Disk D) (old new : D) : Type 0 where
  pub reads : IsSame (disk.reads new) (disk.reads old)
  pub images : (c : Image) → disk.may_leave new c → IsSame c (disk.reads old)
  pub later : disk.moment old < disk.moment new

-- A read of sector i gives its bytes. Also where it fails, reads then give the same, and a power cut leaves nothing
-- that it might not have left before.
pub record Reads {D T E : Type 0} (disk : Disk D) (old new : D) (i : ℕ) (bytes : List ℕ) (result : Result T E) : Type 0 where
  pub given : OnOk result (bytes ≡ disk.reads old i)
  pub untouched : IsDiskUntouched disk old new

-- a write of sector i; one that fails was done all the same, or reads give what they gave and a power cut leaves
-- nothing that it might not have left before
pub record Writes {D T E : Type 0} (disk : Disk D) (old new : D) (i : ℕ) (bytes : List ℕ) (result : Result T E) : Type 0 where
  pub ok : OnOk result (IsWritten disk old new i bytes)
  pub err : OnErr result (IsWritten disk old new i bytes ⊎ IsDiskUntouched disk old new)

-- a sync; one that fails was done all the same, or reads give what they gave and a power cut leaves nothing that it
-- might not have left before
pub record Syncs {D T E : Type 0} (disk : Disk D) (old new : D) (result : Result T E) : Type 0 where
  pub ok : OnOk result (IsSynced disk old new)
  pub err : OnErr result (IsSynced disk old new ⊎ IsDiskUntouched disk old new)

-- all that is said of a read
pub record ReadCall {D T E : Type 0} (disk : Disk D) (old new : D) (i : ℕ) (bytes : List ℕ) (result : Result T E) : Type 0 where
  pub called : Called disk old new result
  pub reads : disk.honest old → Reads disk old new i bytes result

-- all that is said of a write
pub record WriteCall {D T E : Type 0} (disk : Disk D) (old new : D) (i : ℕ) (bytes : List ℕ) (result : Result T E) : Type 0 where
  pub called : Called disk old new result
  pub writes : disk.honest old → Writes disk old new i bytes result

-- all that is said of a sync
pub record SyncCall {D T E : Type 0} (disk : Disk D) (old new : D) (result : Result T E) : Type 0 where
  pub called : Called disk old new result
  pub syncs : disk.honest old → Syncs disk old new result
