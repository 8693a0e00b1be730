-- What a fuse is, over the disk in it.
use Rattle.std.specs.Prelude.{◌≡◌, ℕ, zero, suc, List, Bool, true, false, Option, Some, None, Result, IsErr}
use Rattle.sector_disk.specs.Disk.{Disk}
use Rattle.sector_disk.specs.Calls.{ReadCall, WriteCall, SyncCall}
use Rattle.sector_disk.specs.declared.fuse.Fail.{Fail}
use Rattle.sector_disk.specs.declared.fuse.Fail.TheVariants.{Once, Always}
use Rattle.sector_disk.specs.declared.fuse.Fuse.{Fuse}

-- the disk that it passes calls on to
abbrev pub inner : {D : Type 0} → Fuse D → D
inner f = f.disk

-- how many calls it passes on before one that it fails; `None` if it fails no more
abbrev pub passes_left : {D : Type 0} → Fuse D → Option ℕ
passes_left f = f.passes_left

-- whether it fails one call or all that follow
abbrev pub fail_of : {D : Type 0} → Fuse D → Fail
fail_of f = f.fail

-- whether a write or sync that it fails is passed on first
abbrev pub has_effect : {D : Type 0} → Fuse D → Bool
has_effect f = f.effect

-- the next call is one that it fails
abbrev pub FailsNext : {D : Type 0} → Fuse D → Type 0
FailsNext f = passes_left f ≡ Some 0

-- the passes that are left after a call
abbrev pub passes_after : Fail → Option ℕ → Option ℕ
passes_after fail None = None
passes_after Once (Some zero) = None
passes_after Always (Some zero) = Some 0
passes_after fail (Some (suc n)) = Some n

-- after a call the fuse counts it, and is else as it was
pub record CountsCall {D : Type 0} (old new : Fuse D) : Type 0 where
  pub left : passes_left new ≡ passes_after (fail_of old) (passes_left old)
  pub fail : fail_of new ≡ fail_of old
  pub effect : has_effect new ≡ has_effect old

-- A fuse means what its disk means, with its own count of faults.
abbrev pub fuse_disk : {D : Type 0} → Disk D → Disk (Fuse D)
fuse_disk disk = record {
  honest = λ f. disk.honest f.disk;
  count = λ f. disk.count f.disk;
  reads = λ f. disk.reads f.disk;
  may_leave = λ f c. disk.may_leave f.disk c;
  moment = λ f. disk.moment f.disk;
  left_since = λ f t c. disk.left_since f.disk t c;
  faults = λ f. f.faults;
  reads_left = λ f honest. disk.reads_left f.disk honest;
  counts_now = λ f t c honest le left. disk.counts_now f.disk t c honest le left;
  only_now = λ f c honest left. disk.only_now f.disk c honest left;
}

-- A read: passed on, or failed without reaching the disk.
pub record FuseReads {D T E : Type 0} (disk : Disk D) (old new : Fuse D) (i : ℕ) (bytes : List ℕ) (result : Result T E) : Type 0 where
  pub counts : CountsCall old new
  pub passes : ¬ FailsNext old → ReadCall disk (inner old) (inner new) i bytes result
  pub fails : FailsNext old → IsErr result
  pub spared : FailsNext old → inner new ≡ inner old

-- A call that changes the disk: passed on, or failed; one that fails reaches the disk only with `effect`, and then is
-- a call of it. `Did` says what such a call of the disk does.
pub record FuseChanges {D T E : Type 0} (Did : D → D → Result T E → Type 0) (old new : Fuse D) (result : Result T E) : Type 0 where
  pub counts : CountsCall old new
  pub passes : ¬ FailsNext old → Did (inner old) (inner new) result
  pub fails : FailsNext old → IsErr result
  pub spared : FailsNext old → has_effect old ≡ false → inner new ≡ inner old
  pub reached : FailsNext old → has_effect old ≡ true → (outcome : Result T E) × Did (inner old) (inner new) outcome

-- A write of a fuse.
abbrev pub FuseWrites : {D T E : Type 0} → Disk D → Fuse D → Fuse D → ℕ → List ℕ → Result T E → Type 0
FuseWrites disk old new i bytes result = FuseChanges (λ before after. WriteCall disk before after i bytes) old new result

-- A sync of a fuse.
abbrev pub FuseSyncs : {D T E : Type 0} → Disk D → Fuse D → Fuse D → Result T E → Type 0
FuseSyncs disk old new result = FuseChanges (SyncCall disk) old new result
