-- When a pair of stores is settled, and why it cannot be.
use Rattle.std.specs.Prelude.{◌≡◌, ◌⊎◌, ◌≤◌, ◌+◌, ◌^◌, ℕ, true, false, Some}
use Rattle.sector_disk.specs.Disk.{Disk, Rose}
use Rattle.session_store.specs.Value.{StoreValue}
use Rattle.session_store.specs.Pair.{standing_of}
use Rattle.session_store.specs.declared.standing.PairStanding.{PairStanding}
use Rattle.session_store.specs.declared.fault.CheckpointFault.{CheckpointFault}
use Rattle.session_store.specs.declared.fault.CheckpointFault.TheVariants.{Failed, EpochsSpent, Disk as DiskFailed}

-- a call of the first disk failed, and none of the second
abbrev pub IsOneLost : {D E S A : Type 0} → StoreValue D S A → StoreValue E S A → Type 0
IsOneLost v w = (v.failed ≡ true) × (w.failed ≡ false)

-- a call of each failed
abbrev pub AreBothLost : {D E S A : Type 0} → StoreValue D S A → StoreValue E S A → Type 0
AreBothLost v w = (v.failed ≡ true) × (w.failed ≡ true)

-- the epoch two above the one of a disk that was lost does not exist
abbrev pub IsSpent : {D S A : Type 0} → StoreValue D S A → Type 0
IsSpent v = 2 ^ 64 ≤ v.epoch + 2

-- both disks are kept, or the epoch of the one that is kept is two above the other's
abbrev pub IsSettledPair : {D E S A : Type 0} → StoreValue D S A → StoreValue E S A → Type 0
IsSettledPair v w = ((v.failed ≡ false) × (w.failed ≡ false))
    ⊎ ((IsOneLost v w × (v.epoch + 2 ≤ w.epoch)) ⊎ (IsOneLost w v × (w.epoch + 2 ≤ v.epoch)))

-- a pair, as it was and as it is then, was settled: it stands so, with the states that it had
abbrev pub IsSettledAs : {D E S A : Type 0} → StoreValue D S A → StoreValue E S A → StoreValue D S A → StoreValue E S A
    → PairStanding → Type 0
IsSettledAs v w v' w' found = (standing_of v'.failed w'.failed ≡ Some found) × (v'.state ≡ v.state) × (w'.state ≡ w.state)

-- a call of a store's disk failed since
abbrev pub FailsSince : {D S A : Type 0} → Disk D → StoreValue D S A → StoreValue D S A → Type 0
FailsSince disk old new = Rose (disk.faults old.disk) (disk.faults new.disk)

-- why a store did not begin all epochs up to two above that one
abbrev pub CannotRise : {D S A : Type 0} → Disk D → ℕ → StoreValue D S A → StoreValue D S A → CheckpointFault → Type 0
CannotRise disk epoch old new Failed = (old.failed ≡ true) × (new ≡ old)
CannotRise disk epoch old new DiskFailed = (old.failed ≡ false) × (new.failed ≡ true) × FailsSince disk old new
CannotRise disk epoch old new EpochsSpent = (2 ^ 64 ≤ epoch + 2) × (new ≡ old)

-- why a pair, as it was and as it is then, is not settled
abbrev pub CannotSettle : {D E S A : Type 0} → Disk D → Disk E → StoreValue D S A → StoreValue E S A → StoreValue D S A
    → StoreValue E S A → CheckpointFault → Type 0
CannotSettle first second v w v' w' Failed = AreBothLost v w × (v' ≡ v) × (w' ≡ w)
CannotSettle first second v w v' w' DiskFailed =
    ((IsOneLost v w × FailsSince second w w') ⊎ (IsOneLost w v × FailsSince first v v')) × AreBothLost v' w'
CannotSettle first second v w v' w' EpochsSpent =
    ((IsOneLost v w × IsSpent v) ⊎ (IsOneLost w v × IsSpent w)) × (v' ≡ v) × (w' ≡ w)
