-- What opening a pair of disks answers.
use Rattle.std.specs.Prelude.{◌≡◌, ◌≢◌, ◌⊎◌, ◌<◌, ◌≤◌, ◌+◌, ◌-◌, ◌^◌, ℕ, [], ◌++◌, true, false, Result, Ok, Err, IfOk, IfErr, OnOk}
use Rattle.sector_disk.specs.Disk.{Image, Disk, Rose}
use Rattle.sector_disk.specs.Runs.{EveryMoment, OnlyRead, Remains, Quiet}
use Rattle.session_store.specs.Keeping.{Keeping}
use Rattle.session_store.specs.Layout.{sector_count}
use Rattle.session_store.specs.Epochs.{epoch_in}
use Rattle.session_store.specs.Stands.{recovered, IsInOrder}
use Rattle.session_store.specs.Base.{HasEpoch, StandsForPrefix}
use Rattle.session_store.specs.Snapshot.{NothingLater}
use Rattle.session_store.specs.Sound.{IsSoundDisk}
use Rattle.session_store.specs.Opening.{HasNext, IsOnly, IsStillSound, reading}
use Rattle.session_store.specs.Copying.{IsOrderly, IsOldOrNew}
use Rattle.session_store.specs.Pair.{IsToldPair}
use Rattle.session_store.specs.Value.{StoreValue}
use Rattle.session_store.specs.Store.{IsSoundStore, Continues}
use Rattle.session_store.specs.declared.fault.PairFault.{PairFault}
use Rattle.session_store.specs.declared.fault.PairFault.TheVariants.{First, Second, SecondNewer}
use Rattle.session_store.specs.declared.fault.StoreFault.TheVariants.{Disk as DiskFailed, TooSmall, NotFormatted, Damaged, EpochsSpent, NoMemory}

module _ {D E : Type 0} (first : Disk D) (second : Disk E) where
  -- why the epochs of two disks were not compared, or are not in order
  abbrev pub IsNotCompared : D → E → D → E → PairFault → Type 0
  IsNotCompared d e d' e' fault =
      ((fault ≡ SecondNewer) × (first.honest d → second.honest e → epoch_in (first.reads d) < epoch_in (second.reads e)))
      ⊎ (((fault ≡ First DiskFailed) × Rose (first.faults d) (first.faults d'))
      ⊎ ((fault ≡ Second DiskFailed) × Rose (second.faults e) (second.faults e')))

  -- the epochs of two disks were compared: that of the second is not above, and all it has is on the device
  pub record ComparesEpochs (d : D) (e : E) (d' : D) (e' : E) (result : Result ℕ PairFault) : Type 0 where
    pub first_quiet : Quiet first d d'
    pub second_quiet : Quiet second e e'
    pub own : second.honest e → IfOk result (λ own. own ≡ epoch_in (second.reads e))
    pub settled : second.honest e → OnOk result (IsOnly (second.may_leave e') (second.reads e))
    pub not_newer : first.honest d → IfOk result (λ own. own ≤ epoch_in (first.reads d))
    pub cause : IfErr result (IsNotCompared d e d' e')
    pub no_fault : OnOk result ((first.faults d' ≡ first.faults d) × (second.faults e' ≡ second.faults e))

module _ {S A R : Type 0} (kept : Keeping S A R) where
  -- the image is in order, and stands for what one of these images stood for, or for what that one reads
  abbrev pub IsOldOrRead : (Image → Type 0) → Image → Image → Type 0
  IsOldOrRead images image c = IsStillSound kept images c
      ⊎ ((s : S) × (reading kept image ≡ Ok s) × (recovered kept c ≡ Ok s) × IsInOrder c)

module _ {D E S A R : Type 0} (kept : Keeping S A R) (first : Disk D) (second : Disk E) where
  -- a store that has confirmed all, and a disk of an epoch below
  pub record CanJoin (v : StoreValue D S A) (e : E) (own : ℕ) : Type 0 where
    pub works : v.failed ≡ false
    pub sound : IsSoundStore kept first v
    pub none_pending : v.pending ≡ []
    pub below : own < v.epoch
    pub honest : second.honest e
    pub nothing_later : (c : Image) → second.may_leave e c → NothingLater own c

  -- while the store's state is brought to a sound disk of that epoch, a power cut leaves the old state or the new one
  abbrev pub CopiesSoundly : StoreValue D S A → E → ℕ → E → Type 0
  CopiesSoundly v e own e' = own < v.epoch → IsSoundDisk kept second e → ((c : Image) → second.may_leave e c → HasEpoch own c)
      → EveryMoment second e e' (IsOldOrNew kept (second.may_leave e) v.state)

  -- the state of a store was brought to a disk, and the pair settled
  pub record Joins (v : StoreValue D S A) (e : E) (own : ℕ) (v' : StoreValue D S A) (w : StoreValue E S A) : Type 0 where
    pub continues : Continues kept first v [] v'
    pub works : v.failed ≡ false → v'.failed ≡ false
    pub state : v'.state ≡ v.state
    pub remains : Remains second e w.disk
    pub told : CanJoin v e own → IsToldPair kept first second v' w v'.state
    pub moments : CopiesSoundly v e own w.disk
    pub lost : v.failed ≡ false → w.failed ≡ true → Rose (second.faults e) (second.faults w.disk)
    pub none_pending : v.pending ≡ [] → (v'.pending ≡ []) × (w.pending ≡ [])

  -- Why the state of a store that works was not brought to a disk: memory was refused, and nothing was done; the store's epoch is
  -- the last, or a call of the other disk failed and no two epochs are left; or a call of the store's disk failed.
  abbrev pub CannotJoin : StoreValue D S A → E → D → E → PairFault → Type 0
  CannotJoin v e d' e' (First NoMemory) = (d' ≡ v.disk) × (e' ≡ e)
  CannotJoin v e d' e' (First EpochsSpent) =
      (v.epoch ≡ 2 ^ 64 - 1) ⊎ ((2 ^ 64 ≤ v.epoch + 3) × Rose (second.faults e) (second.faults e'))
  CannotJoin v e d' e' (First DiskFailed) = Rose (first.faults v.disk) (first.faults d')
  CannotJoin v e d' e' (First TooSmall) = ⊥
  CannotJoin v e d' e' (First NotFormatted) = ⊥
  CannotJoin v e d' e' (First (Damaged _)) = ⊥
  CannotJoin v e d' e' (Second _) = ⊥
  CannotJoin v e d' e' SecondNewer = ⊥

  -- it was not, and both disks came back
  pub record IsNotJoined (v : StoreValue D S A) (e : E) (own : ℕ) (d' : D) (e' : E) (fault : PairFault) : Type 0 where
    pub other : fault ≢ SecondNewer
    pub first_remains : Remains first v.disk d'
    pub first_moments : IsSoundStore kept first v → EveryMoment first v.disk d' (StandsForPrefix kept v.base (v.pending ++ []))
    pub second_remains : Remains second e e'
    pub second_moments : CopiesSoundly v e own e'
    pub cause : v.failed ≡ false → CannotJoin v e d' e' fault

  -- A pair was opened: the first store has what the first disk reads. Of a sound disk and one that is orderly it is a pair of
  -- which that may be told. Whatever moment power is cut at, the first disk stands for what it stood for, and a second one
  -- that was sound for what it stood for or for what the first reads. Where the second is lost then, a call of it failed.
  pub record IsPairOpened (d : D) (e : E) (v : StoreValue D S A) (w : StoreValue E S A) : Type 0 where
    pub large : (sector_count ≤ first.count d) × (sector_count ≤ second.count e)
    pub not_newer : first.honest d → second.honest e → epoch_in (second.reads e) ≤ epoch_in (first.reads d)
    pub works : v.failed ≡ false
    pub lost : w.failed ≡ true → Rose (second.faults e) (second.faults w.disk)
    pub none_pending : (v.pending ≡ []) × (w.pending ≡ [])
    pub state : first.honest d → reading kept (first.reads d) ≡ Ok v.state
    pub told : IsSoundDisk kept first d → IsOrderly second e → IsToldPair kept first second v w v.state
    pub first_remains : Remains first d v.disk
    pub second_remains : Remains second e w.disk
    pub first_moments : IsSoundDisk kept first d → EveryMoment first d v.disk (IsStillSound kept (first.may_leave d))
    pub second_moments : IsSoundDisk kept first d → IsSoundDisk kept second e
        → EveryMoment second e w.disk (IsOldOrRead kept (second.may_leave e) (first.reads d))

  -- no epochs are left for a pair: the first disk is of the last one; it is of the one before, and was to begin two; or a call of the
  -- second failed, and the first has fewer than four
  abbrev pub HasNoEpochs : D → E → E → Type 0
  HasNoEpochs d e e' = (reading kept (first.reads d) ≡ Err EpochsSpent)
      ⊎ ((epoch_in (first.reads d) ≡ 2 ^ 64 - 2)
      ⊎ ((2 ^ 64 ≤ epoch_in (first.reads d) + 4) × Rose (second.faults e) (second.faults e')))

  -- why a pair was not opened, each fault by its cause
  abbrev pub RefusesFor : D → E → D → E → PairFault → Type 0
  RefusesFor d e d' e' (First TooSmall) = (first.count d < sector_count) × (d' ≡ d) × (e' ≡ e)
  RefusesFor d e d' e' (First DiskFailed) = Rose (first.faults d) (first.faults d')
  RefusesFor d e d' e' (First NotFormatted) = first.honest d → reading kept (first.reads d) ≡ Err NotFormatted
  RefusesFor d e d' e' (First (Damaged sector)) = first.honest d → reading kept (first.reads d) ≡ Err (Damaged sector)
  RefusesFor d e d' e' (First EpochsSpent) = first.honest d → HasNoEpochs d e e'
  RefusesFor d e d' e' (First NoMemory) = first.honest d → HasNext (first.reads d)
  RefusesFor d e d' e' (Second TooSmall) = (second.count e < sector_count) × (d' ≡ d) × (e' ≡ e)
  RefusesFor d e d' e' (Second DiskFailed) = Rose (second.faults e) (second.faults e')
  RefusesFor d e d' e' (Second NotFormatted) = ⊥
  RefusesFor d e d' e' (Second (Damaged _)) = ⊥
  RefusesFor d e d' e' (Second EpochsSpent) = ⊥
  RefusesFor d e d' e' (Second NoMemory) = ⊥
  RefusesFor d e d' e' SecondNewer =
      first.honest d → second.honest e → epoch_in (first.reads d) < epoch_in (second.reads e)

  -- A pair was not opened, for its cause, and both disks came back. Where the second is the newer one, both were only read.
  pub record IsPairRefused (d : D) (e : E) (d' : D) (e' : E) (fault : PairFault) : Type 0 where
    pub cause : RefusesFor d e d' e' fault
    pub first_remains : Remains first d d'
    pub second_remains : Remains second e e'
    pub first_moments : IsSoundDisk kept first d → EveryMoment first d d' (IsStillSound kept (first.may_leave d))
    pub second_moments : IsSoundDisk kept first d → IsSoundDisk kept second e
        → EveryMoment second e e' (IsOldOrRead kept (second.may_leave e) (first.reads d))
    pub newer : fault ≡ SecondNewer → first.honest d → second.honest e
        → (epoch_in (first.reads d) < epoch_in (second.reads e)) × OnlyRead first d d' × OnlyRead second e e'
