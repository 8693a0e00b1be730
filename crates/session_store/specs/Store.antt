-- Sound stores.
use Rattle.std.specs.Prelude.{◌≡◌, ◌≤◌, ◌+◌, ℕ, List, ◌++◌, length, take, drop, true, false, Some}
use Rattle.sector_disk.specs.Disk.{Image, Disk}
use Rattle.sector_disk.specs.Runs.{EveryMoment, Remains}
use Rattle.session_store.specs.Keeping.{Keeping, fold}
use Rattle.session_store.specs.Base.{HasEpoch, IsSettled, HoldsAll, StandsForPrefix}
use Rattle.session_store.specs.Epochs.{IsOfEpochs}
use Rattle.session_store.specs.Value.{StoreValue}

module _ {D S A R : Type 0} (kept : Keeping S A R) (disk : Disk D) where
  -- while no call of the disk has failed: the journal holds the pending actions behind n others
  pub record IsWorking (v : StoreValue D S A) : Type 0 where
    pub settled : (n : ℕ) → n + length v.pending ≡ v.records
        → (c : Image) → disk.may_leave v.disk c → IsSettled kept v.epoch v.base n v.pending c
    pub written : (n : ℕ) → n + length v.pending ≡ v.records → HoldsAll kept v.epoch n v.pending (disk.reads v.disk)
    pub of_epoch : (c : Image) → disk.may_leave v.disk c → HasEpoch v.epoch c

  -- A store over an honest disk that was sound when it was opened: every image that a power cut may leave stands for the
  -- base with a prefix of the pending actions, and is in order.
  pub record IsSoundStore (v : StoreValue D S A) : Type 0 where
    pub honest : disk.honest v.disk
    pub images : (c : Image) → disk.may_leave v.disk c → StandsForPrefix kept v.base v.pending c
    pub working : v.failed ≡ false → IsWorking v

  -- How a store ages over calls: one that had failed is left as it was; the epoch does not fall; and a power cut at any moment
  -- leaves an image of an epoch from the store's own, as it was, to the one after its own, as it is then.
  pub record Ages (old new : StoreValue D S A) : Type 0 where
    pub rests : old.failed ≡ true → new ≡ old
    pub rises : old.epoch ≤ new.epoch
    pub any_moment : old.failed ≡ false → IsSoundStore old
        → EveryMoment disk old.disk new.disk (IsOfEpochs old.epoch (new.epoch + 1))

  -- What a call does that accepted these actions, none or one: the disk stays as honest and as large, some of the first of
  -- what was pending and is accepted are confirmed, and a power cut at any moment leaves the old base with a prefix of them.
  pub record Continues (old : StoreValue D S A) (accepted : List A) (new : StoreValue D S A) : Type 0 where
    pub remains : Remains disk old.disk new.disk
    pub confirmed : ℕ
    pub few : confirmed ≤ length (old.pending ++ accepted)
    pub base : fold kept old.base (take confirmed (old.pending ++ accepted)) ≡ Some new.base
    pub pending : new.pending ≡ drop confirmed (old.pending ++ accepted)
    pub sound : IsSoundStore old → IsSoundStore new
    pub any_moment : IsSoundStore old
        → EveryMoment disk old.disk new.disk (StandsForPrefix kept old.base (old.pending ++ accepted))
    pub ages : Ages old new
