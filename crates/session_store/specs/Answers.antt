-- What the calls of a store answer, and the store that each answer leaves.
use Rattle.std.specs.Prelude.{◌≡◌, ◌≢◌, ◌<◌, ◌+◌, ◌-◌, ◌*◌, ◌^◌, ◌==◌, ℕ, List, [], ◌∷◌, ◌++◌, length, true, false, Result, Ok, Err, if◌then◌else◌}
use Rattle.sector_disk.specs.Disk.{Disk, Rose}
use Rattle.session_store.specs.Layout.{record_limit}
use Rattle.session_store.specs.Keeping.{Keeping}
use Rattle.session_store.specs.Value.{StoreValue}
use Rattle.session_store.specs.declared.fault.SubmitFault.{SubmitFault}
use Rattle.session_store.specs.declared.fault.SubmitFault.TheVariants.{Failed as SubmitFailed, Batch, EpochsSpent as SubmitEpochsSpent, Refused, Disk as SubmitDisk}
use Rattle.session_store.specs.declared.fault.ConfirmFault.{ConfirmFault}
use Rattle.session_store.specs.declared.fault.ConfirmFault.TheVariants.{Failed as ConfirmFailed, Disk as ConfirmDisk}
use Rattle.session_store.specs.declared.fault.CheckpointFault.{CheckpointFault}
use Rattle.session_store.specs.declared.fault.CheckpointFault.TheVariants.{Failed as CheckpointFailed, EpochsSpent as CheckpointEpochsSpent, Disk as CheckpointDisk}

module _ {D S A : Type 0} where
  -- how many actions can still be accepted before the epochs are spent
  unfoldable pub room : StoreValue D S A → ℕ
  room v = (2 ^ 64 - 1 - v.epoch) * (record_limit + 1) + (record_limit - v.records)

  -- the store once a call of the disk has failed
  abbrev pub after_fault : StoreValue D S A → D → StoreValue D S A
  after_fault v d = record v { disk = d; failed = true }

  -- once its pending actions are confirmed
  abbrev pub after_confirm : StoreValue D S A → D → StoreValue D S A
  after_confirm v d = record v { disk = d; base = v.state; pending = [] }

  -- once a snapshot was made
  abbrev pub after_snapshot : StoreValue D S A → D → StoreValue D S A
  after_snapshot v d = record v { disk = d; base = v.state; pending = []; epoch = v.epoch + 1; records = 0 }

  -- with one action more pending, which led to this state
  abbrev pub with_action : StoreValue D S A → A → S → StoreValue D S A
  with_action v a s = record v { pending = v.pending ++ a ∷ []; state = s }

  -- and with its record
  abbrev pub with_record : StoreValue D S A → A → S → StoreValue D S A
  with_record v a s = record v { pending = v.pending ++ a ∷ []; state = s; records = v.records + 1 }

  -- the store that took an action: with a record of it, or, where the journal is full, with a snapshot
  abbrev pub after_submit : StoreValue D S A → A → S → D → StoreValue D S A
  after_submit v a s d =
      if v.records == record_limit then after_snapshot (with_action v a s) d else record (with_record v a s) { disk = d }

  -- the store that accepted an action and failed to write it
  abbrev pub after_failed_submit : StoreValue D S A → A → S → D → StoreValue D S A
  after_failed_submit v a s d =
      if v.records == record_limit then after_fault (with_action v a s) d else after_fault (with_record v a s) d

-- the actions that a call of `submit` accepted: its own, where it answered Ok or a call of the disk failed
abbrev pub accepted_by : {A R : Type 0} → A → Result (Unit {0}) (SubmitFault R) → List A
accepted_by a (Ok _) = a ∷ []
accepted_by a (Err SubmitDisk) = a ∷ []
accepted_by a (Err SubmitFailed) = []
accepted_by a (Err Batch) = []
accepted_by a (Err SubmitEpochsSpent) = []
accepted_by a (Err (Refused _)) = []

-- the store takes another action: no call has failed, fewer than 64 are pending, and the epochs are not spent
abbrev pub TakesMore : {D S A : Type 0} → StoreValue D S A → Type 0
TakesMore v = (v.failed ≡ false) × (length v.pending < 64) × (0 < room v)

module _ {D S A R : Type 0} (kept : Keeping S A R) (disk : Disk D) where
  -- what `submit` answers, each answer with its cause and what it leaves
  abbrev pub Submits : StoreValue D S A → A → StoreValue D S A → Result (Unit {0}) (SubmitFault R) → Type 0
  Submits old a new (Ok _) = TakesMore old × (kept.step old.state a ≡ Ok new.state)
      × (new ≡ after_submit old a new.state new.disk) × (room new + 1 ≡ room old)
  Submits old a new (Err SubmitFailed) = (old.failed ≡ true) × (new ≡ old)
  Submits old a new (Err Batch) = (old.failed ≡ false) × (length old.pending ≡ 64) × (new ≡ old)
  Submits old a new (Err SubmitEpochsSpent) =
      (old.failed ≡ false) × (length old.pending < 64) × (room old ≡ 0) × (new ≡ old)
  Submits old a new (Err (Refused refusal)) = TakesMore old × (kept.step old.state a ≡ Err refusal) × (new ≡ old)
  Submits old a new (Err SubmitDisk) = TakesMore old × (kept.step old.state a ≡ Ok new.state)
      × (new ≡ after_failed_submit old a new.state new.disk) × Rose (disk.faults old.disk) (disk.faults new.disk)

  -- what `confirm` answers
  abbrev pub Confirms : StoreValue D S A → StoreValue D S A → Result (Unit {0}) ConfirmFault → Type 0
  Confirms old new (Ok _) = (old.failed ≡ false) × (new ≡ after_confirm old new.disk) × (old.pending ≡ [] → new ≡ old)
  Confirms old new (Err ConfirmFailed) = (old.failed ≡ true) × (new ≡ old)
  Confirms old new (Err ConfirmDisk) = (old.failed ≡ false) × (old.pending ≢ []) × (new ≡ after_fault old new.disk)
      × Rose (disk.faults old.disk) (disk.faults new.disk)

  -- what `checkpoint` answers
  abbrev pub Checkpoints : StoreValue D S A → StoreValue D S A → Result (Unit {0}) CheckpointFault → Type 0
  Checkpoints old new (Ok _) =
      (old.failed ≡ false) × (old.epoch < 2 ^ 64 - 1) × (new ≡ after_snapshot old new.disk)
  Checkpoints old new (Err CheckpointFailed) = (old.failed ≡ true) × (new ≡ old)
  Checkpoints old new (Err CheckpointEpochsSpent) = (old.failed ≡ false) × (old.epoch ≡ 2 ^ 64 - 1) × (new ≡ old)
  Checkpoints old new (Err CheckpointDisk) = (old.failed ≡ false) × (old.epoch < 2 ^ 64 - 1)
      × (new ≡ after_fault old new.disk) × Rose (disk.faults old.disk) (disk.faults new.disk)
