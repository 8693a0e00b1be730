-- What checkpoints do to a store.
use Rattle.std.proofs.Common.{◌≡◌, ◌<◌, ◌≤◌, ◌+◌, ◌-◌, ◌^◌, ℕ, zero, suc, List, [], ◌++◌, length, take, Some, Ok, true, false, inl, inr, refl, sym, ap, ◌∙◌, arith, append-nil}
use Rattle.sector_disk.specs.Disk.{Image, Disk}
use Rattle.sector_disk.specs.Runs.{EveryMoment, Remains}
use Rattle.sector_disk.proofs.RunLaws.{weakens, now_has}
use Rattle.session_store.specs.Keeping.{Keeping, IsLawful, fold}
use Rattle.session_store.specs.Stands.{recovered}
use Rattle.session_store.specs.Base.{IsSettled, StandsForPrefix}
use Rattle.session_store.specs.Epochs.{IsOfEpochs}
use Rattle.session_store.specs.Snapshot.{NothingLater, WithSnapshot, IsSnapshotting}
use Rattle.session_store.specs.Sound.{StandsOnlyFor}
use Rattle.session_store.specs.Value.{StoreValue, IsStore}
use Rattle.session_store.specs.Store.{IsSoundStore, Continues}
use Rattle.session_store.specs.Answers.{after_fault, after_snapshot}
use Rattle.session_store.proofs.StandsLemmas.{fold-nil}
use Rattle.session_store.proofs.BaseLemmas.{settled-stands, settled-same}
use Rattle.session_store.proofs.SnapshotLemmas.{settled-nothing_later, with_snapshot-settled}
use Rattle.session_store.proofs.AgeLemmas.{has_epoch-is, settled-epoch, ages-on}
use Rattle.session_store.proofs.CallLaws.{prefix-longer}
use Rattle.session_store.proofs.StoreLemmas.{some_is, prefix-all, settled-sound, fault-sound, sound-stands, continues_all, continues_none}

module _ {D S A R : Type 0} (kept : Keeping S A R) (disk : Disk D) where
  -- a store after a snapshot, whose base caught up and whose pending list was cleared
  pub snapshot-same : (v : StoreValue D S A) (new : D) (base : S) (pending : List A) → base ≡ v.state → pending ≡ []
      → after_snapshot v new ≡ record v { disk = new; base = base; pending = pending; epoch = v.epoch + 1; records = 0 }
  snapshot-same v new base pending caught_up cleared =
      λ i. record v { disk = new; base = sym caught_up i; pending = sym cleared i; epoch = v.epoch + 1; records = 0 }

  pub snapshot-store : (v : StoreValue D S A) (new : D) → disk.count new ≡ disk.count v.disk → v.epoch < 2 ^ 64 - 1
      → IsStore kept disk v → IsStore kept disk (after_snapshot v new)
  snapshot-store v new count room store = record {
    large = omega (arith, count, store.large);
    accepted = fold-nil kept v.state;
    few = omega arith;
    recorded = omega arith;
    records = omega arith;
    some_epoch = omega arith;
    epoch = omega (arith, room);
  }

  -- what the writing of a snapshot leaves at any moment stands for the base with a prefix of the actions that it holds
  pub snapshotting-stands : IsLawful kept → (images : Image → Type 0) (epoch n : ℕ) (base mid s : S) (pending more : List A)
      → n + length pending ≤ 1024 → epoch < 2 ^ 64 - 1 → kept.IsState s
      → fold kept base pending ≡ Some mid → fold kept base (pending ++ more) ≡ Some s
      → ((c : Image) → images c → IsSettled kept epoch base n pending c)
      → (c : Image) → IsSnapshotting kept images (epoch + 1) s c → StandsForPrefix kept base (pending ++ more) c
  snapshotting-stands lawful images epoch n base mid s pending more within room is_state made all_made settled c (inl from) =
      prefix-longer kept base pending more c
      (settled-stands kept epoch n base mid pending c within made
      (settled-same kept epoch n base pending from.0 c from.2 (settled from.0 from.1)))
  snapshotting-stands lawful images epoch n base mid s pending more within room is_state made all_made settled c (inr written) =
      let now = with_snapshot-settled kept lawful images epoch (epoch + 1) s c refl (omega (arith, room)) is_state
      (λ d before. settled-nothing_later kept epoch n base pending d (settled d before)) written in
      let stands = settled-stands kept (epoch + 1) 0 s s [] c (omega arith) (fold-nil kept s) now in
      prefix-all kept base s (pending ++ more) c all_made
      (stands_for s (stands.count) stands.state stands.made c stands.stands) stands.in_order
    where
      stands_for : (s : S) (count : ℕ) (t : S) → fold kept s (take count []) ≡ Some t → (c : Image) → recovered kept c ≡ Ok t
          → recovered kept c ≡ Ok s
      stands_for s zero t made c stands = let same = some_is s t (sym (fold-nil kept s) ∙ made) in stands ∙ ap (λ (x : S). Ok x) (sym same)
      stands_for s (suc k) t made c stands = let same = some_is s t (sym (fold-nil kept s) ∙ made) in stands ∙ ap (λ (x : S). Ok x) (sym same)

  -- and is of the epoch, or of the next
  pub snapshotting-epochs : IsLawful kept → (images : Image → Type 0) (epoch n : ℕ) (base s : S) (pending : List A)
      → epoch < 2 ^ 64 - 1 → kept.IsState s
      → ((c : Image) → images c → IsSettled kept epoch base n pending c)
      → (c : Image) → IsSnapshotting kept images (epoch + 1) s c → IsOfEpochs epoch (epoch + 1) c
  snapshotting-epochs lawful images epoch n base s pending room is_state settled c (inl from) =
      let was = settled-same kept epoch n base pending from.0 c from.2 (settled from.0 from.1) in
      let is = has_epoch-is epoch c (settled-epoch kept epoch n base pending c was) in
      (omega (arith, is), omega (arith, is))
  snapshotting-epochs lawful images epoch n base s pending room is_state settled c (inr written) =
      let now = with_snapshot-settled kept lawful images epoch (epoch + 1) s c refl (omega (arith, room)) is_state
      (λ d before. settled-nothing_later kept epoch n base pending d (settled d before)) written in
      let is = has_epoch-is (epoch + 1) c (settled-epoch kept (epoch + 1) 0 s [] c now) in
      (omega (arith, is), omega (arith, is))

  -- a store is sound once a snapshot of its state was made
  pub snapshot-sound : IsLawful kept → (images : Image → Type 0) (v : StoreValue D S A) (new : D)
      → v.epoch < 2 ^ 64 - 1 → kept.IsState v.state → disk.honest new
      → ((d : Image) → images d → NothingLater v.epoch d)
      → ((c : Image) → disk.may_leave new c → WithSnapshot kept images (v.epoch + 1) v.state c)
      → IsSoundStore kept disk (after_snapshot v new)
  snapshot-sound lawful images v new room is_state honest nothing written =
      settled-sound kept disk (after_snapshot v new) refl (omega arith) honest
      (λ c left. with_snapshot-settled kept lawful images v.epoch (v.epoch + 1) v.state c refl (omega (arith, room)) is_state
      nothing (written c left))

  -- the images of a store at work
  pub images-settled : (v : StoreValue D S A) → IsStore kept disk v → v.failed ≡ false → IsSoundStore kept disk v
      → (c : Image) → disk.may_leave v.disk c → IsSettled kept v.epoch v.base (v.records - length v.pending) v.pending c
  images-settled v store works sound c left =
      (sound.working works).settled (v.records - length v.pending) (omega (arith, store.recorded)) c left

  -- the snapshot of a store that holds some more accepted actions than its old value
  module _ (lawful : IsLawful kept) (old : StoreValue D S A) (more : List A) (s : S) (new : D) (store : IsStore kept disk old)
      (works : old.failed ≡ false) (room : old.epoch < 2 ^ 64 - 1) (is_state : kept.IsState s)
      (made : fold kept old.base (old.pending ++ more) ≡ Some s) where
    pub snapshot-moments : IsSoundStore kept disk old
        → (disk.honest old.disk → EveryMoment disk old.disk new (IsSnapshotting kept (disk.may_leave old.disk) (old.epoch + 1) s))
        → EveryMoment disk old.disk new (StandsForPrefix kept old.base (old.pending ++ more))
    snapshot-moments sound run =
        let images = disk.may_leave old.disk in
        let n = old.records - length old.pending in
        weakens disk old.disk new (IsSnapshotting kept images (old.epoch + 1) s) (run sound.honest)
        (StandsForPrefix kept old.base (old.pending ++ more))
        (snapshotting-stands lawful images old.epoch n old.base old.state s old.pending more
        (omega (arith, store.recorded, store.records)) room is_state store.accepted made (images-settled old store works sound))

    pub snapshot-epochs : IsSoundStore kept disk old
        → (disk.honest old.disk → EveryMoment disk old.disk new (IsSnapshotting kept (disk.may_leave old.disk) (old.epoch + 1) s))
        → (most : ℕ) → old.epoch + 1 ≤ most → EveryMoment disk old.disk new (IsOfEpochs old.epoch most)
    snapshot-epochs sound run most within =
        let images = disk.may_leave old.disk in
        let n = old.records - length old.pending in
        weakens disk old.disk new (IsSnapshotting kept images (old.epoch + 1) s) (run sound.honest) (IsOfEpochs old.epoch most)
        (λ c writing.
        let of = snapshotting-epochs lawful images old.epoch n old.base s old.pending room is_state
        (images-settled old store works sound) c writing in
        let last = of.1 in
        (of.0, omega (arith, last, within)))

    pub snapshot-nothing_later : IsSoundStore kept disk old → (d : Image) → disk.may_leave old.disk d → NothingLater old.epoch d
    snapshot-nothing_later sound d left =
        settled-nothing_later kept old.epoch _ old.base old.pending d (images-settled old store works sound d left)

    -- the old store with what it accepted since
    abbrev pub taken : StoreValue D S A
    taken = record old { pending = old.pending ++ more; state = s }

    pub snapshot-keeps_sound : Remains disk old.disk new
        → (disk.honest old.disk → (c : Image) → disk.may_leave new c → WithSnapshot kept (disk.may_leave old.disk) (old.epoch + 1) s c)
        → IsSoundStore kept disk old → IsSoundStore kept disk (after_snapshot taken new)
    snapshot-keeps_sound remains written sound =
        snapshot-sound lawful (disk.may_leave old.disk) taken new room is_state (remains.stays_honest sound.honest)
        (snapshot-nothing_later sound) (written sound.honest)

    -- a snapshot that was made confirms all
    pub snapshot-continues : Remains disk old.disk new
        → (disk.honest old.disk → EveryMoment disk old.disk new (IsSnapshotting kept (disk.may_leave old.disk) (old.epoch + 1) s))
        → (disk.honest old.disk → (c : Image) → disk.may_leave new c → WithSnapshot kept (disk.may_leave old.disk) (old.epoch + 1) s c)
        → Continues kept disk old more (after_snapshot taken new)
    snapshot-continues remains run written =
        continues_all kept disk old (after_snapshot taken new) more made refl remains
        (snapshot-keeps_sound remains written) (λ sound. snapshot-moments sound run)
        (ages-on kept disk old (after_snapshot taken new) works (omega arith)
        (λ still sound. snapshot-epochs sound run (old.epoch + 1 + 1) (omega arith)))

    -- one that failed confirms nothing
    pub snapshot_fault-continues : Remains disk old.disk new
        → (disk.honest old.disk → EveryMoment disk old.disk new (IsSnapshotting kept (disk.may_leave old.disk) (old.epoch + 1) s))
        → Continues kept disk old more (after_fault taken new)
    snapshot_fault-continues remains run =
        continues_none kept disk old (after_fault taken new) more refl refl remains
        (λ sound. fault-sound kept disk taken new (remains.stays_honest sound.honest)
        (now_has disk old.disk new (StandsForPrefix kept old.base (old.pending ++ more)) (snapshot-moments sound run)))
        (λ sound. snapshot-moments sound run)
        (ages-on kept disk old (after_fault taken new) works (omega arith)
        (λ still sound. snapshot-epochs sound run (old.epoch + 1) (omega arith)))

    -- after it, all stands for the state
    pub snapshot-stands : Remains disk old.disk new
        → (disk.honest old.disk → (c : Image) → disk.may_leave new c → WithSnapshot kept (disk.may_leave old.disk) (old.epoch + 1) s c)
        → IsSoundStore kept disk old → StandsOnlyFor kept disk s new
    snapshot-stands remains written sound =
        sound-stands kept disk (after_snapshot taken new) refl refl (snapshot-keeps_sound remains written sound)

  -- nothing more accepted, and nothing changed but the disk
  pub fault-same : (v : StoreValue D S A) (new : D) → after_fault (record v { pending = v.pending ++ [] }) new ≡ after_fault v new
  fault-same v new = λ i. record v { disk = new; failed = true; pending = append-nil v.pending i }

module _ {D S A R : Type 0} (kept : Keeping S A R) (disk : Disk D) (new : D) where
  -- a snapshot of a store's state is written
  abbrev pub SnapshotRuns : StoreValue D S A → Type 0
  SnapshotRuns v = disk.honest v.disk → EveryMoment disk v.disk new (IsSnapshotting kept (disk.may_leave v.disk) (v.epoch + 1) v.state)

  -- it was written
  abbrev pub SnapshotWritten : StoreValue D S A → Type 0
  SnapshotWritten v = disk.honest v.disk
      → (c : Image) → disk.may_leave new c → WithSnapshot kept (disk.may_leave v.disk) (v.epoch + 1) v.state c
