-- Bringing a state to a disk of an older epoch.
use Rattle.std.proofs.Common.{◌≡◌, ◌≢◌, ◌<◌, ◌≤◌, ◌+◌, ◌-◌, ◌^◌, ℕ, List, [], Bool, false, Option, Some, None, Result, Ok, Err, inl, inr, refl, sym, ap, subst, arith}
use Rattle.std.proofs.lemmas.Bool.{cases_Bool}
use Rattle.sector_disk.specs.Disk.{Image, Disk}
use Rattle.sector_disk.specs.Runs.{EveryMoment}
use Rattle.sector_disk.proofs.RunLaws.{now_has, weakens}
use Rattle.sector_disk.specs.declared.disk.DiskFault.{DiskFault}
use Rattle.session_store.specs.Keeping.{Keeping, IsLawful}
use Rattle.session_store.specs.declared.reading.Header.{Header}
use Rattle.session_store.specs.Form.{place}
use Rattle.session_store.specs.Stands.{header_in}
use Rattle.session_store.specs.Epochs.{epoch_of, epoch_in}
use Rattle.session_store.specs.Base.{HasEpoch, IsSettled, StandsForPrefix}
use Rattle.session_store.specs.Snapshot.{SameButParts, NothingLater, WithSnapshot, IsSnapshotting, WritesSnapshot}
use Rattle.session_store.specs.Sound.{IsSoundDisk}
use Rattle.session_store.specs.Answers.{Checkpoints}
use Rattle.session_store.specs.ReadFaults.{checkpoint_fault}
use Rattle.session_store.specs.declared.fault.CheckpointFault.{CheckpointFault}
use Rattle.session_store.specs.declared.fault.CheckpointFault.TheVariants.{Failed as CheckpointFailed, EpochsSpent as CheckpointEpochsSpent, Disk as CheckpointDisk}
use Rattle.session_store.specs.declared.fault.StoreFault.{StoreFault}
use Rattle.session_store.specs.Copying.{BeginsCopy, CannotPrepare, IsOldOrNew}
use Rattle.session_store.specs.Pair.{IsSide}
use Rattle.session_store.specs.Value.{StoreValue, IsStore}
use Rattle.session_store.specs.Store.{IsSoundStore}
use Rattle.session_store.proofs.AgeLemmas.{has_epoch-is, settled-epoch}
use Rattle.session_store.proofs.FormLemmas.{places}
use Rattle.session_store.proofs.StandsLemmas.{fold-nil}
use Rattle.session_store.proofs.BaseLemmas.{settled-stands, settled-same}
use Rattle.session_store.proofs.SnapshotLemmas.{newer_cases, nothing_later, nothing_later-same, stands-settled, with_snapshot-settled}
use Rattle.session_store.proofs.StoreLemmas.{settled-sound}
use Rattle.session_store.proofs.SettlingLemmas.{not_both}
use Rattle.session_store.proofs.OpenLemmas.{prefix-none}

-- nothing of an epoch above this one is of one above a later one
later-still : (own epoch : ℕ) (image : Image) → own ≤ epoch → NothingLater own image → NothingLater epoch image
later-still own epoch image within nothing = record {
  first = λ h is. let few = nothing.first h is in omega (arith, few, within);
  second = λ h is. let few = nothing.second h is in omega (arith, few, within);
  none_later = λ k above below later. nothing.none_later k above below (later.0, let more = later.1 in omega (arith, more, within));
}

-- the header that counts is of no later epoch either
pub nothing_later-epoch : (epoch : ℕ) (image : Image) → NothingLater epoch image → epoch_in image ≤ epoch
unfolding header_in epoch_of
nothing_later-epoch epoch image nothing = of_header (header_in image) refl
  where
    of_header : (o : Option Header) → header_in image ≡ o → epoch_of o ≤ epoch
    of_header None is = omega arith
    of_header (Some h) is = elim (newer_cases _ _ h is) [ inl one ↦ nothing.first h one | inr other ↦ nothing.second h other ]

-- two snapshots that do not share a place stand in the two places
other_place : (own epoch : ℕ) → place epoch ≢ place own → place epoch ≡ place (own + 1)
other_place own epoch apart =
    let at = places own in
    let again = places epoch in
    omega (arith, apart, at.1, at.2, at.3, again.1, again.2)

-- after an epoch whose snapshot shares that place comes one whose does not
pub apart-next : (own epoch next : ℕ) → place epoch ≡ place own → next ≡ epoch + 1 → place next ≢ place own
apart-next own epoch next shared is_next same =
    let at = places epoch in
    let again : place next ≡ place (epoch + 1) = ap place is_next in
    omega (arith, shared, same, again, at.1, at.2, at.3)

-- why no checkpoint was made is why a store was not made ready for a copy
pub cannot-prepare : {D S A R : Type 0} (kept : Keeping S A R) (disk : Disk D) (old new : StoreValue D S A) (fault : CheckpointFault)
    (told : StoreFault) → told ≡ checkpoint_fault fault → Checkpoints kept disk old new (Err fault) → old.failed ≡ false
    → CannotPrepare disk old new told
cannot-prepare kept disk old new CheckpointFailed told is why works = not_both old why.0 works
cannot-prepare kept disk old new CheckpointEpochsSpent told is why works =
    subst (CannotPrepare disk old new) (sym is) (why.1, why.2)
cannot-prepare kept disk old new CheckpointDisk told is why works = subst (CannotPrepare disk old new) (sym is) why.3

-- the store that begins there is one
pub begun-store : {D S A R : Type 0} (kept : Keeping S A R) (disk : Disk D) (new : D) (base s : S) (pending : List A) (epoch : ℕ) (lost : Bool)
    → base ≡ s → pending ≡ [] → 2048 ≤ disk.count new → 1 ≤ epoch → epoch < 2 ^ 64
    → IsStore kept disk (record { disk = new; base = base; pending = pending; state = s; epoch = epoch; records = 0; failed = lost })
begun-store kept disk new base s pending epoch lost same none large some small =
    let view : (record { disk = new; base = s; pending = []; state = s; epoch = epoch; records = 0; failed = lost })
    ≡ (record { disk = new; base = base; pending = pending; state = s; epoch = epoch; records = 0; failed = lost })
    = λ i. record { disk = new; base = sym same i; pending = sym none i; state = s; epoch = epoch; records = 0; failed = lost } in
    subst (IsStore kept disk) view (record {
      large = large;
      accepted = fold-nil kept s;
      few = omega arith;
      recorded = omega arith;
      records = omega arith;
      some_epoch = some;
      epoch = small;
    })

-- an image of a base with no record to come stands for it
base-stands : {S A R : Type 0} (kept : Keeping S A R) (e n : ℕ) (t : S) (c : Image) → n ≤ 1024 → IsSettled kept e t n [] c
    → StandsForPrefix kept t [] c
base-stands kept e n t c within settled = settled-stands kept e n t t [] c (omega (arith, within)) (fold-nil kept t) settled

module _ {S A R : Type 0} (kept : Keeping S A R) (lawful : IsLawful kept) (images : Image → Type 0) (own epoch : ℕ) (s : S)
    (below : own < epoch) (small : epoch < 2 ^ 64) (is_state : kept.IsState s) where
  module _ (nothing : (c : Image) → images c → NothingLater own c) where
    earlier : (c : Image) → images c → NothingLater (epoch - 1) c
    earlier c among = later-still own (epoch - 1) c (omega (arith, below)) (nothing c among)

    before : epoch ≡ epoch - 1 + 1
    before = omega (arith, below)

    -- the new snapshot is a base of its own
    pub copied-settled : (c : Image) → WithSnapshot kept images epoch s c → IsSettled kept epoch s 0 [] c
    copied-settled c written = with_snapshot-settled kept lawful images (epoch - 1) epoch s c before small is_state earlier written

    -- at no moment is there one of a later epoch
    pub copying-within : (c : Image) → IsSnapshotting kept images epoch s c → epoch_in c ≤ epoch
    copying-within c (inl from) =
        let same = subst (λ (e : ℕ). SameButParts e from.0 c) before from.2 in
        let most = nothing_later-epoch (epoch - 1) c (nothing_later-same kept (epoch - 1) from.0 c same (earlier from.0 from.1)) in
        omega (arith, most, below)
    copying-within c (inr written) =
        let is = has_epoch-is epoch c (settled-epoch kept epoch 0 s [] c (copied-settled c written)) in omega (arith, is)

-- bringing a store's state to a disk
module _ {D S A R : Type 0} (kept : Keeping S A R) (lawful : IsLawful kept) (disk : Disk D) (d : D) (own epoch : ℕ) (s : S)
    (w : StoreValue D S A) (begun : BeginsCopy kept disk d epoch s w) (below : own < epoch) (small : epoch < 2 ^ 64) where
  -- the snapshot is written, or fails
  writing : (T : Type 0) → ((result : Result (Unit {0}) DiskFault) → WritesSnapshot kept disk d w.disk epoch s result → T) → T
  writing T so = elim (cases_Bool w.failed) [
    | inl failed ↦ let bad = begun.fault failed in so (Err bad.0) bad.1
    | inr works ↦ so (Ok tt) (begun.written works)
  ]

  -- makes of an orderly one a side of the pair
  pub copied-side : disk.honest d → ((c : Image) → disk.may_leave d c → NothingLater own c) → IsSide kept disk w s
  copied-side honest nothing = record {
    honest = writing (disk.honest w.disk) (λ result written. written.remains.stays_honest honest);
    sound = λ works.
        let written = begun.written works in
        subst (IsSoundStore kept disk) (sym begun.is)
        (settled-sound kept disk (record { disk = w.disk; base = s; pending = []; state = s; epoch = epoch; records = 0; failed = w.failed })
        refl (omega arith) (written.remains.stays_honest honest)
        (λ c left. copied-settled kept lawful (disk.may_leave d) own epoch s below small written.is_state nothing c (written.written honest c left)));
    state = λ works. ap (λ (x : StoreValue D S A). x.state) begun.is;
    within = λ failed c left.
        let epochs = ap (λ (x : StoreValue D S A). x.epoch) begun.is in
        let most : epoch_in c ≤ epoch = writing (epoch_in c ≤ epoch)
        (λ result written. copying-within kept lawful (disk.may_leave d) own epoch s below small written.is_state nothing c
        (now_has disk d w.disk (IsSnapshotting kept (disk.may_leave d) epoch s) (written.any_moment honest) c left)) in
        omega (arith, most, epochs);
  }

  -- and leaves a sound one sound at every moment, where its snapshot has another place
  pub copying-moments : IsSoundDisk kept disk d → ((c : Image) → disk.may_leave d c → HasEpoch own c)
      → place epoch ≢ place own → EveryMoment disk d w.disk (IsOldOrNew kept (disk.may_leave d) s)
  copying-moments sound has apart = writing (EveryMoment disk d w.disk (IsOldOrNew kept (disk.may_leave d) s))
      (λ result written. weakens disk d w.disk (IsSnapshotting kept (disk.may_leave d) epoch s) (written.any_moment sound.honest)
      (IsOldOrNew kept (disk.may_leave d) s) (λ c some. of_writing written.is_state c some))
    where
      order : (c : Image) (left : disk.may_leave d c) → NothingLater own c
      order c left =
          let h = has c left in
          subst (λ (e : ℕ). NothingLater e c) h.2 (nothing_later c h.0 h.1 (sound.in_order c left h.0 h.1))

      of_writing : kept.IsState s → (c : Image) → IsSnapshotting kept (disk.may_leave d) epoch s c → IsOldOrNew kept (disk.may_leave d) s c
      of_writing is_state c (inl from) =
          let before = from.0 in
          let left = from.1 in
          let h = has before left in
          let stood = sound.stands before left in
          let settled : IsSettled kept own stood.0 1024 [] before
          = subst (λ (e : ℕ). IsSettled kept e stood.0 1024 [] before) h.2
          (stands-settled kept before h.0 stood.0 h.1 stood.1 (sound.in_order before left h.0 h.1)) in
          let same : SameButParts (own + 1) before c
          = λ k out. from.2 k (λ inside. out (subst (λ (p : ℕ). (p < k) × (k < p + 512)) (other_place own epoch apart) inside)) in
          let now = base-stands kept own 1024 stood.0 c (omega arith)
          (settled-same kept own 1024 stood.0 [] before c same settled) in
          inl (record {
            in_order = now.in_order;
            state = stood.0;
            stands = prefix-none kept disk stood.0 c now;
            start = before;
            was_there = left;
            stood = stood.1;
          })
      of_writing is_state c (inr written) =
          let now = base-stands kept epoch 0 s c (omega arith)
          (copied-settled kept lawful (disk.may_leave d) own epoch s below small is_state order c written) in
          inr (prefix-none kept disk s c now, now.in_order)
