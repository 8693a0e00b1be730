-- What opening does to a disk.
use Rattle.std.proofs.Common.{◌≡◌, ◌≢◌, ◌<◌, ◌≤◌, ◌+◌, ◌-◌, ◌^◌, ℕ, zero, suc, List, [], take, Some, Ok, Err, false, inl, refl, sym, ap, subst, ◌∙◌, arith}
use Rattle.sector_disk.specs.Disk.{Image, Disk}
use Rattle.sector_disk.specs.Runs.{EveryMoment, Quiet, Remains}
use Rattle.sector_disk.proofs.RunLaws.{now_has, weakens, joins, remains_joins}
use Rattle.session_store.specs.declared.disk_format.DiskFormat.TheVariants.{Two}
use Rattle.session_store.specs.Keeping.{Keeping, IsLawful, fold}
use Rattle.session_store.specs.Stands.{recovered}
use Rattle.session_store.specs.Base.{HasEpoch, HasFormat, IsSettled, StandsForPrefix}
use Rattle.session_store.specs.Snapshot.{IsSnapshotting, WithSnapshot, WritesSnapshot}
use Rattle.session_store.specs.Sound.{IsSoundDisk, StandsOnlyFor}
use Rattle.session_store.specs.Value.{StoreValue, IsStore}
use Rattle.session_store.specs.Store.{IsSoundStore}
use Rattle.sector_disk.specs.declared.disk.DiskFault.{DiskFault}
use Rattle.session_store.specs.declared.fault.StoreFault.{StoreFault}
use Rattle.session_store.specs.declared.fault.StoreFault.TheVariants.{Disk as DiskFailed}
use Rattle.session_store.specs.Opening.{IsStillSound, IsOnly, IsRead, IsUnread, Begins, at_beginning, Opens, Refuses}
use Rattle.session_store.proofs.OpeningLemmas.{cause-stands, disk-not_memory}
use Rattle.session_store.proofs.StandsLemmas.{fold-nil}
use Rattle.session_store.proofs.SnapshotLemmas.{stands-settled, settled-nothing_later, has_epoch-none_later, with_snapshot-format}
use Rattle.session_store.proofs.StoreLemmas.{some_is, sound-stands}
use Rattle.session_store.proofs.CheckpointLemmas.{snapshotting-stands, snapshot-sound}

module _ {D S A R : Type 0} (kept : Keeping S A R) (disk : Disk D) where
  -- what stands for the base with none of no actions stands for the base
  pub prefix-none : (s : S) (c : Image) → StandsForPrefix kept s [] c → recovered kept c ≡ Ok s
  prefix-none s c from = of_count from.count from.state from.made from.stands
    where
      of_count : (count : ℕ) (t : S) → fold kept s (take count []) ≡ Some t → recovered kept c ≡ Ok t → recovered kept c ≡ Ok s
      of_count zero t made stands = let same = some_is s t (sym (fold-nil kept s) ∙ made) in stands ∙ ap (λ (x : S). Ok x) (sym same)
      of_count (suc n) t made stands = let same = some_is s t (sym (fold-nil kept s) ∙ made) in stands ∙ ap (λ (x : S). Ok x) (sym same)

  -- reading leaves a sound disk sound
  pub quiet-still : (old mid : D) → IsSoundDisk kept disk old → Quiet disk old mid
      → EveryMoment disk old mid (IsStillSound kept (disk.may_leave old))
  quiet-still old mid sound quiet =
      weakens disk old mid (disk.may_leave old) (quiet.only_read sound.honest).moments (IsStillSound kept (disk.may_leave old))
      (λ c left. record {
        in_order = sound.in_order c left;
        state = (sound.stands c left).0;
        stands = (sound.stands c left).1;
        start = c;
        was_there = left;
        stood = (sound.stands c left).1;
      })

  -- and so does any run whose every moment is sound
  pub still-sound : (old new : D) → IsSoundDisk kept disk old → Remains disk old new
      → EveryMoment disk old new (IsStillSound kept (disk.may_leave old)) → IsSoundDisk kept disk new
  still-sound old new sound remains run =
      let has = now_has disk old new (IsStillSound kept (disk.may_leave old)) run in record {
        honest = remains.stays_honest sound.honest;
        large = omega (arith, remains.count, sound.large);
        stands = λ c left. ((has c left).state, (has c left).stands);
        in_order = λ c left. (has c left).in_order;
      }

  -- a sound store has a sound disk
  pub store-sound : (v : StoreValue D S A) → 2048 ≤ disk.count v.disk → IsSoundStore kept disk v → IsSoundDisk kept disk v.disk
  store-sound v large sound = record {
    honest = sound.honest;
    large = large;
    stands = λ c left. ((sound.images c left).state, (sound.images c left).stands);
    in_order = λ c left. (sound.images c left).in_order;
  }

  module _ (old mid : D) (epoch : ℕ) (s : S) (sound : IsSoundDisk kept disk old)
      (settled : (c : Image) → disk.may_leave mid c → c ≡ disk.reads old)
      (found : recovered kept (disk.reads old) ≡ Ok s) (has_epoch : HasEpoch epoch (disk.reads old)) where
    -- the image that was read is one of a base with no record to come
    pub read-settled : (c : Image) → disk.may_leave mid c → IsSettled kept epoch s 1024 [] c
    read-settled c left =
        let image = disk.reads old in
        let h = has_epoch.0 in
        let none = sound.in_order image (disk.reads_left old sound.honest) h has_epoch.1 in
        subst (IsSettled kept epoch s 1024 []) (sym (settled c left))
        (subst (λ (e : ℕ). IsSettled kept e s 1024 [] image) has_epoch.2 (stands-settled kept image h s has_epoch.1 found none))

    module _ (lawful : IsLawful kept) (room : epoch < 2 ^ 64 - 1) (is_state : kept.IsState s) (quiet : Quiet disk old mid) (new : D) where
      -- the writing of the next epoch's snapshot leaves it sound
      pub snapshot-still : (disk.honest mid → EveryMoment disk mid new (IsSnapshotting kept (disk.may_leave mid) (epoch + 1) s))
          → EveryMoment disk old new (IsStillSound kept (disk.may_leave old))
      snapshot-still run =
          let images = disk.may_leave mid in
          joins disk old mid new (IsStillSound kept (disk.may_leave old)) (quiet-still old mid sound quiet)
          (weakens disk mid new (IsSnapshotting kept images (epoch + 1) s) (run (quiet.remains.stays_honest sound.honest))
          (IsStillSound kept (disk.may_leave old))
          (λ c writing.
          let stands = snapshotting-stands kept disk lawful images epoch 1024 s s s [] [] (omega arith) room is_state
          (fold-nil kept s) (fold-nil kept s) read-settled c writing in
          record {
            in_order = stands.in_order;
            state = s;
            stands = prefix-none s c stands;
            start = disk.reads old;
            was_there = disk.reads_left old sound.honest;
            stood = found;
          }))

      -- and the store is sound
      pub opened-sound : disk.honest new
          → (disk.honest mid → (c : Image) → disk.may_leave new c → WithSnapshot kept (disk.may_leave mid) (epoch + 1) s c)
          → IsSoundStore kept disk (record { disk = new; base = s; pending = []; state = s; epoch = epoch + 1; records = 0; failed = false })
      opened-sound honest written =
          let before : StoreValue D S A = record { disk = mid; base = s; pending = []; state = s; epoch = epoch; records = 1024; failed = false } in
          snapshot-sound kept disk lawful (disk.may_leave mid) before new room is_state honest
          (λ d left. settled-nothing_later kept epoch 1024 s [] d (read-settled d left))
          (written (quiet.remains.stays_honest sound.honest))

      pub opened-stands : disk.honest new
          → (disk.honest mid → (c : Image) → disk.may_leave new c → WithSnapshot kept (disk.may_leave mid) (epoch + 1) s c)
          → StandsOnlyFor kept disk s new
      opened-stands honest written =
          sound-stands kept disk (record { disk = new; base = s; pending = []; state = s; epoch = epoch + 1; records = 0; failed = false })
          refl refl (opened-sound honest written)

  -- a disk at rest, once the next snapshot was written, is of the second format
  pub opened-format : IsLawful kept → (old mid new : D) (epoch : ℕ) (s : S) → epoch < 2 ^ 64 - 1 → kept.IsState s
      → HasEpoch epoch (disk.reads old) → ((c : Image) → disk.may_leave mid c → c ≡ disk.reads old)
      → ((c : Image) → disk.may_leave new c → WithSnapshot kept (disk.may_leave mid) (epoch + 1) s c)
      → (c : Image) → disk.may_leave new c → HasFormat Two c
  opened-format lawful old mid new epoch s room is_state has_epoch settled written c left =
      with_snapshot-format kept lawful (disk.may_leave mid) epoch (epoch + 1) s c refl (omega (arith, room)) is_state
      (λ d before. has_epoch-none_later kept epoch d (subst (HasEpoch epoch) (sym (settled d before)) has_epoch)) (written c left)

  -- the new store is one
  pub opened-store : (new : D) (base s : S) (pending : List A) (epoch : ℕ) → base ≡ s → pending ≡ [] → 2048 ≤ disk.count new
      → epoch < 2 ^ 64 - 1
      → IsStore kept disk (record { disk = new; base = base; pending = pending; state = s; epoch = epoch + 1; records = 0; failed = false })
  opened-store new base s pending epoch same none large room =
      let view : (record { disk = new; base = s; pending = []; state = s; epoch = epoch + 1; records = 0; failed = false })
      ≡ (record { disk = new; base = base; pending = pending; state = s; epoch = epoch + 1; records = 0; failed = false })
      = λ i. record { disk = new; base = sym same i; pending = sym none i; state = s; epoch = epoch + 1; records = 0; failed = false } in
      subst (IsStore kept disk) view (record {
        large = large;
        accepted = fold-nil kept s;
        few = omega arith;
        recorded = omega arith;
        records = omega arith;
        some_epoch = omega arith;
        epoch = omega (arith, room);
      })

  -- a store that begins is the first of its epoch
  pub first-is : (new : D) (base s : S) (pending : List A) (epoch : ℕ) → base ≡ s → pending ≡ []
      → (record { disk = new; base = base; pending = pending; state = s; epoch = epoch; records = 0; failed = false }) ≡ at_beginning kept disk new s epoch
  first-is new base s pending epoch same none =
      λ i. record { disk = new; base = same i; pending = none i; state = s; epoch = epoch; records = 0; failed = false }

  -- what was read at rest, and a store that begins in the next epoch: the disk was opened
  pub opens-from : IsLawful kept → (old mid : D) (epoch : ℕ) (base s : S) (v : StoreValue D S A) → Quiet disk old mid
      → IsRead kept disk old mid epoch base s → (disk.honest old → IsOnly (disk.may_leave mid) (disk.reads old))
      → Begins kept disk mid (epoch + 1) s v → Opens kept disk old v
  opens-from lawful old mid epoch base s v quiet read settled begins =
      let new = v.disk in
      let written = begins.snapshot in
      let remain = remains_joins disk old mid new quiet.remains written.remains in
      subst (Opens kept disk old) (sym begins.is) (record {
        opened = record {
          remains = remain;
          state = read.state_of;
          none_pending = refl;
          accepted = fold-nil kept s;
          any_moment = λ sound.
              snapshot-still old mid epoch s sound (settled sound.honest) (read.stands sound.honest) (read.has_epoch sound.honest)
              lawful read.more written.is_state quiet new written.any_moment;
          sound = λ sound.
              opened-sound old mid epoch s sound (settled sound.honest) (read.stands sound.honest) (read.has_epoch sound.honest)
              lawful read.more written.is_state quiet new (remain.stays_honest sound.honest) written.written;
        };
        works = refl;
        no_records = refl;
        no_fault = written.no_fault ∙ read.no_fault;
        next_epoch = λ honest. (epoch, read.has_epoch honest, refl);
        format = λ honest.
            opened-format lawful old mid new epoch s read.more written.is_state (read.has_epoch honest) (settled honest)
            (written.written (quiet.remains.stays_honest honest));
        stands = λ sound.
            opened-stands old mid epoch s sound (settled sound.honest) (read.stands sound.honest) (read.has_epoch sound.honest)
            lawful read.more written.is_state quiet new (remain.stays_honest sound.honest) written.written;
      })

  -- the next epoch's snapshot was not written: the disk was not opened
  pub refuses-unwritten : IsLawful kept → (old mid new : D) (epoch : ℕ) (base s : S) (fault : DiskFault) → Quiet disk old mid
      → IsRead kept disk old mid epoch base s → (disk.honest old → IsOnly (disk.may_leave mid) (disk.reads old))
      → WritesSnapshot kept disk mid new (epoch + 1) s (Err fault) → Refuses kept disk old new DiskFailed
  refuses-unwritten lawful old mid new epoch base s fault quiet read settled written =
      let remain = remains_joins disk old mid new quiet.remains written.remains in record {
        not_opened = record {
          remains = remain;
          any_moment = λ sound.
              snapshot-still old mid epoch s sound (settled sound.honest) (read.stands sound.honest) (read.has_epoch sound.honest)
              lawful read.more written.is_state quiet new written.any_moment;
          stays_sound = λ sound.
              still-sound old new sound remain
              (snapshot-still old mid epoch s sound (settled sound.honest) (read.stands sound.honest) (read.has_epoch sound.honest)
              lawful read.more written.is_state quiet new written.any_moment);
        };
        unread = record {
          cause = inl (refl, omega (arith, read.no_fault, written.fault));
          memory = λ same honest. disk-not_memory same;
        };
        only_read = λ other. absurd (other refl);
        at_rest = λ other. absurd (other refl);
        causes = λ sound. inl refl;
      }

  -- nor was one whose state was not read
  pub refuses-unread : (old mid : D) (fault : StoreFault) → Quiet disk old mid → IsUnread kept disk old mid fault
      → (disk.honest old → fault ≢ DiskFailed → IsOnly (disk.may_leave mid) (disk.reads old)) → Refuses kept disk old mid fault
  refuses-unread old mid fault quiet unread at_rest = record {
    not_opened = record {
      remains = quiet.remains;
      any_moment = λ sound. quiet-still old mid sound quiet;
      stays_sound = λ sound. still-sound old mid sound quiet.remains (quiet-still old mid sound quiet);
    };
    unread = unread;
    only_read = λ other. quiet.only_read;
    at_rest = λ other honest. at_rest honest other;
    causes = λ sound.
        let stands = sound.stands (disk.reads old) (disk.reads_left old sound.honest) in
        cause-stands kept (disk.reads old) stands.0 (disk.honest old) _ _ fault sound.honest stands.1 unread.cause;
  }
