-- Opening a pair of disks.
use Rattle.std.proofs.Common.{◌≡◌, ◌≢◌, ◌<◌, ◌≤◌, ◌+◌, ℕ, List, [], ◌++◌, Option, Some, None, Ok, Err, inl, inr, ⊎_elim, refl, sym, ap, subst, ◌∙◌, arith}
use Rattle.sector_disk.specs.Disk.{Image, Disk, Rose}
use Rattle.sector_disk.specs.Runs.{EveryMoment, Quiet}
use Rattle.sector_disk.proofs.ImageLaws.{image_is}
use Rattle.sector_disk.proofs.RunLaws.{weakens, joins, remains_joins, only_read_leaves}
use Rattle.session_store.specs.Keeping.{Keeping, fold}
use Rattle.session_store.specs.declared.reading.Header.{Header}
use Rattle.session_store.specs.Stands.{header_in, after_header, recovered}
use Rattle.session_store.specs.declared.fault.StoreFault.{StoreFault}
use Rattle.session_store.specs.declared.fault.StoreFault.TheVariants.{Disk as DiskFailed, TooSmall, NotFormatted, Damaged, EpochsSpent, NoMemory}
use Rattle.session_store.specs.Epochs.{epoch_of, epoch_in}
use Rattle.session_store.specs.Base.{HasEpoch, StandsForPrefix}
use Rattle.session_store.specs.Snapshot.{NothingLater}
use Rattle.session_store.specs.Sound.{IsSoundDisk}
use Rattle.session_store.specs.Opening.{Causes, HasNext, IsOnly, IsStillSound, Opens, Refuses, reading}
use Rattle.session_store.specs.Copying.{IsOrderly, IsOldOrNew}
use Rattle.session_store.specs.PairOpening.{IsOldOrRead, CopiesSoundly, Joins, CannotJoin, IsNotJoined, IsNotCompared, IsPairOpened, RefusesFor, IsPairRefused}
use Rattle.session_store.specs.declared.fault.PairFault.{PairFault}
use Rattle.session_store.specs.declared.fault.PairFault.TheVariants.{First, Second, SecondNewer}
use Rattle.session_store.specs.Value.{StoreValue}
use Rattle.session_store.specs.Store.{IsSoundStore}
use Rattle.session_store.proofs.AgeLemmas.{has_epoch-is}
use Rattle.session_store.proofs.OpeningLemmas.{reading-ok, reading-next}
use Rattle.session_store.proofs.OpenLemmas.{prefix-none, quiet-still, still-sound}
use Rattle.session_store.proofs.StoreLemmas.{of_nil}
use Rattle.session_store.proofs.JoinLemmas.{sound-order}

-- that the first disk failed is not that the second is newer
pub first-not_newer : (fault : StoreFault) → First fault ≢ SecondNewer
first-not_newer fault same = cc

module _ {S A R : Type 0} (kept : Keeping S A R) where
  -- an image that stands for a state has a header, of its epoch
  pub stands-epoch : (image : Image) (s : S) → recovered kept image ≡ Ok s → HasEpoch (epoch_in image) image
  unfolding recovered after_header epoch_of
  stands-epoch image s stands = of_header (header_in image) refl
    where
      of_header : (o : Option Header) → header_in image ≡ o → HasEpoch (epoch_of (header_in image)) image
      of_header None is =
          let never : Err NotFormatted ≡ Ok s = ap (after_header kept image) (sym is) ∙ stands in cc
      of_header (Some h) is = (h, is, ap epoch_of (sym is))

  -- a sound disk is orderly
  pub orderly : {D : Type 0} (disk : Disk D) (d : D) → IsSoundDisk kept disk d → IsOrderly disk d
  orderly disk d sound =
      let reads = disk.reads d in
      let left = disk.reads_left d sound.honest in
      let stood = sound.stands reads left in record {
        honest = sound.honest;
        nothing_later = sound-order kept disk d (epoch_in reads) sound reads left (stands-epoch reads stood.0 stood.1);
      }

module _ {D S A R : Type 0} (kept : Keeping S A R) (disk : Disk D) (d d1 : D) (read : Quiet disk d d1) where
  -- what reads give is the same after only reading
  pub reads-same : disk.honest d → disk.reads d1 ≡ disk.reads d
  reads-same honest = image_is (disk.reads d1) (disk.reads d) (read.only_read honest).reads

  pub read-sound : IsSoundDisk kept disk d → IsSoundDisk kept disk d1
  read-sound sound = still-sound kept disk d d1 sound read.remains (quiet-still kept disk d d1 sound read)

  -- what stands for what an image after it stood for does for one before
  still-before : disk.honest d → (c : Image) → IsStillSound kept (disk.may_leave d1) c → IsStillSound kept (disk.may_leave d) c
  still-before honest c still = record {
    in_order = still.in_order;
    state = still.state;
    stands = still.stands;
    start = still.start;
    was_there = only_read_leaves disk d d1 (read.only_read honest) still.start still.was_there;
    stood = still.stood;
  }

  -- a run after it
  pub still-after : (d2 : D) → IsSoundDisk kept disk d → EveryMoment disk d1 d2 (IsStillSound kept (disk.may_leave d1))
      → EveryMoment disk d d2 (IsStillSound kept (disk.may_leave d))
  still-after d2 sound run =
      let P = IsStillSound kept (disk.may_leave d) in
      joins disk d d1 d2 P (quiet-still kept disk d d1 sound read)
      (weakens disk d1 d2 (IsStillSound kept (disk.may_leave d1)) run P (still-before sound.honest))

  -- the second disk: what is left of it while it is only read, and then while a state is brought to it
  pub only-read : (image : Image) → IsSoundDisk kept disk d → EveryMoment disk d d1 (IsOldOrRead kept (disk.may_leave d) image)
  only-read image sound =
      weakens disk d d1 (IsStillSound kept (disk.may_leave d)) (quiet-still kept disk d d1 sound read)
      (IsOldOrRead kept (disk.may_leave d) image) (λ c still. inl still)

  pub read-then-copied : (d2 : D) (image : Image) (s : S) → reading kept image ≡ Ok s → IsSoundDisk kept disk d
      → EveryMoment disk d1 d2 (IsOldOrNew kept (disk.may_leave d1) s)
      → EveryMoment disk d d2 (IsOldOrRead kept (disk.may_leave d) image)
  read-then-copied d2 image s reads sound run =
      let P = IsOldOrRead kept (disk.may_leave d) image in
      joins disk d d1 d2 P (only-read image sound)
      (weakens disk d1 d2 (IsOldOrNew kept (disk.may_leave d1) s) run P
      (λ c some. ⊎_elim (λ still. inl (still-before sound.honest c still)) (λ new. inr (s, reads, new.0, new.1)) some))

module _ {D E S A R : Type 0} (kept : Keeping S A R) (first : Disk D) (second : Disk E) (d d1 : D) (e e1 : E) (own : ℕ)
    (v : StoreValue D S A) (read : Quiet first d d1) (read' : Quiet second e e1) (opens : Opens kept first d1 v)
    (is_own : second.honest e → own ≡ epoch_in (second.reads e))
    (settled : second.honest e → IsOnly (second.may_leave e1) (second.reads e))
    (not_newer : first.honest d → own ≤ epoch_in (first.reads d)) (large : 2048 ≤ first.count d) (large' : 2048 ≤ second.count e)
    (no_fault : first.faults d1 ≡ first.faults d) (no_fault' : second.faults e1 ≡ second.faults e) where
  -- the store is of the epoch after the first disk's
  opened-next : first.honest d → v.epoch ≡ epoch_in (first.reads d) + 1
  opened-next honest =
      let next = opens.next_epoch (read.remains.stays_honest honest) in
      let is : epoch_in (first.reads d) ≡ next.0
      = ap epoch_in (sym (reads-same kept first d d1 read honest)) ∙ has_epoch-is next.0 (first.reads d1) next.1 in
      let after = next.2 in
      omega (arith, is, after)

  -- and of a later one than the second disk
  opened-above : first.honest d → own < v.epoch
  opened-above honest =
      let next = opened-next honest in
      let below = not_newer honest in
      omega (arith, next, below)

  opened-reads : first.honest d → reading kept (first.reads d) ≡ Ok v.state
  opened-reads honest =
      ap (reading kept) (sym (reads-same kept first d d1 read honest)) ∙ opens.opened.state (read.remains.stays_honest honest)

  -- the first disk, up to the store, and as it goes on
  pub opened-moments : (d2 : D) → IsSoundDisk kept first d
      → (IsSoundStore kept first v → EveryMoment first v.disk d2 (StandsForPrefix kept v.base (v.pending ++ [])))
      → EveryMoment first d d2 (IsStillSound kept (first.may_leave d))
  opened-moments d2 sound run =
      let P = IsStillSound kept (first.may_leave d) in
      let sound1 = read-sound kept first d d1 read sound in
      let reads = first.reads d in
      let based : v.base ≡ v.state = base_is in
      joins first d v.disk d2 P (still-after kept first d d1 read v.disk sound (opens.opened.any_moment sound1))
      (weakens first v.disk d2 (StandsForPrefix kept v.base (v.pending ++ [])) (run (opens.opened.sound sound1)) P
      (λ c from.
      let stands = subst (λ (x : S). StandsForPrefix kept x [] c) based
      (subst (λ (xs : List A). StandsForPrefix kept v.base (xs ++ []) c) opens.opened.none_pending from) in
      record {
        in_order = stands.in_order;
        state = v.state;
        stands = prefix-none kept first v.state c stands;
        start = reads;
        was_there = first.reads_left d sound.honest;
        stood = reading-ok kept reads v.state (opened-reads sound.honest);
      }))
    where
      base_is : v.base ≡ v.state
      base_is = of_nil kept v.base v.state
          (subst (λ (xs : List A). fold kept v.base xs ≡ Some v.state) opens.opened.none_pending opens.opened.accepted)

  -- the second disk
  pub copied-moments : (e2 : E) → IsSoundDisk kept first d → IsSoundDisk kept second e → CopiesSoundly kept first second v e1 own e2
      → EveryMoment second e e2 (IsOldOrRead kept (second.may_leave e) (first.reads d))
  copied-moments e2 sound sound' copies =
      let reads = second.reads e in
      let stood = sound'.stands reads (second.reads_left e sound'.honest) in
      read-then-copied kept second e e1 read' e2 (first.reads d) v.state (opened-reads sound.honest) sound'
      (copies (opened-above sound.honest) (read-sound kept second e e1 read' sound')
      (λ c left. subst (HasEpoch own) (sym (settled sound'.honest c left))
      (subst (λ (n : ℕ). HasEpoch n reads) (sym (is_own sound'.honest)) (stands-epoch kept reads stood.0 stood.1))))

  pub pair-opened : (v2 : StoreValue D S A) (w2 : StoreValue E S A) → Joins kept first second v e1 own v2 w2
      → IsPairOpened kept first second d e v2 w2
  pair-opened v2 w2 joined = record {
    large = (large, large');
    not_newer = λ honest honest'. subst (λ (n : ℕ). n ≤ epoch_in (first.reads d)) (is_own honest') (not_newer honest);
    works = joined.works opens.works;
    lost = λ failed. subst (λ (n : ℕ). Rose n (second.faults w2.disk)) no_fault' (joined.lost opens.works failed);
    none_pending = joined.none_pending opens.opened.none_pending;
    state = λ honest. opened-reads honest ∙ ap (λ (x : S). Ok x) (sym joined.state);
    told = λ sound orderly. joined.told (record {
      works = opens.works;
      sound = opens.opened.sound (read-sound kept first d d1 read sound);
      none_pending = opens.opened.none_pending;
      below = opened-above sound.honest;
      honest = read'.remains.stays_honest orderly.honest;
      nothing_later = λ c left. subst (NothingLater own) (sym (settled orderly.honest c left))
          (subst (λ (n : ℕ). NothingLater n (second.reads e)) (sym (is_own orderly.honest)) orderly.nothing_later);
    });
    first_remains = remains_joins first d v.disk v2.disk
        (remains_joins first d d1 v.disk read.remains opens.opened.remains) joined.continues.remains;
    second_remains = remains_joins second e e1 w2.disk read'.remains joined.remains;
    first_moments = λ sound. opened-moments v2.disk sound joined.continues.any_moment;
    second_moments = λ sound sound'. copied-moments w2.disk sound sound' joined.moments;
  }

  -- why they were not joined is why the pair was not opened
  not_joined-refuses : (d2 : D) (e2 : E) (fault : PairFault) → CannotJoin kept first second v e1 d2 e2 fault
      → RefusesFor kept first second d e d2 e2 fault
  not_joined-refuses d2 e2 (First NoMemory) why = λ honest. reading-next kept (first.reads d) v.state (opened-reads honest)
  not_joined-refuses d2 e2 (First DiskFailed) why =
      subst (λ (n : ℕ). Rose n (first.faults d2)) (opens.no_fault ∙ no_fault) why
  not_joined-refuses d2 e2 (First EpochsSpent) (inl last) = λ honest.
      let next = opened-next honest in inr (inl (omega (arith, last, next)))
  not_joined-refuses d2 e2 (First EpochsSpent) (inr lost) = λ honest.
      let next = opened-next honest in
      let few = lost.0 in
      inr (inr (omega (arith, few, next), subst (λ (n : ℕ). Rose n (second.faults e2)) no_fault' lost.1))
  not_joined-refuses d2 e2 (First TooSmall) why = absurd why
  not_joined-refuses d2 e2 (First NotFormatted) why = absurd why
  not_joined-refuses d2 e2 (First (Damaged at)) why = absurd why
  not_joined-refuses d2 e2 (Second fault) why = absurd why
  not_joined-refuses d2 e2 SecondNewer why = absurd why

  pub pair-not_joined : (d2 : D) (e2 : E) (fault : PairFault) → IsNotJoined kept first second v e1 own d2 e2 fault
      → IsPairRefused kept first second d e d2 e2 fault
  pair-not_joined d2 e2 fault not = record {
    cause = not_joined-refuses d2 e2 fault (not.cause opens.works);
    first_remains = remains_joins first d v.disk d2
        (remains_joins first d d1 v.disk read.remains opens.opened.remains) not.first_remains;
    second_remains = remains_joins second e e1 e2 read'.remains not.second_remains;
    first_moments = λ sound. opened-moments d2 sound not.first_moments;
    second_moments = λ sound sound'. copied-moments e2 sound sound' not.second_moments;
    newer = λ same. absurd (not.other same);
  }

module _ {D E S A R : Type 0} (kept : Keeping S A R) (first : Disk D) (second : Disk E) (d d1 : D) (e e1 : E)
    (read : Quiet first d d1) (read' : Quiet second e e1) where
  -- what was found on the first disk
  found : {d2 : D} (fault : StoreFault) → fault ≢ DiskFailed → fault ≢ NoMemory
      → Causes first d1 d2 (reading kept (first.reads d1)) fault → first.honest d → reading kept (first.reads d) ≡ Err fault
  found fault other more (inl failed) honest = absurd (other failed.0)
  found fault other more (inr (none, inl is)) honest = absurd (more is)
  found fault other more (inr (none, inr is)) honest =
      ap (reading kept) (sym (reads-same kept first d d1 read honest)) ∙ is.2 (read.remains.stays_honest honest)

  -- why the first disk was not opened is why the pair was not
  not_opened-refuses : (d2 : D) (e2 : E) (fault : StoreFault) → first.faults d1 ≡ first.faults d
      → (fault ≡ NoMemory → first.honest d1 → HasNext (first.reads d1))
      → Causes first d1 d2 (reading kept (first.reads d1)) fault → RefusesFor kept first second d e d2 e2 (First fault)
  not_opened-refuses d2 e2 TooSmall no_fault memory (inl failed) = let never = failed.0 in absurd (cc)
  not_opened-refuses d2 e2 TooSmall no_fault memory (inr (none, inl is)) = absurd (cc)
  not_opened-refuses d2 e2 TooSmall no_fault memory (inr (none, inr is)) = absurd (is.1 refl)
  not_opened-refuses d2 e2 DiskFailed no_fault memory (inl failed) = subst (λ (n : ℕ). Rose n (first.faults d2)) no_fault failed.1
  not_opened-refuses d2 e2 DiskFailed no_fault memory (inr (none, inl is)) = absurd (cc)
  not_opened-refuses d2 e2 DiskFailed no_fault memory (inr (none, inr is)) = absurd (is.0 refl)
  not_opened-refuses d2 e2 NotFormatted no_fault memory why = λ honest. found NotFormatted (λ same. cc) (λ same. cc) why honest
  not_opened-refuses d2 e2 (Damaged at) no_fault memory why = λ honest. found (Damaged at) (λ same. cc) (λ same. cc) why honest
  not_opened-refuses d2 e2 EpochsSpent no_fault memory why = λ honest. inl (found EpochsSpent (λ same. cc) (λ same. cc) why honest)
  not_opened-refuses d2 e2 NoMemory no_fault memory why = λ honest.
      subst HasNext (reads-same kept first d d1 read honest) (memory refl (read.remains.stays_honest honest))

  -- the first disk was not opened
  pub first-not_opened : (d2 : D) (fault : StoreFault) → first.faults d1 ≡ first.faults d → Refuses kept first d1 d2 fault
      → IsPairRefused kept first second d e d2 e1 (First fault)
  first-not_opened d2 fault no_fault refused = record {
    cause = not_opened-refuses d2 e1 fault no_fault refused.unread.memory refused.unread.cause;
    first_remains = remains_joins first d d1 d2 read.remains refused.not_opened.remains;
    second_remains = read'.remains;
    first_moments = λ sound.
        still-after kept first d d1 read d2 sound (refused.not_opened.any_moment (read-sound kept first d d1 read sound));
    second_moments = λ sound sound'. only-read kept second e e1 read' (first.reads d) sound';
    newer = λ same. absurd (first-not_newer fault same);
  }

  -- nothing more was done than to read them
  pub only-looked : (fault : PairFault) → fault ≢ SecondNewer → RefusesFor kept first second d e d1 e1 fault
      → IsPairRefused kept first second d e d1 e1 fault
  only-looked fault other why = record {
    cause = why;
    first_remains = read.remains;
    second_remains = read'.remains;
    first_moments = λ sound. quiet-still kept first d d1 sound read;
    second_moments = λ sound sound'. only-read kept second e e1 read' (first.reads d) sound';
    newer = λ same. absurd (other same);
  }

  -- the epochs were not compared, or are not in order
  pub not-compared : (fault : PairFault) → IsNotCompared first second d e d1 e1 fault → IsPairRefused kept first second d e d1 e1 fault
  not-compared fault cause = record {
    cause = cause_of cause;
    first_remains = read.remains;
    second_remains = read'.remains;
    first_moments = λ sound. quiet-still kept first d d1 sound read;
    second_moments = λ sound sound'. only-read kept second e e1 read' (first.reads d) sound';
    newer = λ same honest honest'. (newer_of cause same honest honest', read.only_read honest, read'.only_read honest');
  }
    where
      cause_of : IsNotCompared first second d e d1 e1 fault → RefusesFor kept first second d e d1 e1 fault
      cause_of (inl is) = subst (RefusesFor kept first second d e d1 e1) (sym is.0) is.1
      cause_of (inr (inl is)) = subst (RefusesFor kept first second d e d1 e1) (sym is.0) is.1
      cause_of (inr (inr is)) = subst (RefusesFor kept first second d e d1 e1) (sym is.0) is.1

      newer_of : IsNotCompared first second d e d1 e1 fault → fault ≡ SecondNewer → first.honest d → second.honest e
          → epoch_in (first.reads d) < epoch_in (second.reads e)
      newer_of (inl is) same honest honest' = is.1 honest honest'
      newer_of (inr (inl is)) same honest honest' = let never = sym is.0 ∙ same in absurd (cc)
      newer_of (inr (inr is)) same honest honest' = let never = sym is.0 ∙ same in absurd (cc)
