-- Joining a store and a second disk.
use Rattle.std.proofs.Common.{◌≡◌, ◌≢◌, ◌⊎◌, ◌<◌, ◌^◌, ℕ, List, [], ◌++◌, Bool, Some, None, true, false, inl, inr, refl, sym, ap, subst, ◌∙◌, arith}
use Rattle.std.proofs.lemmas.Bool.{cases_Bool}
use Rattle.sector_disk.specs.Disk.{Image, Disk, Rose}
use Rattle.sector_disk.specs.Runs.{EveryMoment, Remains}
use Rattle.sector_disk.proofs.RunLaws.{begins, weakens, joins, remains, remains_joins}
use Rattle.session_store.specs.Keeping.{Keeping, IsLawful}
use Rattle.session_store.specs.Form.{place}
use Rattle.session_store.specs.Base.{HasEpoch, StandsForPrefix}
use Rattle.session_store.specs.Snapshot.{NothingLater}
use Rattle.session_store.specs.Sound.{IsSoundDisk}
use Rattle.session_store.specs.Opening.{IsStillSound}
use Rattle.session_store.specs.Copying.{BeginsCopy, CannotPrepare, GoesOn, IsOldOrNew}
use Rattle.session_store.specs.Pair.{IsSide, IsServedPair, IsToldPair, standing_of}
use Rattle.session_store.specs.Settling.{IsSettledPair, IsSettledAs, CannotSettle}
use Rattle.session_store.specs.PairOpening.{CopiesSoundly, Joins, CannotJoin, IsNotJoined}
use Rattle.session_store.specs.ReadFaults.{checkpoint_fault}
use Rattle.session_store.specs.declared.fault.CheckpointFault.{CheckpointFault}
use Rattle.session_store.specs.declared.fault.CheckpointFault.TheVariants.{Failed as CheckpointFailed, EpochsSpent as CheckpointEpochsSpent, Disk as CheckpointDisk}
use Rattle.session_store.specs.declared.fault.StoreFault.{StoreFault}
use Rattle.session_store.specs.declared.fault.StoreFault.TheVariants.{Disk as DiskFailed, TooSmall, NotFormatted, Damaged, EpochsSpent, NoMemory}
use Rattle.session_store.specs.declared.fault.PairFault.TheVariants.{First}
use Rattle.session_store.specs.declared.standing.PairStanding.{PairStanding}
use Rattle.session_store.specs.Value.{StoreValue}
use Rattle.session_store.specs.Store.{Continues}
use Rattle.session_store.proofs.CallLaws.{continues_joins}
use Rattle.session_store.proofs.SnapshotLemmas.{nothing_later}
use Rattle.session_store.proofs.OpenLemmas.{prefix-none}
use Rattle.session_store.proofs.SettlingLemmas.{not_both, none-still}
use Rattle.session_store.proofs.CopyLemmas.{copied-side, copying-moments}

-- a disk that was lost beside one that was too is no pair
no_standing : {P : Type 0} (a b : Bool) (found : PairStanding) → a ≡ true → b ≡ true → standing_of a b ≡ Some found → P
no_standing a b found first second is =
    let never : None ≡ Some found = sym (ap (λ x. standing_of x b) first ∙ ap (standing_of true) second) ∙ is in cc

-- what a sound disk stands for it still stands for
pub still-itself : {D S A R : Type 0} (kept : Keeping S A R) (disk : Disk D) (d : D) → IsSoundDisk kept disk d
    → (c : Image) → disk.may_leave d c → IsStillSound kept (disk.may_leave d) c
still-itself kept disk d sound c left = record {
  in_order = sound.in_order c left;
  state = (sound.stands c left).0;
  stands = (sound.stands c left).1;
  start = c;
  was_there = left;
  stood = (sound.stands c left).1;
}

-- an image of this epoch on a sound disk has nothing of a later one
pub sound-order : {D S A R : Type 0} (kept : Keeping S A R) (disk : Disk D) (d : D) (own : ℕ) → IsSoundDisk kept disk d
    → (c : Image) → disk.may_leave d c → HasEpoch own c → NothingLater own c
sound-order kept disk d own sound c left has =
    subst (λ (e : ℕ). NothingLater e c) has.2 (nothing_later c has.0 has.1 (sound.in_order c left has.0 has.1))

-- a disk that is left as it is
left-alone : {D E S A R : Type 0} (kept : Keeping S A R) (first : Disk D) (second : Disk E) (v : StoreValue D S A) (e : E) (own : ℕ)
    → CopiesSoundly kept first second v e own e
left-alone kept first second v e own below sound has =
    begins second e (IsOldOrNew kept (second.may_leave e) v.state) sound.honest
    (λ c left. inl (still-itself kept second e sound c left))

-- why the first store was not made ready is why the two were not joined
unprepared : {D E S A R : Type 0} (kept : Keeping S A R) (first : Disk D) (second : Disk E) (v v1 : StoreValue D S A) (e : E)
    (fault : StoreFault) → CannotPrepare first v v1 fault → CannotJoin kept first second v e v1.disk e (First fault)
unprepared {D} {E} {S} {A} {R} kept first second v v1 e NoMemory why = (ap (λ (x : StoreValue D S A). x.disk) why, refl)
unprepared kept first second v v1 e EpochsSpent why = inl why.0
unprepared kept first second v v1 e DiskFailed why = why
unprepared kept first second v v1 e TooSmall why = absurd why
unprepared kept first second v v1 e NotFormatted why = absurd why
unprepared kept first second v v1 e (Damaged at) why = absurd why

-- the first store was not made ready, or there was no memory
pub not-prepared : {D E S A R : Type 0} (kept : Keeping S A R) (first : Disk D) (second : Disk E) (v v1 : StoreValue D S A) (d1 : D)
    (e : E) (own : ℕ) (fault : StoreFault) → Continues kept first v [] v1
    → (v.failed ≡ false → CannotPrepare first v v1 fault) → d1 ≡ v1.disk
    → IsNotJoined kept first second v e own d1 e (First fault)
not-prepared {D} {E} {S} {A} {R} kept first second v v1 d1 e own fault call why is =
    subst (λ (x : D). IsNotJoined kept first second v e own x e (First fault)) (sym is) (record {
      other = λ same. cc;
      first_remains = call.remains;
      first_moments = call.any_moment;
      second_remains = remains second e;
      second_moments = left-alone kept first second v e own;
      cause = λ works. unprepared kept first second v v1 e fault (why works);
    })

module _ {D E S A R : Type 0} (kept : Keeping S A R) (lawful : IsLawful kept) (first : Disk D) (second : Disk E)
    (v v1 v2 : StoreValue D S A) (e : E) (own : ℕ) (s : S) (w1 w2 : StoreValue E S A)
    (call : Continues kept first v [] v1) (same_failed : v1.failed ≡ v.failed) (same_state : v1.state ≡ v.state)
    (apart : place v1.epoch ≢ place own) (begun : BeginsCopy kept second e v1.epoch s w1) (is_state : s ≡ v1.state)
    (small : v1.epoch < 2 ^ 64) (settling : Continues kept first v1 [] v2) (copying : Continues kept second w1 [] w2) where
  copy-side : own < v.epoch → second.honest e → ((c : Image) → second.may_leave e c → NothingLater own c) → IsSide kept second w1 v1.state
  copy-side below honest nothing =
      let rises = call.ages.rises in
      subst (IsSide kept second w1) is_state
      (copied-side kept lawful second e own v1.epoch s w1 begun (omega (arith, below, rises)) small honest nothing)

  pub joined-remains : Remains second e w2.disk
  joined-remains = remains_joins second e w1.disk w2.disk (of_copy (cases_Bool w1.failed)) copying.remains
    where
      of_copy : (w1.failed ≡ true) ⊎ (w1.failed ≡ false) → Remains second e w1.disk
      of_copy (inl failed) = (begun.fault failed).1.remains
      of_copy (inr works) = (begun.written works).remains

  -- at every moment it stands for what it stood for or for the state
  pub joined-moments : CopiesSoundly kept first second v e own w2.disk
  joined-moments below sound has =
      let rises = call.ages.rises in
      let start = subst (λ (x : S). EveryMoment second e w1.disk (IsOldOrNew kept (second.may_leave e) x)) (is_state ∙ same_state)
      (copying-moments kept lawful second e own v1.epoch s w1 begun (omega (arith, below, rises)) small sound has apart) in
      of_copy start (cases_Bool w1.failed)
    where
      of_copy : EveryMoment second e w1.disk (IsOldOrNew kept (second.may_leave e) v.state)
          → (w1.failed ≡ true) ⊎ (w1.failed ≡ false) → EveryMoment second e w2.disk (IsOldOrNew kept (second.may_leave e) v.state)
      of_copy start (inl failed) =
          subst (λ (x : StoreValue E S A). EveryMoment second e x.disk (IsOldOrNew kept (second.may_leave e) v.state))
          (sym (copying.ages.rests failed)) start
      of_copy start (inr works) =
          let side = copy-side below sound.honest (λ c left. sound-order kept second e own sound c left (has c left)) in
          let based = ap (λ (x : StoreValue E S A). x.base) begun.is in
          let none = ap (λ (x : StoreValue E S A). x.pending) begun.is in
          joins second e w1.disk w2.disk (IsOldOrNew kept (second.may_leave e) v.state) start
          (weakens second w1.disk w2.disk (StandsForPrefix kept w1.base (w1.pending ++ [])) (copying.any_moment (side.sound works))
          (IsOldOrNew kept (second.may_leave e) v.state)
          (λ c from.
          let stands = subst (λ (x : S). StandsForPrefix kept x [] c) (based ∙ is_state ∙ same_state)
          (subst (λ (xs : List A). StandsForPrefix kept w1.base (xs ++ []) c) none from) in
          inr (prefix-none kept second v.state c stands, stands.in_order)))

  -- why the pair was not settled is why it was not joined
  unsettled : GoesOn first v v1 → (fault : CheckpointFault) → CannotSettle first second v1 w1 v2 w2 fault → v.failed ≡ false
      → CannotJoin kept first second v e v2.disk w2.disk (First (checkpoint_fault fault))
  unsettled on CheckpointFailed why works = not_both v1 why.0.0 (same_failed ∙ works)
  unsettled on CheckpointDisk why works = elim why.0 [
    | inl one ↦ not_both v1 one.0.0 (same_failed ∙ works)
    | inr one ↦ subst (λ (n : ℕ). Rose n (first.faults v2.disk)) on.1 one.1
  ]
  unsettled on CheckpointEpochsSpent why works = elim why.0 [
    | inl one ↦ not_both v1 one.0.0 (same_failed ∙ works)
    | inr one ↦
        let spent = one.1 in
        let epochs = ap (λ (x : StoreValue E S A). x.epoch) begun.is in
        let near = on.0 in
        inr (
          omega (arith, spent, epochs, near),
          subst (λ (x : StoreValue E S A). Rose (second.faults e) (second.faults x.disk)) (sym why.2) (begun.fault one.0.0).1.fault,
        )
  ]

  -- the pair was not settled
  pub not-settled : (d2 : D) (e2 : E) (fault : CheckpointFault) (told : StoreFault) → told ≡ checkpoint_fault fault
      → GoesOn first v v1 → CannotSettle first second v1 w1 v2 w2 fault → d2 ≡ v2.disk → e2 ≡ w2.disk
      → IsNotJoined kept first second v e own d2 e2 (First told)
  not-settled d2 e2 fault told told_is on why is is' =
      let all = continues_joins kept first v v1 v2 [] [] call settling in
      subst (λ (x : D). IsNotJoined kept first second v e own x e2 (First told)) (sym is)
      (subst (λ (y : E). IsNotJoined kept first second v e own v2.disk y (First told)) (sym is') (record {
        other = λ same. cc;
        first_remains = all.remains;
        first_moments = all.any_moment;
        second_remains = joined-remains;
        second_moments = joined-moments;
        cause = λ works. subst (λ (f : StoreFault). CannotJoin kept first second v e v2.disk w2.disk (First f)) (sym told_is)
            (unsettled on fault why works);
      }))

  module _ (found : PairStanding) (standing : IsSettledAs v1 w1 v2 w2 found)
      (told : (x : S) → IsServedPair kept first second v1 w1 x → IsToldPair kept first second v2 w2 x)
      (rests : IsSettledPair v1 w1 → v2 ≡ v1) (rests' : IsSettledPair v1 w1 → w2 ≡ w1) where
    still-works : v.failed ≡ false → v2.failed ≡ false
    still-works works = of_copy (cases_Bool w1.failed) (cases_Bool v2.failed)
      where
        of_copy : (w1.failed ≡ true) ⊎ (w1.failed ≡ false) → (v2.failed ≡ true) ⊎ (v2.failed ≡ false) → v2.failed ≡ false
        of_copy (inr copied) o =
            ap (λ (x : StoreValue D S A). x.failed) (rests (inl (same_failed ∙ works, copied))) ∙ same_failed ∙ works
        of_copy (inl lost) (inr still) = still
        of_copy (inl lost) (inl failed) =
            no_standing v2.failed w2.failed found failed (ap (λ (x : StoreValue E S A). x.failed) (copying.ages.rests lost) ∙ lost) standing.0

    -- the copy was lost as its snapshot was written
    copy-lost : v.failed ≡ false → w2.failed ≡ true → Rose (second.faults e) (second.faults w2.disk)
    copy-lost works lost = of_copy (cases_Bool w1.failed)
      where
        of_copy : (w1.failed ≡ true) ⊎ (w1.failed ≡ false) → Rose (second.faults e) (second.faults w2.disk)
        of_copy (inl failed) =
            subst (λ (x : StoreValue E S A). Rose (second.faults e) (second.faults x.disk)) (sym (copying.ages.rests failed))
            (begun.fault failed).1.fault
        of_copy (inr copied) =
            let same = rests' (inl (same_failed ∙ works, copied)) in
            not_both w1 (sym (ap (λ (x : StoreValue E S A). x.failed) same) ∙ lost) copied

    pub joins-from : Joins kept first second v e own v2 w2
    joins-from = record {
      continues = continues_joins kept first v v1 v2 [] [] call settling;
      works = still-works;
      state = standing.1 ∙ same_state;
      remains = joined-remains;
      told = λ can.
          subst (IsToldPair kept first second v2 w2) (sym standing.1)
          (told v1.state (record {
            in_step = record {
              first_side = record {
                honest = call.remains.stays_honest can.sound.honest;
                sound = λ works. call.sound can.sound;
                state = λ works. refl;
                within = λ failed. not_both v1 failed (same_failed ∙ can.works);
              };
              second_side = copy-side can.below can.honest can.nothing_later;
            };
            first_none = λ works. none-still kept first v v1 call can.none_pending;
            second_none = λ works. ap (λ (x : StoreValue E S A). x.pending) begun.is;
          }));
      moments = joined-moments;
      lost = copy-lost;
      none_pending = λ none. (
        none-still kept first v1 v2 settling (none-still kept first v v1 call none),
        none-still kept second w1 w2 copying (ap (λ (x : StoreValue E S A). x.pending) begun.is),
      );
    }
