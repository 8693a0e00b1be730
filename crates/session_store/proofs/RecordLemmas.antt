-- What the writing of a record does to a store.
use Rattle.std.proofs.Common.{◌≡◌, ◌<◌, ◌+◌, ◌-◌, ◌^◌, ◌==◌, ℕ, List, [], ◌∷◌, ◌++◌, length, Some, Result, Ok, Bool, true, false, ⊎_elim, refl, sym, ap, subst, ◌∙◌, arith, length-append}
use Rattle.sector_disk.specs.Disk.{Image, Disk}
use Rattle.sector_disk.specs.Calls.{WriteCall}
use Rattle.sector_disk.proofs.CallLaws.{write_here, write_elsewhere}
use Rattle.sector_disk.specs.Runs.{EveryMoment}
use Rattle.sector_disk.proofs.RunLaws.{begins, goes_on, now_has, write_is, remains, remains_on}
use Rattle.session_store.specs.Keeping.{Keeping, IsLawful, fold}
use Rattle.session_store.specs.Form.{record_sector, entry_in}
use Rattle.session_store.specs.declared.disk_format.DiskFormat.TheVariants.{Two}
use Rattle.session_store.specs.declared.reading.Entry.TheVariants.{Holds}
use Rattle.session_store.specs.Base.{IsSettled, HoldsAll, StandsForPrefix}
use Rattle.session_store.specs.Epochs.{IsOfEpochs}
use Rattle.session_store.specs.Value.{StoreValue, IsStore}
use Rattle.session_store.specs.Store.{IsSoundStore, Continues}
use Rattle.session_store.specs.Answers.{after_fault, with_record, with_action, room, after_snapshot, after_submit, after_failed_submit}
use Rattle.std.proofs.lemmas.Bool.{cond-true, cond-false, eq-eqb, ne_eqb}
use Rattle.session_store.proofs.FormLemmas.{entry_in-record}
use Rattle.session_store.proofs.BaseLemmas.{settled-stands, settled-more, settled-written}
use Rattle.session_store.proofs.AgeLemmas.{has_epoch-is, settled-epoch, epochs-begin, ages-on}
use Rattle.session_store.proofs.CallLaws.{prefix-longer}
use Rattle.session_store.proofs.StoreLemmas.{fold-more, holds_all-more, fault-sound, continues_none}

module _ {D S A R : Type 0} (kept : Keeping S A R) (disk : Disk D) (old : StoreValue D S A) (a : A) (s : S)
    (store : IsStore kept disk old) (accepted : kept.step old.state a ≡ Ok s) where
  -- the actions that are pending then
  abbrev pub more : List A
  more = old.pending ++ a ∷ []

  pub more-long : length more ≡ length old.pending + 1
  more-long = length-append old.pending (a ∷ [])

  pub more-made : fold kept old.base more ≡ Some s
  more-made = fold-more kept old.pending old.base old.state s a store.accepted accepted

  -- the store with the action, its record counted or not, is one
  pub record-store : (new : D) (stopped : Bool) → disk.count new ≡ disk.count old.disk → length old.pending < 64 → old.records < 1024
      → IsStore kept disk (record old { disk = new; pending = more; state = s; records = old.records + 1; failed = stopped })
  record-store new stopped count short few = record {
    large = omega (arith, count, store.large);
    accepted = more-made;
    few = omega (arith, more-long, short);
    recorded = omega (arith, more-long, store.recorded);
    records = omega (arith, few);
    some_epoch = store.some_epoch;
    epoch = store.epoch;
  }

  pub action-store : length old.pending < 64 → old.records ≡ 1024 → IsStore kept disk (with_action old a s)
  action-store short full = record {
    large = store.large;
    accepted = more-made;
    few = omega (arith, more-long, short);
    recorded = omega (arith, more-long, short, full);
    records = store.records;
    some_epoch = store.some_epoch;
    epoch = store.epoch;
  }

  module _ {T E : Type 0} (lawful : IsLawful kept) (new : D) (result : Result T E) (works : old.failed ≡ false)
      (few : old.records < 1024) (is_action : kept.IsAction a)
      (call : WriteCall disk old.disk new (1024 + old.records) (record_sector kept old.epoch old.records a) result) where
    -- every image is settled with the action pending
    record-settled : IsSoundStore kept disk old → (n : ℕ) → n + length old.pending ≡ old.records
        → (c : Image) → disk.may_leave new c → IsSettled kept old.epoch old.base n more c
    record-settled sound n count c left =
        let settled = (sound.working works).settled n count in
        ⊎_elim
        (λ was. settled-more kept old.epoch n old.base old.pending a c (omega (arith, count, few)) (settled c was))
        (λ d. subst (IsSettled kept old.epoch old.base n more) (sym d.2)
        (settled-written kept lawful old.epoch n old.records old.base old.pending a d.0 (sym count) few store.epoch is_action (settled d.0 d.1)))
        (write_is disk old.disk new (1024 + old.records) (record_sector kept old.epoch old.records a) result (call.writes sound.honest) c left)

    pub record-moments : IsSoundStore kept disk old → EveryMoment disk old.disk new (StandsForPrefix kept old.base more)
    record-moments sound =
        let P = StandsForPrefix kept old.base more in
        let n = old.records - length old.pending in
        let count : n + length old.pending ≡ old.records = omega (arith, store.recorded) in
        goes_on disk old.disk old.disk new P result
        (begins disk old.disk P sound.honest (λ c left. prefix-longer kept old.base old.pending (a ∷ []) c (sound.images c left)))
        call.called
        (λ c left. settled-stands kept old.epoch n old.base s more c (omega (arith, more-long, count, few)) more-made
        (record-settled sound n count c left))

    pub record-epochs : old.failed ≡ false → IsSoundStore kept disk old
        → EveryMoment disk old.disk new (IsOfEpochs old.epoch (old.epoch + 1))
    record-epochs still sound =
        let n = old.records - length old.pending in
        goes_on disk old.disk old.disk new (IsOfEpochs old.epoch (old.epoch + 1)) result
        (epochs-begin kept disk old (old.epoch + 1) (omega arith) still sound) call.called
        (λ c left.
        let settled = record-settled sound n (omega (arith, store.recorded)) c left in
        let is = has_epoch-is old.epoch c (settled-epoch kept old.epoch n old.base more c settled) in
        (omega (arith, is), omega (arith, is)))

    pub record_fault-continues : Continues kept disk old (a ∷ []) (after_fault (with_record old a s) new)
    record_fault-continues =
        continues_none kept disk old (after_fault (with_record old a s) new) (a ∷ []) refl refl
        (remains_on disk old.disk old.disk new result (remains disk old.disk) call.called)
        (λ sound. fault-sound kept disk (with_record old a s) new (call.called.stays_honest sound.honest)
        (now_has disk old.disk new (StandsForPrefix kept old.base more) (record-moments sound)))
        record-moments
        (ages-on kept disk old (after_fault (with_record old a s) new) works (omega arith) record-epochs)

  -- a record that was written
  module _ {T E : Type 0} (lawful : IsLawful kept) (new : D) (x : T) (works : old.failed ≡ false)
      (few : old.records < 1024) (is_action : kept.IsAction a)
      (call : WriteCall {T = T} {E = E} disk old.disk new (1024 + old.records) (record_sector kept old.epoch old.records a) (Ok x)) where
    record-written : IsSoundStore kept disk old → (n : ℕ) → n + length old.pending ≡ old.records
        → HoldsAll kept old.epoch n more (disk.reads new)
    record-written sound n count =
        let bytes = record_sector kept old.epoch old.records a in
        let at = 1024 + old.records in
        let did = call.writes sound.honest in
        let holds : entry_in kept Two old.epoch old.records (disk.reads new at) ≡ Holds a
        = rw (write_here disk old.disk new at bytes x did) (entry_in-record kept lawful old.epoch old.records a is_action) in
        holds_all-more kept old.pending old.epoch n old.records a (disk.reads old.disk) (disk.reads new) (sym count)
        (λ k other. write_elsewhere disk old.disk new at bytes (Ok x) did k other) holds
        ((sound.working works).written n count)

    record-sound : IsSoundStore kept disk old → IsSoundStore kept disk (record (with_record old a s) { disk = new })
    record-sound sound = record {
      honest = call.called.stays_honest sound.honest;
      images = now_has disk old.disk new (StandsForPrefix kept old.base more)
          (record-moments lawful new (Ok x) works few is_action call sound);
      working = λ still. record {
        settled = λ n count. record-settled lawful new (Ok x) works few is_action call sound n (omega (arith, count, more-long));
        written = λ n count. record-written sound n (omega (arith, count, more-long));
        of_epoch = λ c left.
            let n = old.records - length old.pending in
            settled-epoch kept old.epoch n old.base more c
            (record-settled lawful new (Ok x) works few is_action call sound n (omega (arith, store.recorded)) c left);
      };
    }

    pub record-continues : Continues kept disk old (a ∷ []) (record (with_record old a s) { disk = new })
    record-continues =
        continues_none kept disk old (record (with_record old a s) { disk = new }) (a ∷ []) refl refl
        (remains_on disk old.disk old.disk new (Ok x) (remains disk old.disk) call.called) record-sound
        (record-moments lawful new (Ok x) works few is_action call)
        (ages-on kept disk old (record (with_record old a s) { disk = new }) works (omega arith)
        (record-epochs lawful new (Ok x) works few is_action call))

-- the room for actions falls by one with each
pub room-record : {D S A : Type 0} (v w : StoreValue D S A) → v.records < 1024 → w.epoch ≡ v.epoch → w.records ≡ v.records + 1
    → (0 < room v) × (room w + 1 ≡ room v)
unfolding room
room-record v w few epochs records = (omega (arith, few), omega (arith, few, epochs, records))

pub room-snapshot : {D S A : Type 0} (v w : StoreValue D S A) → v.records ≡ 1024 → v.epoch < 2 ^ 64 - 1
    → w.epoch ≡ v.epoch + 1 → w.records ≡ 0 → (0 < room v) × (room w + 1 ≡ room v)
unfolding room
room-snapshot v w full small epochs records =
    (omega (arith, full, small), omega (arith, full, small, epochs, records))

pub room-spent : {D S A : Type 0} (v : StoreValue D S A) → v.records ≡ 1024 → v.epoch ≡ 2 ^ 64 - 1 → room v ≡ 0
unfolding room
room-spent v full last = omega (arith, full, last)

pub room-some : {D S A : Type 0} (v : StoreValue D S A) → v.records < 1024 → 0 < room v
unfolding room
room-some v few = omega (arith, few)

pub room-epoch : {D S A : Type 0} (v : StoreValue D S A) → v.epoch < 2 ^ 64 - 1 → 0 < room v
unfolding room
room-epoch v small = omega (arith, small)

module _ {D S A : Type 0} where
  -- the store seen after a push, a count and a write
  pub record-view : (v old : StoreValue D S A) (d : D) (a : A) (t : S) (pending : List A) → v ≡ old → pending ≡ v.pending ++ a ∷ []
      → record v { disk = d; state = t; pending = pending; records = v.records + 1 } ≡ record (with_record old a t) { disk = d }
  record-view v old d a t pending same pushed =
      let step : record v { disk = d; state = t; pending = pending; records = v.records + 1 } ≡ record (with_record v a t) { disk = d }
      = λ i. record v { disk = d; state = t; pending = pushed i; records = v.records + 1 } in
      step ∙ ap (λ (x : StoreValue D S A). record (with_record x a t) { disk = d }) same

  pub fault-view : (v old : StoreValue D S A) (d : D) (a : A) (t : S) (pending : List A) → v ≡ old → pending ≡ v.pending ++ a ∷ []
      → record v { disk = d; state = t; pending = pending; records = v.records + 1; failed = true } ≡ after_fault (with_record old a t) d
  fault-view v old d a t pending same pushed =
      let step : record v { disk = d; state = t; pending = pending; records = v.records + 1; failed = true } ≡ after_fault (with_record v a t) d
      = λ i. record v { disk = d; state = t; pending = pushed i; records = v.records + 1; failed = true } in
      step ∙ ap (λ (x : StoreValue D S A). after_fault (with_record x a t) d) same

  pub action-view : (v old : StoreValue D S A) (a : A) (t : S) (pending : List A) → v ≡ old → pending ≡ v.pending ++ a ∷ []
      → record v { state = t; pending = pending } ≡ with_action old a t
  action-view v old a t pending same pushed =
      let step : record v { state = t; pending = pending } ≡ with_action v a t = λ i. record v { state = t; pending = pushed i } in
      step ∙ ap (λ (x : StoreValue D S A). with_action x a t) same

  -- a refused step leaves the store
  pub refused-view : (v old : StoreValue D S A) (t : S) → v ≡ old → t ≡ v.state → record v { state = t } ≡ old
  refused-view v old t same unchanged =
      let step : record v { state = t } ≡ v = λ i. record v { state = unchanged i } in step ∙ same

  -- which store `submit` leaves
  pub after_submit-record : (v : StoreValue D S A) (a : A) (t : S) (d : D) → v.records < 1024
      → after_submit v a t d ≡ record (with_record v a t) { disk = d }
  after_submit-record v a t d few = cond-false (v.records == 1024) _ _ (ne_eqb v.records 1024 (λ full. omega (arith, full, few)))

  pub after_submit-full : (v : StoreValue D S A) (a : A) (t : S) (d : D) → v.records ≡ 1024
      → after_submit v a t d ≡ after_snapshot (with_action v a t) d
  after_submit-full v a t d full = cond-true (v.records == 1024) _ _ (eq-eqb v.records 1024 full)

  pub after_failed-record : (v : StoreValue D S A) (a : A) (t : S) (d : D) → v.records < 1024
      → after_failed_submit v a t d ≡ after_fault (with_record v a t) d
  after_failed-record v a t d few = cond-false (v.records == 1024) _ _ (ne_eqb v.records 1024 (λ full. omega (arith, full, few)))

  pub after_failed-full : (v : StoreValue D S A) (a : A) (t : S) (d : D) → v.records ≡ 1024
      → after_failed_submit v a t d ≡ after_fault (with_action v a t) d
  after_failed-full v a t d full = cond-true (v.records == 1024) _ _ (eq-eqb v.records 1024 full)

-- the next record of a store is written
abbrev pub WritesRecord : {D S A R T E : Type 0} → Keeping S A R → Disk D → A → D → Result T E → StoreValue D S A → Type 0
WritesRecord kept disk a new result v =
    WriteCall disk v.disk new (1024 + v.records) (record_sector kept v.epoch v.records a) result
