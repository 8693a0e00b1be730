-- Stores that fail with their disk.
use Rattle.std.proofs.Common.{◌≡◌, ◌∙◌, Bool, true, false, Result, Ok, Err, OnOk, inl, inr, refl, sym, ap, subst}
use Rattle.std.specs.Prelude.{◌==◌, if◌then◌else◌}
use Rattle.std.proofs.lemmas.Bool.{true≢false}
use Rattle.sector_disk.specs.Disk.{Disk, Rose}
use Rattle.session_store.specs.Answers.{Submits, Confirms, after_snapshot, with_action, with_record}
use Rattle.session_store.specs.Value.{StoreValue}
use Rattle.session_store.specs.declared.fault.SubmitFault.{SubmitFault}
use Rattle.session_store.specs.declared.fault.SubmitFault.TheVariants as submit
use Rattle.session_store.specs.declared.fault.ConfirmFault.{ConfirmFault}
use Rattle.session_store.specs.declared.fault.ConfirmFault.TheVariants as confirm
use Rattle.session_rules.specs.declared.action.Action.{Action}
use Rattle.session_rules.specs.declared.refused.Refused.{Refused as SessionRefused}
use Rattle.bridge_session.specs.SessionKeeping.{session_keeping}
use Rattle.session_rules.specs.State.{SessionValue}
use Rattle.table_server.specs.Faulted.{FailsWithDisk}
use Rattle.table_server.proofs.TakingLemmas.{failed_either}

-- with a record or with a snapshot, the store that took an action works where it did
failed_as_before : {D : Type 0} (full : Bool) (v w : StoreValue D SessionValue Action) (d : D) → v.failed ≡ w.failed
    → (if full then after_snapshot v d else record w { disk = d }).failed ≡ w.failed
failed_as_before true v w d same = same
failed_as_before false v w d same = refl

module _ {D : Type 0} (disk : Disk D) where
  -- where the store is the same
  pub no_fault : (store : StoreValue D SessionValue Action) → FailsWithDisk disk store store
  no_fault store = inl (record { faults = refl; failed = refl })

  pub same_store : (old new : StoreValue D SessionValue Action) → new ≡ old → FailsWithDisk disk old new
  same_store old new same = subst (λ (v : StoreValue D SessionValue Action). FailsWithDisk disk old v) (sym same) (no_fault old)

  -- over some calls, and then over others
  pub fails_on : (old mid new : StoreValue D SessionValue Action) → FailsWithDisk disk old mid → FailsWithDisk disk mid new
      → FailsWithDisk disk old new
  fails_on old mid new (inl a) (inl b) = inl (record { faults = b.faults ∙ a.faults; failed = b.failed ∙ a.failed })
  fails_on old mid new (inl a) (inr b) = inr (record {
    faults = subst (λ n. Rose n (disk.faults new.disk)) a.faults b.faults;
    worked = sym a.failed ∙ b.worked;
    failed = b.failed;
  })
  fails_on old mid new (inr a) (inl b) = inr (record {
    faults = subst (λ n. Rose (disk.faults old.disk) n) (sym b.faults) a.faults;
    worked = a.worked;
    failed = b.failed ∙ a.failed;
  })
  fails_on old mid new (inr a) (inr b) = absurd (true≢false (sym a.failed ∙ b.worked))

  -- a store that works met no fault
  pub met_none : (old new : StoreValue D SessionValue Action) → FailsWithDisk disk old new → new.failed ≡ false
      → disk.faults new.disk ≡ disk.faults old.disk
  met_none old new (inl none) works = none.faults
  met_none old new (inr met) works = absurd (true≢false (sym met.failed ∙ works))

  -- one that worked and has failed met a fault
  pub met_one : (old new : StoreValue D SessionValue Action) → FailsWithDisk disk old new → old.failed ≡ false → new.failed ≡ true
      → Rose (disk.faults old.disk) (disk.faults new.disk)
  met_one old new (inl none) worked failed = absurd (true≢false (sym failed ∙ (none.failed ∙ worked)))
  met_one old new (inr met) worked failed = met.faults

  -- as the pending actions are confirmed
  pub confirm_fails : (old new : StoreValue D SessionValue Action) (result : Result (Unit {0}) ConfirmFault)
      → Confirms session_keeping disk old new result → OnOk result (disk.faults new.disk ≡ disk.faults old.disk)
      → FailsWithDisk disk old new
  confirm_fails old new (Ok _) answer none =
      inl (record { faults = none; failed = ap (λ (v : StoreValue D SessionValue Action). v.failed) answer.1 })
  confirm_fails old new (Err confirm.Failed) answer none = same_store old new answer.1
  confirm_fails old new (Err confirm.Disk) answer none = inr (record {
    faults = answer.3;
    worked = answer.0;
    failed = ap (λ (v : StoreValue D SessionValue Action). v.failed) answer.2;
  })

  -- as an action is taken
  pub submit_fails : (old new : StoreValue D SessionValue Action) (action : Action) (result : Result (Unit {0}) (SubmitFault SessionRefused))
      → Submits session_keeping disk old action new result → OnOk result (disk.faults new.disk ≡ disk.faults old.disk)
      → FailsWithDisk disk old new
  submit_fails old new action (Ok _) answer none = inl (record {
    faults = none;
    failed = ap (λ (v : StoreValue D SessionValue Action). v.failed) answer.2
        ∙ failed_as_before (old.records == 1024) (with_action old action new.state) (with_record old action new.state) new.disk refl;
  })
  submit_fails old new action (Err submit.Failed) answer none = same_store old new answer.1
  submit_fails old new action (Err submit.Batch) answer none = same_store old new answer.2
  submit_fails old new action (Err submit.EpochsSpent) answer none = same_store old new answer.3
  submit_fails old new action (Err (submit.Refused refusal)) answer none = same_store old new answer.2
  submit_fails old new action (Err submit.Disk) answer none = inr (record {
    faults = answer.3;
    worked = answer.0.0;
    failed = ap (λ (v : StoreValue D SessionValue Action). v.failed) answer.2
        ∙ failed_either (old.records == 1024) (with_action old action new.state) (with_record old action new.state) new.disk;
  })
