use Rattle.std.proofs.Common.{Ok, [], ◌∷◌, true, ◌∙◌, sym, ap, subst, arith}
use Rattle.session_store.specs.Value.{StoreValue, IsStore}
use Rattle.session_store.specs.Store.{Continues}
use Rattle.session_store.proofs.CallLaws.{continues_begins}
use Rattle.sector_disk.specs.Disk.{one_more}
use Rattle.session_store.proofs.RecordLemmas.{WritesRecord, record-store, record-continues, record_fault-continues, record-view, fault-view, refused-view, after_submit-record, after_failed-record, room-record, room-some}
use Rattle.session_store.proofs.store.Store.submit_record.Goals as goal

pub returns-in-Err-clause-answer : goal.returns-in-Err-clause-answer
returns-in-Err-clause-answer g c =
    let step = ap (λ v. g.K.Kept.kept.step v.state c.args.action.now) (sym c.self.view_is) ∙ c.in-Err.ensures.step in (
      (c.requires.works, c.requires.batch, room-some c.args.self.now c.requires.room),
      step,
      refused-view _ c.args.self.now _ c.self.view_is c.in-Err.ensures.refused,
    )

pub returns-in-Err-clause-continues : goal.returns-in-Err-clause-continues
returns-in-Err-clause-continues g c =
    subst (Continues g.K.Kept.kept g.D.SectorDisk.disk c.args.self.now [])
    (sym (refused-view _ c.args.self.now _ c.self.view_is c.in-Err.ensures.refused))
    (continues_begins g.K.Kept.kept g.D.SectorDisk.disk c.args.self.now)

pub invariant_of-self-in-Ok-write_record : goal.invariant_of-self-in-Ok-write_record
invariant_of-self-in-Ok-write_record g c =
    let kept = g.K.Kept.kept in
    let disk = g.D.SectorDisk.disk in
    let old : StoreValue g.row.D.Denot g.row.K.Denot g.row.K-Action.Denot = c.args.self.now in
    let store : IsStore kept disk old = rw c.self.view_is at c.self.invariant in
    let accepted = ap (λ v. kept.step v.state c.args.action.now) (sym c.self.view_is) ∙ c.in-Ok.ensures.step in
    let count = c.write_record.ensures.call.called.count ∙ ap (λ v. disk.count v.disk) c.self.view_is in
    subst (IsStore kept disk) (sym (record-view _ old c.write_record.new.disk c.args.action.now c.step.new.self _ c.self.view_is c.push.ensures.items))
    (record-store kept disk old c.args.action.now c.step.new.self store accepted c.write_record.new.disk old.failed count c.requires.batch c.requires.room)

pub invariant_of-self-in-Err-write_record : goal.invariant_of-self-in-Err-write_record
invariant_of-self-in-Err-write_record g c =
    let kept = g.K.Kept.kept in
    let disk = g.D.SectorDisk.disk in
    let old : StoreValue g.row.D.Denot g.row.K.Denot g.row.K-Action.Denot = c.args.self.now in
    let store : IsStore kept disk old = rw c.self.view_is at c.self.invariant in
    let accepted = ap (λ v. kept.step v.state c.args.action.now) (sym c.self.view_is) ∙ c.in-Ok.ensures.step in
    let count = c.write_record.ensures.call.called.count ∙ ap (λ v. disk.count v.disk) c.self.view_is in
    subst (IsStore kept disk) (sym (fault-view _ old c.write_record.new.disk c.args.action.now c.step.new.self _ c.self.view_is c.push.ensures.items))
    (record-store kept disk old c.args.action.now c.step.new.self store accepted c.write_record.new.disk true count c.requires.batch c.requires.room)

pub returns-in-Ok-write_record-clause-answer : goal.returns-in-Ok-write_record-clause-answer
returns-in-Ok-write_record-clause-answer g c =
    let old : StoreValue g.row.D.Denot g.row.K.Denot g.row.K-Action.Denot = c.args.self.now in
    let accepted = ap (λ v. g.K.Kept.kept.step v.state c.args.action.now) (sym c.self.view_is) ∙ c.in-Ok.ensures.step in
    let view = record-view _ old c.write_record.new.disk c.args.action.now c.step.new.self _ c.self.view_is c.push.ensures.items in (
      (c.requires.works, c.requires.batch, room-some old c.requires.room),
      accepted,
      view ∙ sym (after_submit-record old c.args.action.now c.step.new.self c.write_record.new.disk c.requires.room),
      (room-record old _ c.requires.room (ap (λ v. v.epoch) view) (ap (λ v. v.records) view)).1,
    )

pub returns-in-Ok-write_record-clause-continues : goal.returns-in-Ok-write_record-clause-continues
returns-in-Ok-write_record-clause-continues g c =
    let kept = g.K.Kept.kept in
    let disk = g.D.SectorDisk.disk in
    let a = c.args.action.now in
    let old : StoreValue g.row.D.Denot g.row.K.Denot g.row.K-Action.Denot = c.args.self.now in
    let store : IsStore kept disk old = rw c.self.view_is at c.self.invariant in
    let accepted = ap (λ v. kept.step v.state a) (sym c.self.view_is) ∙ c.in-Ok.ensures.step in
    let call = subst (WritesRecord kept disk a c.write_record.new.disk (Ok c.in-Ok-write_record.field-0)) c.self.view_is c.in-Ok-write_record.ensures.call in
    subst (Continues kept disk old (a ∷ [])) (sym (record-view _ old c.write_record.new.disk a c.step.new.self _ c.self.view_is c.push.ensures.items))
    (record-continues kept disk old a c.step.new.self store accepted g.met.K.Kept.lawful c.write_record.new.disk c.in-Ok-write_record.field-0
    c.requires.works c.requires.room c.write_record.ensures.action call)

pub returns-in-Err-write_record-clause-answer : goal.returns-in-Err-write_record-clause-answer
returns-in-Err-write_record-clause-answer g c =
    let disk = g.D.SectorDisk.disk in
    let old : StoreValue g.row.D.Denot g.row.K.Denot g.row.K-Action.Denot = c.args.self.now in
    let accepted = ap (λ v. g.K.Kept.kept.step v.state c.args.action.now) (sym c.self.view_is) ∙ c.in-Ok.ensures.step in
    let view = fault-view _ old c.write_record.new.disk c.args.action.now c.step.new.self _ c.self.view_is c.push.ensures.items in
    let faults = c.in-Err-write_record.ensures.call.called.faults_err ∙ ap (λ v. one_more (disk.faults v.disk)) c.self.view_is in (
      (c.requires.works, c.requires.batch, room-some old c.requires.room),
      accepted,
      view ∙ sym (after_failed-record old c.args.action.now c.step.new.self c.write_record.new.disk c.requires.room),
      omega (arith, faults),
    )

pub returns-in-Err-write_record-clause-continues : goal.returns-in-Err-write_record-clause-continues
returns-in-Err-write_record-clause-continues g c =
    let kept = g.K.Kept.kept in
    let disk = g.D.SectorDisk.disk in
    let a = c.args.action.now in
    let old : StoreValue g.row.D.Denot g.row.K.Denot g.row.K-Action.Denot = c.args.self.now in
    let store : IsStore kept disk old = rw c.self.view_is at c.self.invariant in
    let accepted = ap (λ v. kept.step v.state a) (sym c.self.view_is) ∙ c.in-Ok.ensures.step in
    let call = subst (WritesRecord kept disk a c.write_record.new.disk c.write_record.result) c.self.view_is c.write_record.ensures.call in
    subst (Continues kept disk old (a ∷ [])) (sym (fault-view _ old c.write_record.new.disk a c.step.new.self _ c.self.view_is c.push.ensures.items))
    (record_fault-continues kept disk old a c.step.new.self store accepted g.met.K.Kept.lawful c.write_record.new.disk c.write_record.result
    c.requires.works c.requires.room c.write_record.ensures.action call)

pub invariant_of-self : goal.invariant_of-self
invariant_of-self g c = rw c.in-Err.ensures.refused c.self.invariant

pub push-requires : goal.push-requires
push-requires g c = let few = rw (← c.self.view_is) at c.requires.batch in omega (arith, few)

pub overflow_add-self : goal.overflow_add-self
overflow_add-self g c = let few = rw (← c.self.view_is) at c.requires.room in omega (arith, few)

pub write_record-requires-clause-sectors : goal.write_record-requires-clause-sectors
write_record-requires-clause-sectors g c = c.self.invariant.large

pub write_record-requires-clause-room : goal.write_record-requires-clause-room
write_record-requires-clause-room g c = rw (← c.self.view_is) at c.requires.room

pub returns-in-Ok-write_record-clause-no_fault : goal.returns-in-Ok-write_record-clause-no_fault
returns-in-Ok-write_record-clause-no_fault g c = rw (← c.self.view_is) c.in-Ok-write_record.ensures.call.called.faults_ok
