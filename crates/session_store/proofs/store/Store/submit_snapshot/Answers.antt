use Rattle.std.proofs.Common.{◌≡◌, Ok, [], ◌∷◌, ◌∙◌, sym, ap, subst, arith}
use Rattle.sector_disk.specs.Disk.{Rose}
use Rattle.sector_disk.specs.Runs.{Remains}
use Rattle.session_store.specs.Value.{StoreValue, IsStore}
use Rattle.session_store.specs.Answers.{after_submit, after_failed_submit, after_snapshot, after_fault, with_action}
use Rattle.session_store.specs.Store.{Continues}
use Rattle.session_store.specs.Sound.{StandsOnlyFor}
use Rattle.session_store.proofs.CallLaws.{continues_begins}
use Rattle.session_store.proofs.CheckpointLemmas.{SnapshotRuns, SnapshotWritten, snapshot-continues, snapshot_fault-continues, snapshot-stands}
use Rattle.session_store.proofs.RecordLemmas.{action-store, more-made, action-view, refused-view, after_submit-full, after_failed-full, room-snapshot, room-epoch}
use Rattle.session_store.proofs.store.Store.submit_snapshot.Goals as goal

pub returns-in-Err-clause-answer : goal.returns-in-Err-clause-answer
returns-in-Err-clause-answer g c =
    let step = ap (λ v. g.K.Kept.kept.step v.state c.args.action.now) (sym c.self.view_is) ∙ c.in-Err.ensures.step in (
      (c.requires.works, c.requires.batch, room-epoch c.args.self.now c.requires.room),
      step,
      refused-view _ c.args.self.now _ c.self.view_is c.in-Err.ensures.refused,
    )

pub returns-in-Err-clause-continues : goal.returns-in-Err-clause-continues
returns-in-Err-clause-continues g c =
    subst (Continues g.K.Kept.kept g.D.SectorDisk.disk c.args.self.now [])
    (sym (refused-view _ c.args.self.now _ c.self.view_is c.in-Err.ensures.refused))
    (continues_begins g.K.Kept.kept g.D.SectorDisk.disk c.args.self.now)

pub invariant_of-self-in-Ok : goal.invariant_of-self-in-Ok
invariant_of-self-in-Ok g c =
    let kept = g.K.Kept.kept in
    let disk = g.D.SectorDisk.disk in
    let old : StoreValue g.row.D.Denot g.row.K.Denot g.row.K-Action.Denot = c.args.self.now in
    let store : IsStore kept disk old = rw c.self.view_is at c.self.invariant in
    let accepted = ap (λ v. kept.step v.state c.args.action.now) (sym c.self.view_is) ∙ c.in-Ok.ensures.step in
    subst (IsStore kept disk) (sym (action-view _ old c.args.action.now c.step.new.self _ c.self.view_is c.push.ensures.items))
    (action-store kept disk old c.args.action.now c.step.new.self store accepted c.requires.batch c.requires.full)

pub returns-in-Ok-take_snapshot-clause-answer : goal.returns-in-Ok-take_snapshot-clause-answer
returns-in-Ok-take_snapshot-clause-answer g c =
    let a = c.args.action.now in
    let t = c.step.new.self in
    let new = c.take_snapshot.new.self in
    let old : StoreValue g.row.D.Denot g.row.K.Denot g.row.K-Action.Denot = c.args.self.now in
    let accepted = ap (λ v. g.K.Kept.kept.step v.state a) (sym c.self.view_is) ∙ c.in-Ok.ensures.step in
    let view = action-view _ old a t _ c.self.view_is c.push.ensures.items in
    let done : new ≡ after_snapshot (with_action old a t) new.disk = c.in-Ok-take_snapshot.ensures.answer ∙ ap (λ v. after_snapshot v new.disk) view in
    let state : t ≡ new.state = sym (ap (λ v. v.state) done) in (
      (c.requires.works, c.requires.batch, room-epoch old c.requires.room),
      accepted ∙ ap (λ s. Ok s) state,
      subst (λ s. new ≡ after_submit old a s new.disk) state (done ∙ sym (after_submit-full old a t new.disk c.requires.full)),
      (room-snapshot old new c.requires.full c.requires.room (ap (λ v. v.epoch) done) (ap (λ v. v.records) done)).1,
    )

pub returns-in-Ok-take_snapshot-clause-continues : goal.returns-in-Ok-take_snapshot-clause-continues
returns-in-Ok-take_snapshot-clause-continues g c =
    let kept = g.K.Kept.kept in
    let disk = g.D.SectorDisk.disk in
    let a = c.args.action.now in
    let t = c.step.new.self in
    let new = c.take_snapshot.new.self in
    let old : StoreValue g.row.D.Denot g.row.K.Denot g.row.K-Action.Denot = c.args.self.now in
    let store : IsStore kept disk old = rw c.self.view_is at c.self.invariant in
    let accepted = ap (λ v. kept.step v.state a) (sym c.self.view_is) ∙ c.in-Ok.ensures.step in
    let view = action-view _ old a t _ c.self.view_is c.push.ensures.items in
    let done : new ≡ after_snapshot (with_action old a t) new.disk = c.in-Ok-take_snapshot.ensures.answer ∙ ap (λ v. after_snapshot v new.disk) view in
    let run = subst (SnapshotRuns kept disk new.disk) view c.take_snapshot.ensures.written.any_moment in
    let written = subst (SnapshotWritten kept disk new.disk) view c.in-Ok-take_snapshot.ensures.written.written in
    let remains = subst (λ v. Remains disk v.disk new.disk) view c.take_snapshot.ensures.written.remains in
    subst (Continues kept disk old (a ∷ [])) (sym done)
    (snapshot-continues kept disk g.met.K.Kept.lawful old (a ∷ []) t new.disk store c.requires.works c.requires.room
    c.take_snapshot.ensures.written.is_state (more-made kept disk old a t store accepted) remains run written)

pub returns-in-Ok-take_snapshot-clause-stands : goal.returns-in-Ok-take_snapshot-clause-stands
returns-in-Ok-take_snapshot-clause-stands g c =
    let kept = g.K.Kept.kept in
    let disk = g.D.SectorDisk.disk in
    let a = c.args.action.now in
    let t = c.step.new.self in
    let new = c.take_snapshot.new.self in
    let old : StoreValue g.row.D.Denot g.row.K.Denot g.row.K-Action.Denot = c.args.self.now in
    let store : IsStore kept disk old = rw c.self.view_is at c.self.invariant in
    let accepted = ap (λ v. kept.step v.state a) (sym c.self.view_is) ∙ c.in-Ok.ensures.step in
    let view = action-view _ old a t _ c.self.view_is c.push.ensures.items in
    let done : new ≡ after_snapshot (with_action old a t) new.disk = c.in-Ok-take_snapshot.ensures.answer ∙ ap (λ v. after_snapshot v new.disk) view in
    let written = subst (SnapshotWritten kept disk new.disk) view c.in-Ok-take_snapshot.ensures.written.written in
    let remains = subst (λ v. Remains disk v.disk new.disk) view c.take_snapshot.ensures.written.remains in
    λ sound. subst (λ s. StandsOnlyFor kept disk s new.disk) (sym (ap (λ v. v.state) done))
    (snapshot-stands kept disk g.met.K.Kept.lawful old (a ∷ []) t new.disk store c.requires.works c.requires.room
    c.take_snapshot.ensures.written.is_state (more-made kept disk old a t store accepted) remains written sound)

pub returns-in-Err-take_snapshot-clause-answer : goal.returns-in-Err-take_snapshot-clause-answer
returns-in-Err-take_snapshot-clause-answer g c =
    let disk = g.D.SectorDisk.disk in
    let a = c.args.action.now in
    let t = c.step.new.self in
    let new = c.take_snapshot.new.self in
    let old : StoreValue g.row.D.Denot g.row.K.Denot g.row.K-Action.Denot = c.args.self.now in
    let accepted = ap (λ v. g.K.Kept.kept.step v.state a) (sym c.self.view_is) ∙ c.in-Ok.ensures.step in
    let view = action-view _ old a t _ c.self.view_is c.push.ensures.items in
    let stopped : new ≡ after_fault (with_action old a t) new.disk = c.in-Err-take_snapshot.ensures.answer ∙ ap (λ v. after_fault v new.disk) view in
    let state : t ≡ new.state = sym (ap (λ v. v.state) stopped) in (
      (c.requires.works, c.requires.batch, room-epoch old c.requires.room),
      accepted ∙ ap (λ s. Ok s) state,
      subst (λ s. new ≡ after_failed_submit old a s new.disk) state (stopped ∙ sym (after_failed-full old a t new.disk c.requires.full)),
      subst (λ v. Rose (disk.faults v.disk) (disk.faults new.disk)) view c.in-Err-take_snapshot.ensures.written.fault,
    )

pub returns-in-Err-take_snapshot-clause-continues : goal.returns-in-Err-take_snapshot-clause-continues
returns-in-Err-take_snapshot-clause-continues g c =
    let kept = g.K.Kept.kept in
    let disk = g.D.SectorDisk.disk in
    let a = c.args.action.now in
    let t = c.step.new.self in
    let new = c.take_snapshot.new.self in
    let old : StoreValue g.row.D.Denot g.row.K.Denot g.row.K-Action.Denot = c.args.self.now in
    let store : IsStore kept disk old = rw c.self.view_is at c.self.invariant in
    let accepted = ap (λ v. kept.step v.state a) (sym c.self.view_is) ∙ c.in-Ok.ensures.step in
    let view = action-view _ old a t _ c.self.view_is c.push.ensures.items in
    let stopped : new ≡ after_fault (with_action old a t) new.disk = c.in-Err-take_snapshot.ensures.answer ∙ ap (λ v. after_fault v new.disk) view in
    let run = subst (SnapshotRuns kept disk new.disk) view c.take_snapshot.ensures.written.any_moment in
    let remains = subst (λ v. Remains disk v.disk new.disk) view c.take_snapshot.ensures.written.remains in
    subst (Continues kept disk old (a ∷ [])) (sym stopped)
    (snapshot_fault-continues kept disk g.met.K.Kept.lawful old (a ∷ []) t new.disk store c.requires.works c.requires.room
    c.take_snapshot.ensures.written.is_state (more-made kept disk old a t store accepted) remains run)

pub invariant_of-self : goal.invariant_of-self
invariant_of-self g c = rw c.in-Err.ensures.refused c.self.invariant

pub push-requires : goal.push-requires
push-requires g c = let few = rw (← c.self.view_is) at c.requires.batch in omega (arith, few)

pub take_snapshot-requires : goal.take_snapshot-requires
take_snapshot-requires g c = let room = rw (← c.self.view_is) at c.requires.room in omega (arith, room)

pub returns-in-Ok-take_snapshot-clause-no_fault : goal.returns-in-Ok-take_snapshot-clause-no_fault
returns-in-Ok-take_snapshot-clause-no_fault g c = rw (← c.self.view_is) c.in-Ok-take_snapshot.ensures.written.no_fault
