use Rattle.std.proofs.Common.{◌≡◌, [], Some, length, refl, sym, ap, subst, ◌∙◌, arith, append-nil}
use Rattle.std.proofs.lemmas.Bool.{eqb-true, eqb-false}
use Rattle.sector_disk.proofs.RunLaws.{remains, remains_on}
use Rattle.session_store.specs.Keeping.{fold}
use Rattle.session_store.specs.Value.{StoreValue}
use Rattle.session_store.proofs.AgeLemmas.{ages-on, sync-epochs}
use Rattle.session_store.proofs.CallLaws.{continues_begins}
use Rattle.session_store.proofs.StoreLemmas.{of_nil, sound-stands, continues_none, sync-moments, sync-fault, idle-same, empty_list, some_is, confirmed-same, confirmed-store, confirmed-continues, confirmed-stands}
use Rattle.session_store.proofs.store.Store.confirm.Goals as goal

pub returns-then-self-clause-continues : goal.returns-then-self-clause-continues
returns-then-self-clause-continues g c = continues_begins g.K.Kept.kept g.D.SectorDisk.disk c.args.self.now

pub returns-then-is_empty-clause-continues : goal.returns-then-is_empty-clause-continues
returns-then-is_empty-clause-continues g c = continues_begins g.K.Kept.kept g.D.SectorDisk.disk c.args.self.now

pub returns-then-is_empty-clause-answer : goal.returns-then-is_empty-clause-answer
returns-then-is_empty-clause-answer g c =
    let none = empty_list c.self.inside.pending.items (eqb-true _ _ (sym c.is_empty.ensures ∙ c.if-is_empty.true)) in
    rw (← c.self.view_is) (c.if-self.false, idle-same g.K.Kept.kept g.D.SectorDisk.disk _ c.self.invariant none, λ _. refl)

pub returns-in-Err-clause-continues : goal.returns-in-Err-clause-continues
returns-in-Err-clause-continues g c =
    let kept = g.K.Kept.kept in
    let disk = g.D.SectorDisk.disk in
    rw (← c.self.view_is)
    (continues_none kept disk _ _ [] refl (sym (append-nil c.self.inside.pending.items))
    (remains_on disk _ _ _ _ (remains disk c.self.inside.disk) c.sync.ensures.called)
    (λ sound. sync-fault kept disk _ c.sync.new.self _ c.sync.ensures.called c.sync.ensures.syncs sound)
    (λ sound. sync-moments kept disk _ c.sync.new.self _ [] c.sync.ensures.called c.sync.ensures.syncs sound)
    (ages-on kept disk _ _ c.if-self.false (omega arith) (sync-epochs kept disk _ c.sync.new.self _ c.sync.ensures.called c.sync.ensures.syncs)))

pub invariant_of-self : goal.invariant_of-self
invariant_of-self g c =
    let caught_up = some_is _ _ (sym c.catch_up.ensures.base ∙ c.self.invariant.accepted) in
    confirmed-store g.K.Kept.kept g.D.SectorDisk.disk _ c.sync.new.self _ _ caught_up c.catch_up.ensures.none _ c.sync.ensures.called c.self.invariant

pub returns-in-Ok-clause-continues : goal.returns-in-Ok-clause-continues
returns-in-Ok-clause-continues g c =
    let caught_up = some_is _ _ (sym c.catch_up.ensures.base ∙ c.self.invariant.accepted) in
    rw (← c.self.view_is)
    (confirmed-continues g.K.Kept.kept g.D.SectorDisk.disk _ c.sync.new.self _ _ caught_up c.catch_up.ensures.none _ c.self.invariant
    c.if-self.false c.in-Ok.ensures.called c.in-Ok.ensures.syncs)

pub returns-in-Ok-clause-stands : goal.returns-in-Ok-clause-stands
returns-in-Ok-clause-stands g c =
    let caught_up = some_is _ _ (sym c.catch_up.ensures.base ∙ c.self.invariant.accepted) in
    rw (← c.self.view_is)
    (confirmed-stands g.K.Kept.kept g.D.SectorDisk.disk _ c.sync.new.self _ _ caught_up c.catch_up.ensures.none _ c.self.invariant
    c.if-self.false c.in-Ok.ensures.called c.in-Ok.ensures.syncs)

pub returns-then-self-clause-answer : goal.returns-then-self-clause-answer
returns-then-self-clause-answer g c = rw (← c.self.view_is) (c.if-self.true, refl)

pub invariant_of-self-in-Err : goal.invariant_of-self-in-Err
invariant_of-self-in-Err g c = record {
  large = omega (arith, c.sync.ensures.called.count, c.self.invariant.large);
  accepted = c.self.invariant.accepted;
  few = c.self.invariant.few;
  recorded = c.self.invariant.recorded;
  records = c.self.invariant.records;
  some_epoch = c.self.invariant.some_epoch;
  epoch = c.self.invariant.epoch;
}

pub returns-in-Ok-clause-answer : goal.returns-in-Ok-clause-answer
returns-in-Ok-clause-answer g c =
    let kept = g.K.Kept.kept in
    let s = c.self.inside in
    let v : StoreValue g.row.D.Denot g.row.K.Denot g.row.K-Action.Denot = record {
      disk = s.disk;
      base = s.base;
      pending = s.pending.items;
      state = s.state;
      epoch = s.epoch;
      records = s.records;
      failed = s.failed;
    } in
    let caught_up = some_is _ _ (sym c.catch_up.ensures.base ∙ c.self.invariant.accepted) in
    let some = eqb-false _ _ (sym c.is_empty.ensures ∙ c.if-is_empty.false) in
    rw (← c.self.view_is) (
      c.if-self.false,
      sym (confirmed-same kept g.D.SectorDisk.disk v c.sync.new.self _ _ caught_up c.catch_up.ensures.none),
      λ none. absurd (some (ap length none)),
    )

pub returns-in-Ok-clause-no_fault : goal.returns-in-Ok-clause-no_fault
returns-in-Ok-clause-no_fault g c = rw (← c.self.view_is) c.in-Ok.ensures.called.faults_ok

pub returns-in-Err-clause-answer : goal.returns-in-Err-clause-answer
returns-in-Err-clause-answer g c =
    let some = eqb-false _ _ (sym c.is_empty.ensures ∙ c.if-is_empty.false) in
    rw (← c.self.view_is) (c.if-self.false, λ none. some (ap length none), refl, omega (arith, c.in-Err.ensures.called.faults_err))

pub returns-then-is_empty-clause-stands : goal.returns-then-is_empty-clause-stands
returns-then-is_empty-clause-stands g c =
    let kept = g.K.Kept.kept in
    let s = c.self.inside in
    let none = empty_list s.pending.items (eqb-true _ _ (sym c.is_empty.ensures ∙ c.if-is_empty.true)) in
    let same = of_nil kept s.base s.state (subst (λ xs. fold kept s.base xs ≡ Some s.state) none c.self.invariant.accepted) in
    rw (← c.self.view_is) (sound-stands kept g.D.SectorDisk.disk _ none same)
