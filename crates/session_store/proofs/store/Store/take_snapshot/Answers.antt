use Rattle.std.proofs.Common.{◌∙◌, refl, sym, subst, arith}
use Rattle.session_store.specs.Value.{StoreValue, IsStore}
use Rattle.session_store.proofs.StoreLemmas.{some_is}
use Rattle.session_store.proofs.CheckpointLemmas.{snapshot-same, snapshot-store}
use Rattle.session_store.proofs.store.Store.take_snapshot.Goals as goal

pub overflow_add-self-inside : goal.overflow_add-self-inside
overflow_add-self-inside g c = let room = rw (← c.self.view_is) at c.requires in omega (arith, room)

pub invariant_of-self : goal.invariant_of-self
invariant_of-self g c =
    let kept = g.K.Kept.kept in
    let disk = g.D.SectorDisk.disk in
    let s = c.self.inside in
    let v : StoreValue g.row.D.Denot g.row.K.Denot g.row.K-Action.Denot = record {
      disk = s.disk;
      base = s.base;
      pending = s.pending.items;
      state = s.state;
      epoch = s.epoch;
      records = s.records;
      failed = s.failed;
    } in
    let caught_up = some_is _ _ (sym c.catch_up.ensures.base ∙ c.self.invariant.accepted) in
    let room = rw (← c.self.view_is) at c.requires in
    subst (IsStore kept disk) (snapshot-same kept disk v c.write_snapshot.new.disk _ _ caught_up c.catch_up.ensures.none)
    (snapshot-store kept disk v c.write_snapshot.new.disk c.write_snapshot.ensures.remains.count room c.self.invariant)

pub invariant_of-self-in-Err : goal.invariant_of-self-in-Err
invariant_of-self-in-Err g c = record {
  large = omega (arith, c.write_snapshot.ensures.remains.count, c.self.invariant.large);
  accepted = c.self.invariant.accepted;
  few = c.self.invariant.few;
  recorded = c.self.invariant.recorded;
  records = c.self.invariant.records;
  some_epoch = c.self.invariant.some_epoch;
  epoch = c.self.invariant.epoch;
}

pub returns-in-Ok-clause-answer : goal.returns-in-Ok-clause-answer
returns-in-Ok-clause-answer g c =
    let kept = g.K.Kept.kept in
    let s = c.self.inside in
    let v : StoreValue g.row.D.Denot g.row.K.Denot g.row.K-Action.Denot = record {
      disk = s.disk;
      base = s.base;
      pending = s.pending.items;
      state = s.state;
      epoch = s.epoch;
      records = s.records;
      failed = s.failed;
    } in
    let caught_up = some_is _ _ (sym c.catch_up.ensures.base ∙ c.self.invariant.accepted) in
    rw (← c.self.view_is) (sym (snapshot-same kept g.D.SectorDisk.disk v c.write_snapshot.new.disk _ _ caught_up c.catch_up.ensures.none))

pub returns-in-Ok-clause-written : goal.returns-in-Ok-clause-written
returns-in-Ok-clause-written g c = rw (← c.self.view_is) c.in-Ok.ensures

pub returns-in-Err-clause-answer : goal.returns-in-Err-clause-answer
returns-in-Err-clause-answer g c = rw (← c.self.view_is) refl

pub returns-in-Err-clause-written : goal.returns-in-Err-clause-written
returns-in-Err-clause-written g c = rw (← c.self.view_is) c.in-Err.ensures

pub write_snapshot-requires : goal.write_snapshot-requires
write_snapshot-requires g c = c.self.invariant.large

pub overflow_add-self : goal.overflow_add-self
overflow_add-self g c = let room = rw (← c.self.view_is) at c.requires in omega (arith, room)
