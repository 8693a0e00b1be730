use Rattle.std.proofs.Common.{◌≡◌, ◌<◌, ◌^◌, ◌-◌, [], false, ◌∙◌, sym, ap, subst, arith, append-nil}
use Rattle.session_store.specs.Keeping.{fold}
use Rattle.session_store.specs.Value.{StoreValue, IsStore}
use Rattle.session_store.specs.Store.{Continues}
use Rattle.session_store.specs.Sound.{StandsOnlyFor}
use Rattle.session_store.proofs.CallLaws.{continues_begins}
use Rattle.session_store.proofs.CheckpointLemmas.{snapshot-continues, snapshot_fault-continues, snapshot-stands, fault-same}
use Rattle.session_store.proofs.store.Store.checkpoint.Goals as goal

pub returns-then-self-clause-continues : goal.returns-then-self-clause-continues
returns-then-self-clause-continues g c = continues_begins g.K.Kept.kept g.D.SectorDisk.disk c.args.self.now

pub returns-then-self-2-clause-continues : goal.returns-then-self-2-clause-continues
returns-then-self-2-clause-continues g c = continues_begins g.K.Kept.kept g.D.SectorDisk.disk c.args.self.now

pub returns-in-Ok-clause-continues : goal.returns-in-Ok-clause-continues
returns-in-Ok-clause-continues g c =
    let kept = g.K.Kept.kept in
    let disk = g.D.SectorDisk.disk in
    let old : StoreValue g.row.D.Denot g.row.K.Denot g.row.K-Action.Denot = c.args.self.now in
    let store : IsStore kept disk old = rw c.self.view_is at c.self.invariant in
    let works : old.failed ≡ false = ap (λ v. v.failed) (sym c.self.view_is) ∙ c.if-self.false in
    let epochs : c.self.inside.epoch ≡ old.epoch = ap (λ v. v.epoch) c.self.view_is in
    let room : old.epoch < 2 ^ 64 - 1 = omega (arith, epochs, c.if-self-2.false, store.epoch) in
    let made = ap (fold kept old.base) (append-nil old.pending) ∙ store.accepted in
    let done = c.in-Ok.ensures in
    subst (Continues kept disk old []) (sym done.answer)
    (snapshot-continues kept disk g.met.K.Kept.lawful old [] old.state c.take_snapshot.new.self.disk store works room
    c.take_snapshot.ensures.written.is_state made c.take_snapshot.ensures.written.remains c.take_snapshot.ensures.written.any_moment done.written.written)

pub returns-in-Ok-clause-stands : goal.returns-in-Ok-clause-stands
returns-in-Ok-clause-stands g c =
    let kept = g.K.Kept.kept in
    let disk = g.D.SectorDisk.disk in
    let old : StoreValue g.row.D.Denot g.row.K.Denot g.row.K-Action.Denot = c.args.self.now in
    let store : IsStore kept disk old = rw c.self.view_is at c.self.invariant in
    let works : old.failed ≡ false = ap (λ v. v.failed) (sym c.self.view_is) ∙ c.if-self.false in
    let epochs : c.self.inside.epoch ≡ old.epoch = ap (λ v. v.epoch) c.self.view_is in
    let room : old.epoch < 2 ^ 64 - 1 = omega (arith, epochs, c.if-self-2.false, store.epoch) in
    let made = ap (fold kept old.base) (append-nil old.pending) ∙ store.accepted in
    let done = c.in-Ok.ensures in
    let same = ap (λ v. v.state) done.answer in
    λ sound. subst (λ s. StandsOnlyFor kept disk s c.take_snapshot.new.self.disk) (sym same)
    (snapshot-stands kept disk g.met.K.Kept.lawful old [] old.state c.take_snapshot.new.self.disk store works room
    c.take_snapshot.ensures.written.is_state made c.take_snapshot.ensures.written.remains done.written.written sound)

pub returns-in-Err-clause-continues : goal.returns-in-Err-clause-continues
returns-in-Err-clause-continues g c =
    let kept = g.K.Kept.kept in
    let disk = g.D.SectorDisk.disk in
    let old : StoreValue g.row.D.Denot g.row.K.Denot g.row.K-Action.Denot = c.args.self.now in
    let store : IsStore kept disk old = rw c.self.view_is at c.self.invariant in
    let works : old.failed ≡ false = ap (λ v. v.failed) (sym c.self.view_is) ∙ c.if-self.false in
    let epochs : c.self.inside.epoch ≡ old.epoch = ap (λ v. v.epoch) c.self.view_is in
    let room : old.epoch < 2 ^ 64 - 1 = omega (arith, epochs, c.if-self-2.false, store.epoch) in
    let made = ap (fold kept old.base) (append-nil old.pending) ∙ store.accepted in
    let failed = c.in-Err.ensures in
    subst (Continues kept disk old []) (fault-same kept disk old c.take_snapshot.new.self.disk ∙ sym failed.answer)
    (snapshot_fault-continues kept disk g.met.K.Kept.lawful old [] old.state c.take_snapshot.new.self.disk store works room
    c.take_snapshot.ensures.written.is_state made c.take_snapshot.ensures.written.remains c.take_snapshot.ensures.written.any_moment)
