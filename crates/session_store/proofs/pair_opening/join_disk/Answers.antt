use Rattle.std.proofs.Common.{◌<◌, ◌^◌, ℕ, subst, arith}
use Rattle.session_store.specs.Copying.{BeginsCopy}
use Rattle.session_store.proofs.JoinLemmas.{not-prepared, joins-from, not-settled}
use Rattle.session_store.proofs.pair_opening.join_disk.Goals as goal

pub returns-in-Err-clause-fault : goal.returns-in-Err-clause-fault
returns-in-Err-clause-fault g c =
    not-prepared g.K.Kept.kept g.A.SectorDisk.disk g.B.SectorDisk.disk c.args.first c.prepare_copy.new.store _ c.args.second c.args.own c.in-Err.fault
    c.prepare_copy.ensures.continues (λ works. c.in-Err.ensures.fault works) c.into_disk.ensures.disk

pub returns-in-Ok-settle_pair-clause-joins : goal.returns-in-Ok-settle_pair-clause-joins
returns-in-Ok-settle_pair-clause-joins g c =
    let kept = g.K.Kept.kept in
    let first = g.A.SectorDisk.disk in
    let second = g.B.SectorDisk.disk in
    let v1 = c.prepare_copy.new.store in
    let made = c.in-Ok.ensures in
    let begun = subst (λ (n : ℕ). BeginsCopy kept second c.args.second n c.in-Ok.state c.begin_copy-copy.result) c.epoch.ensures.epoch c.begin_copy-copy.ensures in
    let small : v1.epoch < 2 ^ 64 = omega (arith, c.epoch.ensures.epoch, c.epoch.ensures.fits) in
    joins-from kept g.met.K.Kept.lawful first second c.args.first v1 c.settle_pair.new.first c.args.second c.args.own c.in-Ok.state
    c.begin_copy-copy.result c.settle_pair.new.second made.continues made.same.0 made.same.1 made.apart begun made.states.1 small
    c.settle_pair.ensures.first c.settle_pair.ensures.second c.in-Ok-settle_pair.field-0 c.in-Ok-settle_pair.ensures.standing
    c.in-Ok-settle_pair.ensures.told (λ settled. (c.settle_pair.ensures.settled settled).1) (λ settled. (c.settle_pair.ensures.settled settled).2)

pub returns-in-Err-settle_pair-clause-fault : goal.returns-in-Err-settle_pair-clause-fault
returns-in-Err-settle_pair-clause-fault g c =
    let kept = g.K.Kept.kept in
    let first = g.A.SectorDisk.disk in
    let second = g.B.SectorDisk.disk in
    let v1 = c.prepare_copy.new.store in
    let made = c.in-Ok.ensures in
    let begun = subst (λ (n : ℕ). BeginsCopy kept second c.args.second n c.in-Ok.state c.begin_copy-copy.result) c.epoch.ensures.epoch c.begin_copy-copy.ensures in
    let small : v1.epoch < 2 ^ 64 = omega (arith, c.epoch.ensures.epoch, c.epoch.ensures.fits) in
    not-settled kept g.met.K.Kept.lawful first second c.args.first v1 c.settle_pair.new.first c.args.second c.args.own c.in-Ok.state
    c.begin_copy-copy.result c.settle_pair.new.second made.continues made.same.0 made.same.1 made.apart begun made.states.1 small
    c.settle_pair.ensures.first c.settle_pair.ensures.second _ _ c.in-Err-settle_pair.fault c.from.result c.from.ensures made.goes_on
    c.in-Err-settle_pair.ensures.fault c.into_disk-in-Err-settle_pair.ensures.disk c.into_disk-in-Err-settle_pair-2.ensures.disk
