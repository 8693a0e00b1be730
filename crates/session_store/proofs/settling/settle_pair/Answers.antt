use Rattle.std.proofs.Common.{◌≡◌, true, false, refl, sym, arith}
use Rattle.std.proofs.lemmas.Result.{err_from_is_err_and}
use Rattle.session_store.proofs.CallLaws.{continues_begins}
use Rattle.session_store.proofs.SettlingLemmas.{second-rises, first-rises, settled-second, settled-first, second-cannot, first-cannot}
use Rattle.session_store.proofs.settling.settle_pair.Goals as goal

pub returns-in-true-true-clause-first : goal.returns-in-true-true-clause-first
returns-in-true-true-clause-first g c = continues_begins g.K.Kept.kept g.A.SectorDisk.disk c.args.first.now

pub returns-in-true-true-clause-second : goal.returns-in-true-true-clause-second
returns-in-true-true-clause-second g c = continues_begins g.K.Kept.kept g.B.SectorDisk.disk c.args.second.now

pub returns-in_ok-rise_above-in-true-false-clause-told : goal.returns-in_ok-rise_above-in-true-false-clause-told
returns-in_ok-rise_above-in-true-false-clause-told g c = λ s served.
    second-rises g.K.Kept.kept g.A.SectorDisk.disk g.B.SectorDisk.disk c.args.first.now c.args.second.now s
    (sym c.in-true-false.ensures) (sym c.in-true-false.ensures') c.rise_above.new.store c.rise_above.ensures.continues
    c.in_ok-rise_above-in-true-false.ensures.same.0 c.in_ok-rise_above-in-true-false.ensures.same.1 (omega (arith, c.in_ok-rise_above-in-true-false.ensures.risen, c.epoch.ensures.epoch)) served

pub returns-in_ok-rise_above-in-true-false-clause-first : goal.returns-in_ok-rise_above-in-true-false-clause-first
returns-in_ok-rise_above-in-true-false-clause-first g c = continues_begins g.K.Kept.kept g.A.SectorDisk.disk c.args.first.now

pub returns-in_ok-rise_above-in-true-false-clause-settled : goal.returns-in_ok-rise_above-in-true-false-clause-settled
returns-in_ok-rise_above-in-true-false-clause-settled g c = λ settled.
    let above = settled-second c.args.first.now c.args.second.now (sym c.in-true-false.ensures) (sym c.in-true-false.ensures') settled in
    (refl, refl, (c.rise_above.ensures.rests (omega (arith, above, c.epoch.ensures.epoch))).1)

pub returns-in_err-rise_above-in-true-false-clause-first : goal.returns-in_err-rise_above-in-true-false-clause-first
returns-in_err-rise_above-in-true-false-clause-first g c = continues_begins g.K.Kept.kept g.A.SectorDisk.disk c.args.first.now

pub returns-in_err-rise_above-in-true-false-clause-settled : goal.returns-in_err-rise_above-in-true-false-clause-settled
returns-in_err-rise_above-in-true-false-clause-settled g c = λ settled.
    let above = settled-second c.args.first.now c.args.second.now (sym c.in-true-false.ensures) (sym c.in-true-false.ensures') settled in
    let never : false ≡ true = (c.in_err-rise_above-in-true-false.ensures.rests (omega (arith, above, c.epoch.ensures.epoch))).0 in cc

pub returns-in_err-rise_above-in-true-false-clause-fault : goal.returns-in_err-rise_above-in-true-false-clause-fault
returns-in_err-rise_above-in-true-false-clause-fault g c =
    let p = err_from_is_err_and c.from_residual.result c.from_residual.ensures.1 in
    rw (p.1, p.2) (second-cannot g.A.SectorDisk.disk g.B.SectorDisk.disk c.args.first.now c.args.second.now c.rise_above.new.store c.epoch.result
    _ (sym c.in-true-false.ensures) (sym c.in-true-false.ensures') c.epoch.ensures.epoch
    c.in_err-rise_above-in-true-false.ensures.fault)

pub returns-in_ok-rise_above-in-false-true-clause-told : goal.returns-in_ok-rise_above-in-false-true-clause-told
returns-in_ok-rise_above-in-false-true-clause-told g c = λ s served.
    first-rises g.K.Kept.kept g.A.SectorDisk.disk g.B.SectorDisk.disk c.args.first.now c.args.second.now s
    (sym c.in-false-true.ensures') (sym c.in-false-true.ensures) c.rise_above-in-false-true.new.store
    c.rise_above-in-false-true.ensures.continues c.in_ok-rise_above-in-false-true.ensures.same.0 c.in_ok-rise_above-in-false-true.ensures.same.1
    (omega (arith, c.in_ok-rise_above-in-false-true.ensures.risen, c.epoch-in-false-true.ensures.epoch)) served

pub returns-in_ok-rise_above-in-false-true-clause-second : goal.returns-in_ok-rise_above-in-false-true-clause-second
returns-in_ok-rise_above-in-false-true-clause-second g c = continues_begins g.K.Kept.kept g.B.SectorDisk.disk c.args.second.now

pub returns-in_ok-rise_above-in-false-true-clause-settled : goal.returns-in_ok-rise_above-in-false-true-clause-settled
returns-in_ok-rise_above-in-false-true-clause-settled g c = λ settled.
    let above = settled-first c.args.first.now c.args.second.now (sym c.in-false-true.ensures') (sym c.in-false-true.ensures) settled in
    (refl, (c.rise_above-in-false-true.ensures.rests (omega (arith, above, c.epoch-in-false-true.ensures.epoch))).1, refl)

pub returns-in_err-rise_above-in-false-true-clause-second : goal.returns-in_err-rise_above-in-false-true-clause-second
returns-in_err-rise_above-in-false-true-clause-second g c = continues_begins g.K.Kept.kept g.B.SectorDisk.disk c.args.second.now

pub returns-in_err-rise_above-in-false-true-clause-settled : goal.returns-in_err-rise_above-in-false-true-clause-settled
returns-in_err-rise_above-in-false-true-clause-settled g c = λ settled.
    let above = settled-first c.args.first.now c.args.second.now (sym c.in-false-true.ensures') (sym c.in-false-true.ensures) settled in
    let never : false ≡ true = (c.in_err-rise_above-in-false-true.ensures.rests (omega (arith, above, c.epoch-in-false-true.ensures.epoch))).0 in cc

pub returns-in_err-rise_above-in-false-true-clause-fault : goal.returns-in_err-rise_above-in-false-true-clause-fault
returns-in_err-rise_above-in-false-true-clause-fault g c =
    let p = err_from_is_err_and c.from_residual-in_err-rise_above-in-false-true.result c.from_residual-in_err-rise_above-in-false-true.ensures.1 in
    rw (p.1, p.2) (first-cannot g.A.SectorDisk.disk g.B.SectorDisk.disk c.args.first.now c.rise_above-in-false-true.new.store c.args.second.now
    c.epoch-in-false-true.result _ (sym c.in-false-true.ensures') (sym c.in-false-true.ensures)
    c.epoch-in-false-true.ensures.epoch c.in_err-rise_above-in-false-true.ensures.fault)

pub returns-in-false-false-clause-first : goal.returns-in-false-false-clause-first
returns-in-false-false-clause-first g c = continues_begins g.K.Kept.kept g.A.SectorDisk.disk c.args.first.now

pub returns-in-false-false-clause-second : goal.returns-in-false-false-clause-second
returns-in-false-false-clause-second g c = continues_begins g.K.Kept.kept g.B.SectorDisk.disk c.args.second.now
