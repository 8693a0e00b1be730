use Rattle.std.proofs.Common.{inl, inr}
use Rattle.session_pair.proofs.TellingLemmas.{confirmed-still, stays, tells}
use Rattle.session_pair.proofs.telling.settle_served.Goals as goal

pub returns-in-Ok-clause-told : goal.returns-in-Ok-clause-told
returns-in-Ok-clause-told g c = λ v w served is.
    let stay = stays g.K.Kept.kept g.A.SectorDisk.disk g.B.SectorDisk.disk c.args.first.now c.settle_pair.new.first c.args.second.now
    c.settle_pair.new.second _ c.settle_pair.ensures.first c.settle_pair.ensures.second c.in-Ok.ensures.settled c.in-Ok.ensures.standing in
    tells g.K.Kept.kept g.A.SectorDisk.disk g.B.SectorDisk.disk c.args.first.now c.settle_pair.new.first c.args.second.now
    c.settle_pair.new.second v w c.pair_laws.ensures.served served (c.is_one_state-is_one.ensures.first is)
    (c.is_one_state-is_one.ensures.second is) c.in-Ok.ensures.told stay.state

pub returns-in-Ok-clause-shown : goal.returns-in-Ok-clause-shown
returns-in-Ok-clause-shown g c = λ is.
    stays g.K.Kept.kept g.A.SectorDisk.disk g.B.SectorDisk.disk c.args.first.now c.settle_pair.new.first c.args.second.now
    c.settle_pair.new.second _ c.settle_pair.ensures.first c.settle_pair.ensures.second c.in-Ok.ensures.settled c.in-Ok.ensures.standing

pub returns-in-Ok-clause-settled : goal.returns-in-Ok-clause-settled
returns-in-Ok-clause-settled g c = (c.settle_pair.ensures.first, c.settle_pair.ensures.second)

pub returns-in-Ok-clause-confirmed : goal.returns-in-Ok-clause-confirmed
returns-in-Ok-clause-confirmed g c = (
  confirmed-still g.K.Kept.kept g.A.SectorDisk.disk c.args.first.now c.settle_pair.new.first c.settle_pair.ensures.first,
  confirmed-still g.K.Kept.kept g.B.SectorDisk.disk c.args.second.now c.settle_pair.new.second c.settle_pair.ensures.second,
)

pub returns-in-Err-clause-settled : goal.returns-in-Err-clause-settled
returns-in-Err-clause-settled g c = (c.settle_pair.ensures.first, c.settle_pair.ensures.second)

pub returns-in-Err-clause-confirmed : goal.returns-in-Err-clause-confirmed
returns-in-Err-clause-confirmed g c = (
  confirmed-still g.K.Kept.kept g.A.SectorDisk.disk c.args.first.now c.settle_pair.new.first c.settle_pair.ensures.first,
  confirmed-still g.K.Kept.kept g.B.SectorDisk.disk c.args.second.now c.settle_pair.new.second c.settle_pair.ensures.second,
)

pub returns-in-Ok-clause-untold : goal.returns-in-Ok-clause-untold
returns-in-Ok-clause-untold g c = λ is. inl (c.is_one_state-is_one.ensures.other is)

pub returns-in-Err-clause-untold : goal.returns-in-Err-clause-untold
returns-in-Err-clause-untold g c = λ is. inr (c.in-Err.field-0, c.in-Err.ensures.fault)
