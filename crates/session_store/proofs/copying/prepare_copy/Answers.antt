use Rattle.session_store.proofs.CallLaws.{continues_begins}
use Rattle.session_store.proofs.copying.prepare_copy.Goals as goal

pub returns-in_default-clause-continues : goal.returns-in_default-clause-continues
returns-in_default-clause-continues g c = continues_begins g.K.Kept.kept g.D.SectorDisk.disk c.args.store.now

pub returns-in_default-copy_state-clause-continues :
    goal.returns-in_default-copy_state-clause-continues
returns-in_default-copy_state-clause-continues g c = continues_begins g.K.Kept.kept g.D.SectorDisk.disk c.args.store.now
