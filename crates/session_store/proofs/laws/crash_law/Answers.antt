use Rattle.session_store.proofs.CrashLemmas.{crash_law, formatted}
use Rattle.session_store.proofs.FormerLemmas.{former_run}
use Rattle.session_store.proofs.laws.crash_law.Goals as goal

pub returns-clause-crash : goal.returns-clause-crash
returns-clause-crash g c = crash_law g.K.Kept.kept g.D.SectorDisk.disk

pub returns-clause-formatted : goal.returns-clause-formatted
returns-clause-formatted g c = formatted g.K.Kept.kept g.D.SectorDisk.disk

pub returns-clause-former : goal.returns-clause-former
returns-clause-former g c = former_run g.K.Kept.kept g.D.SectorDisk.disk
