use Rattle.session_store.proofs.PairLemmas.{moment_law, told_law, served_law, alone_law}
use Rattle.session_store.proofs.PairOpeningLemmas.{orderly}
use Rattle.session_store.proofs.pairing_laws.pair_laws.Goals as goal

pub returns-clause-told : goal.returns-clause-told
returns-clause-told g c = told_law g.K.Kept.kept g.A.SectorDisk.disk g.B.SectorDisk.disk

pub returns-clause-moment : goal.returns-clause-moment
returns-clause-moment g c = moment_law g.K.Kept.kept g.A.SectorDisk.disk g.B.SectorDisk.disk

pub returns-clause-served : goal.returns-clause-served
returns-clause-served g c = served_law g.K.Kept.kept g.A.SectorDisk.disk g.B.SectorDisk.disk

pub returns-clause-alone : goal.returns-clause-alone
returns-clause-alone g c = alone_law g.K.Kept.kept g.A.SectorDisk.disk g.B.SectorDisk.disk

pub returns-clause-orderly : goal.returns-clause-orderly
returns-clause-orderly g c = orderly g.K.Kept.kept g.A.SectorDisk.disk
