use Rattle.std.proofs.Common.{◌∙◌, arith}
use Rattle.sector_disk.proofs.RunLaws.{remains_on}
use Rattle.session_store.proofs.FormatLemmas.{behind_write, behind_sync, cleared_more}
use Rattle.session_store.proofs.formatting.clear.Goals as goal

pub loop-i-preserved : goal.loop-i-preserved
loop-i-preserved g c =
    let disk = g.D.SectorDisk.disk in record {
      remains = remains_on disk _ _ _ _ c.loop-i.invariant.remains c.write.ensures.called;
      no_fault = c.in_ok-write.ensures.called.faults_ok ∙ c.loop-i.invariant.no_fault;
      zeros = λ honest.
          cleared_more disk _ _ c.loop-i.i _ (c.in_ok-write.ensures.writes (c.loop-i.invariant.remains.stays_honest honest))
          (c.loop-i.invariant.zeros honest);
      behind = λ honest. behind_write disk _ _ _ c.loop-i.i _ _ (omega (arith, c.loop-i-test.true)) (c.loop-i.invariant.behind honest)
          c.write.ensures.called c.write.ensures.writes;
    }

pub returns-clause-cleared : goal.returns-clause-cleared
returns-clause-cleared g c = λ honest image left k below.
    (c.in_ok-sync.ensures.syncs (c.loop-i.invariant.remains.stays_honest honest)).ok.images image left k
    ∙ c.loop-i.invariant.zeros honest k (omega (arith, below, c.loop-i-test.false))

pub returns-in_err-write-clause-behind : goal.returns-in_err-write-clause-behind
returns-in_err-write-clause-behind g c = λ honest.
    behind_write g.D.SectorDisk.disk _ _ _ c.loop-i.i _ _ (omega (arith, c.loop-i-test.true)) (c.loop-i.invariant.behind honest)
    c.write.ensures.called c.write.ensures.writes

pub returns-in_err-sync-clause-behind : goal.returns-in_err-sync-clause-behind
returns-in_err-sync-clause-behind g c = λ honest.
    behind_sync g.D.SectorDisk.disk _ _ _ _ (c.loop-i.invariant.behind honest) c.sync.ensures.called c.sync.ensures.syncs

pub returns-clause-behind : goal.returns-clause-behind
returns-clause-behind g c = λ honest.
    behind_sync g.D.SectorDisk.disk _ _ _ _ (c.loop-i.invariant.behind honest) c.sync.ensures.called c.sync.ensures.syncs
