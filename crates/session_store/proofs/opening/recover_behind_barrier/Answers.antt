use Rattle.std.proofs.Common.{inl, refl, subst, sym, ap, ◌∙◌, arith}
use Rattle.std.proofs.lemmas.Result.{err_from_is_err_and}
use Rattle.sector_disk.proofs.CallLaws.{sync_reads}
use Rattle.sector_disk.proofs.ImageLaws.{image_is}
use Rattle.sector_disk.proofs.RunLaws.{quiet, quiet_sync, quiet_joins, only_read_leaves}
use Rattle.session_store.specs.Opening.{HasNext, reading}
use Rattle.session_store.specs.Stands.{recovered}
use Rattle.session_store.specs.Base.{HasEpoch}
use Rattle.session_store.proofs.OpeningLemmas.{cause-from, disk-not_memory}
use Rattle.session_store.proofs.opening.recover_behind_barrier.Goals as goal

pub returns-in_err-raise_barrier-clause-quiet : goal.returns-in_err-raise_barrier-clause-quiet
returns-in_err-raise_barrier-clause-quiet g c =
    quiet_sync g.D.SectorDisk.disk _ _ _ _ (quiet g.D.SectorDisk.disk _) c.raise_barrier.ensures.called c.raise_barrier.ensures.syncs

pub returns-in_err-raise_barrier-clause-unread : goal.returns-in_err-raise_barrier-clause-unread
returns-in_err-raise_barrier-clause-unread g c =
    let p = err_from_is_err_and c.from_residual.result c.from_residual.ensures.1 in
    rw (p.1, p.2) (record {
      cause = inl (refl, omega (arith, c.in_err-raise_barrier.ensures.called.faults_err));
      memory = λ same honest. disk-not_memory same;
    })

pub returns-in_err-raise_barrier-clause-at_rest : goal.returns-in_err-raise_barrier-clause-at_rest
returns-in_err-raise_barrier-clause-at_rest g c = λ honest.
    let p = err_from_is_err_and c.from_residual.result c.from_residual.ensures.1 in
    rw p.1 (λ other. absurd (other p.2))

pub returns-in_err-recover-clause-quiet : goal.returns-in_err-recover-clause-quiet
returns-in_err-recover-clause-quiet g c =
    let disk = g.D.SectorDisk.disk in
    quiet_joins disk _ _ _ (quiet_sync disk _ _ _ _ (quiet disk _) c.raise_barrier.ensures.called c.raise_barrier.ensures.syncs) c.recover.ensures.quiet

pub returns-clause-quiet : goal.returns-clause-quiet
returns-clause-quiet g c =
    let disk = g.D.SectorDisk.disk in
    quiet_joins disk _ _ _ (quiet_sync disk _ _ _ _ (quiet disk _) c.raise_barrier.ensures.called c.raise_barrier.ensures.syncs) c.recover.ensures.quiet

pub returns-in_err-recover-clause-unread : goal.returns-in_err-recover-clause-unread
returns-in_err-recover-clause-unread g c =
    let disk = g.D.SectorDisk.disk in
    let p = err_from_is_err_and c.from_residual-in_err-recover.result c.from_residual-in_err-recover.ensures.1 in
    rw (p.1, p.2) (record {
      cause = cause-from _ _ _ _ _ _ _ _ c.raise_barrier.ensures.called.stays_honest c.in_ok-raise_barrier.ensures.called.faults_ok
          (λ honest is. ap (reading g.K.Kept.kept) (sym (image_is _ _ (sync_reads disk _ _ _ (c.raise_barrier.ensures.syncs honest)))) ∙ is)
          c.in_err-recover.ensures.unread.cause;
      memory = λ same honest.
          subst HasNext (image_is _ _ (sync_reads disk _ _ _ (c.raise_barrier.ensures.syncs honest)))
          (c.in_err-recover.ensures.unread.memory same (c.raise_barrier.ensures.called.stays_honest honest));
    })

pub returns-in_err-recover-clause-at_rest : goal.returns-in_err-recover-clause-at_rest
returns-in_err-recover-clause-at_rest g c = λ honest.
    let disk = g.D.SectorDisk.disk in
    let read = c.recover.ensures.quiet.only_read (c.raise_barrier.ensures.called.stays_honest honest) in
    let p = err_from_is_err_and c.from_residual-in_err-recover.result c.from_residual-in_err-recover.ensures.1 in
    rw p.1 (λ other image left. image_is image _ ((c.in_ok-raise_barrier.ensures.syncs honest).ok.images image (only_read_leaves disk _ _ read image left)))

pub returns-clause-settled : goal.returns-clause-settled
returns-clause-settled g c = λ honest image left.
    let disk = g.D.SectorDisk.disk in
    let read = c.recover.ensures.quiet.only_read (c.raise_barrier.ensures.called.stays_honest honest) in
    image_is image _ ((c.in_ok-raise_barrier.ensures.syncs honest).ok.images image (only_read_leaves disk _ _ read image left))

pub returns-clause-read : goal.returns-clause-read
returns-clause-read g c =
    let kept = g.K.Kept.kept in
    let disk = g.D.SectorDisk.disk in
    let found = c.in_ok-recover.ensures.read in
    record {
      no_fault = found.no_fault ∙ c.in_ok-raise_barrier.ensures.called.faults_ok;
      more = found.more;
      same = found.same;
      state_of = λ honest.
          ap (reading kept) (sym (image_is _ _ (sync_reads disk _ _ _ (c.raise_barrier.ensures.syncs honest))))
          ∙ found.state_of (c.raise_barrier.ensures.called.stays_honest honest);
      stands = λ honest.
          ap (recovered kept) (sym (image_is _ _ (sync_reads disk _ _ _ (c.raise_barrier.ensures.syncs honest))))
          ∙ found.stands (c.raise_barrier.ensures.called.stays_honest honest);
      has_epoch = λ honest.
          subst (HasEpoch _) (image_is _ _ (sync_reads disk _ _ _ (c.raise_barrier.ensures.syncs honest)))
          (found.has_epoch (c.raise_barrier.ensures.called.stays_honest honest));
    }
