use Rattle.std.proofs.Common.{◌≡◌, Some, None, ap, ◌∙◌}
use Rattle.sector_disk.proofs.CallLaws.{sync_reads}
use Rattle.sector_disk.proofs.ImageLaws.{image_is}
use Rattle.sector_disk.proofs.RunLaws.{quiet, quiet_sync, quiet_joins, only_read_leaves}
use Rattle.session_store.specs.Epochs.{epoch_in}
use Rattle.session_store.specs.Stands.{header_in}
use Rattle.session_store.proofs.AgeLemmas.{none-epoch, some-epoch}
use Rattle.session_store.proofs.copying.settle_epoch.Goals as goal

pub returns-in_err-raise_barrier-clause-quiet : goal.returns-in_err-raise_barrier-clause-quiet
returns-in_err-raise_barrier-clause-quiet g c =
    quiet_sync g.D.SectorDisk.disk _ _ _ _ (quiet g.D.SectorDisk.disk _) c.raise_barrier.ensures.called c.raise_barrier.ensures.syncs

pub returns-in_err-find_header-clause-quiet : goal.returns-in_err-find_header-clause-quiet
returns-in_err-find_header-clause-quiet g c =
    let disk = g.D.SectorDisk.disk in
    quiet_joins disk _ _ _ (quiet_sync disk _ _ _ _ (quiet disk _) c.raise_barrier.ensures.called c.raise_barrier.ensures.syncs) c.find_header.ensures.quiet

pub returns-in-None-clause-quiet : goal.returns-in-None-clause-quiet
returns-in-None-clause-quiet g c =
    let disk = g.D.SectorDisk.disk in
    quiet_joins disk _ _ _ (quiet_sync disk _ _ _ _ (quiet disk _) c.raise_barrier.ensures.called c.raise_barrier.ensures.syncs) c.find_header.ensures.quiet

pub returns-in-None-clause-epoch : goal.returns-in-None-clause-epoch
returns-in-None-clause-epoch g c = λ honest.
    let disk = g.D.SectorDisk.disk in
    let mid = disk.reads c.raise_barrier.new.disk in
    let found = c.in_ok-find_header.ensures.found (c.raise_barrier.ensures.called.stays_honest honest) in
    let is = c.in-None.is in
    let none : None ≡ header_in mid = cc in
    none-epoch mid none
    ∙ ap epoch_in (image_is _ _ (sync_reads disk _ _ _ (c.raise_barrier.ensures.syncs honest)))

pub returns-in-None-clause-settled : goal.returns-in-None-clause-settled
returns-in-None-clause-settled g c = λ honest image left.
    let disk = g.D.SectorDisk.disk in
    let read = c.find_header.ensures.quiet.only_read (c.raise_barrier.ensures.called.stays_honest honest) in
    image_is image _ ((c.in_ok-raise_barrier.ensures.syncs honest).ok.images image (only_read_leaves disk _ _ read image left))

pub returns-in-Some-clause-quiet : goal.returns-in-Some-clause-quiet
returns-in-Some-clause-quiet g c =
    let disk = g.D.SectorDisk.disk in
    quiet_joins disk _ _ _ (quiet_sync disk _ _ _ _ (quiet disk _) c.raise_barrier.ensures.called c.raise_barrier.ensures.syncs) c.find_header.ensures.quiet

pub returns-in-Some-clause-epoch : goal.returns-in-Some-clause-epoch
returns-in-Some-clause-epoch g c = λ honest.
    let disk = g.D.SectorDisk.disk in
    let mid = disk.reads c.raise_barrier.new.disk in
    let found = c.in_ok-find_header.ensures.found (c.raise_barrier.ensures.called.stays_honest honest) in
    let is = c.in-Some.is in
    let some : Some c.in-Some.header ≡ header_in mid = cc in
    some-epoch mid c.in-Some.header some
    ∙ ap epoch_in (image_is _ _ (sync_reads disk _ _ _ (c.raise_barrier.ensures.syncs honest)))

pub returns-in-Some-clause-settled : goal.returns-in-Some-clause-settled
returns-in-Some-clause-settled g c = λ honest image left.
    let disk = g.D.SectorDisk.disk in
    let read = c.find_header.ensures.quiet.only_read (c.raise_barrier.ensures.called.stays_honest honest) in
    image_is image _ ((c.in_ok-raise_barrier.ensures.syncs honest).ok.images image (only_read_leaves disk _ _ read image left))
