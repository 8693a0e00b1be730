use Rattle.std.proofs.lemmas.Result.{err_from_is_err_and}
use Rattle.sector_disk.proofs.RunLaws.{quiet_joins}
use Rattle.session_store.specs.Looking.{older_header_in}
use Rattle.session_store.proofs.LookingLemmas.{seen-under, unseen-under}
use Rattle.session_store.proofs.looking.read_older.Goals as goal

pub returns-in_err-read_under-clause-unseen : goal.returns-in_err-read_under-clause-unseen
returns-in_err-read_under-clause-unseen g c =
    let found = c.in_ok-header.ensures in
    let p = err_from_is_err_and c.from_residual-in_err-read_under.result c.from_residual-in_err-read_under.ensures.1 in
    rw (p.1, p.2) (unseen-under g.K.Kept.kept g.D.SectorDisk.disk older_header_in _ _ _ _ found.quiet found.no_fault found.found _
    c.in_err-read_under.ensures.unseen)

pub returns-clause-seen : goal.returns-clause-seen
returns-clause-seen g c =
    let found = c.in_ok-header.ensures in
    seen-under g.K.Kept.kept g.D.SectorDisk.disk older_header_in _ _ _ _ found.quiet found.no_fault found.found _ _ _ _ _
    c.in_ok-read_under.ensures.seen

pub returns-in_err-read_under-clause-quiet : goal.returns-in_err-read_under-clause-quiet
returns-in_err-read_under-clause-quiet g c =
    quiet_joins g.D.SectorDisk.disk _ _ _ c.in_ok-header.ensures.quiet c.read_under.ensures.quiet

pub returns-clause-quiet : goal.returns-clause-quiet
returns-clause-quiet g c = quiet_joins g.D.SectorDisk.disk _ _ _ c.in_ok-header.ensures.quiet c.read_under.ensures.quiet
