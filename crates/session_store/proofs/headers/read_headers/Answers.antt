use Rattle.session_store.proofs.SnapshotLemmas.{header_at-range}
use Rattle.sector_disk.proofs.RunLaws.{quiet_joins}
use Rattle.session_store.proofs.PartsLemmas.{quiet_read}
use Rattle.session_store.proofs.headers.read_headers.Goals as goal

pub returns-clause-first_range : goal.returns-clause-first_range
returns-clause-first_range g c = header_at-range 0 c.read.new.bytes _ c.placed_header.ensures

pub returns-clause-second_range : goal.returns-clause-second_range
returns-clause-second_range g c = header_at-range 512 c.read-2.new.bytes _ c.placed_header-2.ensures

pub returns-in_err-read-2-clause-quiet : goal.returns-in_err-read-2-clause-quiet
returns-in_err-read-2-clause-quiet g c =
    let disk = g.D.SectorDisk.disk in
    quiet_joins disk _ _ _ (quiet_read disk _ _ _ _ _ c.read.ensures.called c.read.ensures.reads)
    (quiet_read disk _ _ _ _ _ c.read-2.ensures.called c.read-2.ensures.reads)

pub returns-clause-quiet : goal.returns-clause-quiet
returns-clause-quiet g c =
    let disk = g.D.SectorDisk.disk in
    quiet_joins disk _ _ _ (quiet_read disk _ _ _ _ _ c.read.ensures.called c.read.ensures.reads)
    (quiet_read disk _ _ _ _ _ c.read-2.ensures.called c.read-2.ensures.reads)
