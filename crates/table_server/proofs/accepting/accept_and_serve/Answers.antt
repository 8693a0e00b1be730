use Rattle.table_server.proofs.AcceptingLemmas.{one_served, one_stopped}
use Rattle.table_server.proofs.FaultLemmas.{no_fault}
use Rattle.table_server.proofs.accepting.accept_and_serve.Goals as goal

pub returns-clause-ok : goal.returns-clause-ok
returns-clause-ok g c =
    one_served g.D.SectorDisk.disk g.N.Stream.Read.remaining g.N.Stream.Write.contents c.args.store.now c.serve.new.store
    (record { reader_old = c.in_ok-reader.reader; reader_new = c.serve.new.reader; writer_old = c.in_ok-reader.writer; writer_new = c.serve.new.writer })
    c.serve.result c.serve.ensures.ok

pub returns-clause-fault : goal.returns-clause-fault
returns-clause-fault g c =
    one_stopped g.D.SectorDisk.disk g.N.Stream.Read.remaining g.N.Stream.Write.contents c.args.store.now c.serve.new.store
    (record { reader_old = c.in_ok-reader.reader; reader_new = c.serve.new.reader; writer_old = c.in_ok-reader.writer; writer_new = c.serve.new.writer })
    c.serve.result c.serve.ensures.fault

pub returns-in_err-reader-clause-faults : goal.returns-in_err-reader-clause-faults
returns-in_err-reader-clause-faults g c = no_fault g.D.SectorDisk.disk c.args.store.now
