use Rattle.std.proofs.Common.{inl, ◌∙◌}
use Rattle.table_server.proofs.StreamLemmas.{counted_ready, counting_as, replying_as, ends_ok, ends_err}
use Rattle.table_server.proofs.FaultLemmas.{fails_on}
use Rattle.table_server.proofs.line_serving.serve_lines.Goals as goal

pub returns-in-Ok-clause-ok : goal.returns-in-Ok-clause-ok
returns-in-Ok-clause-ok g c =
    let start = c.args.store.now in
    let read = c.in-Ok.ensures.read start c.begin-service.ensures.hearing in
    ends_ok g.D.SectorDisk.disk c.args.set start c.end_lines.new.store _ _ c.end_lines.result
    (counting_as g.D.SectorDisk.disk _ _ start c.end_lines.new.store _ _ c.end_lines.result (c.read_lines.ensures.set ∙ c.begin-service.ensures.set)
    (c.end_lines.ensures.ends start _ (g.W.Write.contents c.args.writer.now) read.0 read.1 read.2))

pub returns-in-Ok-clause-fault : goal.returns-in-Ok-clause-fault
returns-in-Ok-clause-fault g c =
    let start = c.args.store.now in
    let read = c.in-Ok.ensures.read start c.begin-service.ensures.hearing in
    ends_err g.D.SectorDisk.disk c.args.set start c.end_lines.new.store _ _ c.end_lines.result
    (counting_as g.D.SectorDisk.disk _ _ start c.end_lines.new.store _ _ c.end_lines.result (c.read_lines.ensures.set ∙ c.begin-service.ensures.set)
    (c.end_lines.ensures.ends start _ (g.W.Write.contents c.args.writer.now) read.0 read.1 read.2))

pub returns-in-Ok-clause-ready : goal.returns-in-Ok-clause-ready
returns-in-Ok-clause-ready g c =
    let start = c.args.store.now in
    let read = c.in-Ok.ensures.read start c.begin-service.ensures.hearing in
    counted_ready g.D.SectorDisk.disk c.read_lines.new.service.set start c.end_lines.new.store _ _ c.end_lines.result
    (c.end_lines.ensures.ends start _ (g.W.Write.contents c.args.writer.now) read.0 read.1 read.2)

pub returns-in-Err-clause-fault : goal.returns-in-Err-clause-fault
returns-in-Err-clause-fault g c =
    let stops = c.in-Err.ensures.fault c.args.store.now c.begin-service.ensures.hearing in
    rw stops.0 (inl (replying_as g.D.SectorDisk.disk _ _ c.args.store.now c.read_lines.new.store _ _ c.begin-service.ensures.set stops.1))

pub returns-in-Err-clause-ready : goal.returns-in-Err-clause-ready
returns-in-Err-clause-ready g c works =
    let stops = c.in-Err.ensures.fault c.args.store.now c.begin-service.ensures.hearing in
    (stops.1.cut.stopped.served.works works).1

pub returns-in-Ok-clause-faults : goal.returns-in-Ok-clause-faults
returns-in-Ok-clause-faults g c =
    let disk = g.D.SectorDisk.disk in
    let start = c.args.store.now in
    let begun = c.begin-service.new.store in
    let read = c.read_lines.new.store in
    fails_on disk start begun c.end_lines.new.store c.begin-service.ensures.faults
    (fails_on disk begun read c.end_lines.new.store c.read_lines.ensures.faults c.end_lines.ensures.faults)

pub returns-in-Err-clause-faults : goal.returns-in-Err-clause-faults
returns-in-Err-clause-faults g c =
    fails_on g.D.SectorDisk.disk c.args.store.now c.begin-service.new.store c.read_lines.new.store c.begin-service.ensures.faults c.read_lines.ensures.faults
