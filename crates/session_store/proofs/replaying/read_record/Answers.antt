use Rattle.std.proofs.Common.{ap, ◌∙◌, arith}
use Rattle.session_store.specs.Form.{entry_in}
use Rattle.std.proofs.lemmas.Result.{err_from_is_err_and}
use Rattle.session_store.proofs.PartsLemmas.{quiet_read}
use Rattle.session_store.proofs.replaying.read_record.Goals as goal

pub returns-in_err-read-clause-quiet : goal.returns-in_err-read-clause-quiet
returns-in_err-read-clause-quiet g c =
    quiet_read g.D.SectorDisk.disk c.args.disk.now c.read.new.self _ _ _ c.read.ensures.called c.read.ensures.reads

pub returns-in_err-read-clause-fault : goal.returns-in_err-read-clause-fault
returns-in_err-read-clause-fault g c =
    let p = err_from_is_err_and c.from_residual.result c.from_residual.ensures.1 in
    rw p.1 (omega (arith, c.in_err-read.ensures.called.faults_err))

pub returns-clause-quiet : goal.returns-clause-quiet
returns-clause-quiet g c =
    quiet_read g.D.SectorDisk.disk c.args.disk.now c.read.new.self _ _ _ c.read.ensures.called c.read.ensures.reads

pub returns-clause-entry : goal.returns-clause-entry
returns-clause-entry g c = λ honest.
    c.read_entry.ensures ∙ ap (entry_in g.K.Kept.kept c.args.format c.args.epoch c.args.number) (c.in_ok-read.ensures.reads honest).given
