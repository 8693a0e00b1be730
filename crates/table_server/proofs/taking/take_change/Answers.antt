use Rattle.std.proofs.Common.{Err, subst}
use Rattle.session_store.specs.Answers.{Submits, accepted_by}
use Rattle.session_store.specs.Store.{Continues}
use Rattle.bridge_session.specs.SessionKeeping.{session_keeping}
use Rattle.table_server.proofs.FaultLemmas.{submit_fails}
use Rattle.table_server.proofs.TakingLemmas.{fails_taking, refuses_taking}
use Rattle.table_server.proofs.taking.take_change.Goals as goal

pub returns-in-Err-Disk-clause-taken : goal.returns-in-Err-Disk-clause-taken
returns-in-Err-Disk-clause-taken g c works few =
    let disk = g.D.SectorDisk.disk in
    let old = c.args.store.now in
    let new = c.submit.new.self in
    let action = c.args.action.now in
    let answer = subst (λ fault. Submits session_keeping disk old action new (Err fault)) c.in-Err-Disk.field-0-is c.in-Err-Disk.ensures.answer in
    let call = subst (λ fault. Continues session_keeping disk old (accepted_by action (Err fault)) new) c.in-Err-Disk.field-0-is c.in-Err-Disk.ensures.continues in
    fails_taking disk old new action answer.0 answer.1 answer.2 call

pub returns-in-Err-Refused-clause-taken : goal.returns-in-Err-Refused-clause-taken
returns-in-Err-Refused-clause-taken g c works few =
    let disk = g.D.SectorDisk.disk in
    let old = c.args.store.now in
    let new = c.submit.new.self in
    let action = c.args.action.now in
    let answer = subst (λ fault. Submits session_keeping disk old action new (Err fault)) c.in-Err-Refused.field-0-is c.in-Err-Refused.ensures.answer in
    let call = subst (λ fault. Continues session_keeping disk old (accepted_by action (Err fault)) new) c.in-Err-Refused.field-0-is c.in-Err-Refused.ensures.continues in
    refuses_taking disk old new action c.in-Err-Refused.refused answer.0 answer.1 answer.2 call

pub returns-in-Ok-clause-faults : goal.returns-in-Ok-clause-faults
returns-in-Ok-clause-faults g c =
    submit_fails g.D.SectorDisk.disk c.args.store.now c.submit.new.self c.args.action.now c.submit.result c.submit.ensures.answer c.submit.ensures.no_fault

pub returns-in-Err-Refused-clause-faults : goal.returns-in-Err-Refused-clause-faults
returns-in-Err-Refused-clause-faults g c =
    submit_fails g.D.SectorDisk.disk c.args.store.now c.submit.new.self c.args.action.now c.submit.result c.submit.ensures.answer c.submit.ensures.no_fault

pub returns-in-Err-EpochsSpent-clause-faults : goal.returns-in-Err-EpochsSpent-clause-faults
returns-in-Err-EpochsSpent-clause-faults g c =
    submit_fails g.D.SectorDisk.disk c.args.store.now c.submit.new.self c.args.action.now c.submit.result c.submit.ensures.answer c.submit.ensures.no_fault

pub returns-in-Err-Disk-clause-faults : goal.returns-in-Err-Disk-clause-faults
returns-in-Err-Disk-clause-faults g c =
    submit_fails g.D.SectorDisk.disk c.args.store.now c.submit.new.self c.args.action.now c.submit.result c.submit.ensures.answer c.submit.ensures.no_fault

pub returns-in-Err-Failed-clause-faults : goal.returns-in-Err-Failed-clause-faults
returns-in-Err-Failed-clause-faults g c =
    submit_fails g.D.SectorDisk.disk c.args.store.now c.submit.new.self c.args.action.now c.submit.result c.submit.ensures.answer c.submit.ensures.no_fault

pub returns-in-Err-Batch-clause-faults : goal.returns-in-Err-Batch-clause-faults
returns-in-Err-Batch-clause-faults g c =
    submit_fails g.D.SectorDisk.disk c.args.store.now c.submit.new.self c.args.action.now c.submit.result c.submit.ensures.answer c.submit.ensures.no_fault
