use Rattle.std.proofs.Common.{◌≡◌, [], true, false, sym, ap, subst}
use Rattle.table_server.specs.Serving.{Failed, Holding, ServingBy, Works}
use Rattle.table_server.proofs.FailureLemmas.{begins_failed, begins_working}
use Rattle.table_server.proofs.ServesLemmas.{had_failed}
use Rattle.table_server.proofs.held_replies.HeldReplies.begin.Goals as goal

pub returns-in-Err-clause-serving : goal.returns-in-Err-clause-serving
returns-in-Err-clause-serving g c =
    let disk = g.D.SectorDisk.disk in
    let old = c.args.store.now in
    let new = c.new-in-Err.result in
    let had = had_failed disk old c.confirm.new.self c.in-Err.field-0 c.in-Err.ensures.answer c.requires in
    let fails : new.served.failed ≡ true = ap (λ served. served.failed) c.new-in-Err.ensures.served in
    let none : new.served.accepted ≡ 0 = ap (λ served. served.accepted) c.new-in-Err.ensures.served in
    let failed : Failed disk old [] old new [] = record {
      failed = had.0;
      none_held = c.new-in-Err.ensures.count;
      served = rw none (begins_failed disk old had.0);
    } in
    rw had.1 (subst (λ b. ServingBy disk b old [] old new []) (sym fails) failed)

pub returns-in-Ok-clause-serving : goal.returns-in-Ok-clause-serving
returns-in-Ok-clause-serving g c =
    let disk = g.D.SectorDisk.disk in
    let old = c.args.store.now in
    let new = c.confirm.new.self in
    let held = c.new.result in
    let works : held.served.failed ≡ false = ap (λ served. served.failed) c.new.ensures.served in
    let none : held.served.accepted ≡ 0 = ap (λ served. served.accepted) c.new.ensures.served in
    let holding : Holding disk old [] new held.text.bytes held.count []
    = rw (c.new.ensures.text, c.new.ensures.count) (begins_working disk old new c.in-Ok.ensures.answer c.confirm.ensures.continues c.requires) in
    let all : Works disk old [] new held [] = record { holding = holding; counted = none } in
    subst (λ b. ServingBy disk b old [] new held []) (sym works) all
