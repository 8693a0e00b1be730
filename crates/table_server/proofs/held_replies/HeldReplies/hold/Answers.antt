use Rattle.std.proofs.Common.{◌≡◌, ◌+◌, ◌∙◌, refl, ap, arith}
use Rattle.table_server.specs.Answered.{held_after}
use Rattle.table_server.specs.Serving.{Holding}
use Rattle.table_server.proofs.Folds.{group_whole}
use Rattle.table_server.proofs.ServesLemmas.{serves_held, serves_settled}
use Rattle.table_server.proofs.FaultLemmas.{no_fault}
use Rattle.table_server.proofs.held_replies.HeldReplies.hold.Goals as goal

pub returns-then-self-lt-HELD_LINES-clause-serves : goal.returns-then-self-lt-HELD_LINES-clause-serves
returns-then-self-lt-HELD_LINES-clause-serves g c start asked written h counted =
    serves_held g.D.SectorDisk.disk start c.args.store.now asked
    (record { text = c.push_to.new.out; count = c.args.self.now.count + 1; served = c.args.self.now.served }) written
    (g.W.Write.contents c.args.writer.now) (rw c.push_to.ensures.text h) c.requires.works counted

pub returns-clause-serves : goal.returns-clause-serves
returns-clause-serves g c start asked written h counted =
    let disk = g.D.SectorDisk.disk in
    let text = c.push_to.new.out.bytes in
    let s = c.settle.ensures in
    let holding : Holding disk start asked c.args.store.now text (c.args.self.now.count + 1) written = rw c.push_to.ensures.text h in
    let whole : held_after asked ≡ 0 =
    ap held_after h.all ∙ group_whole h.answered h.waiting h.begins h.group (omega (arith, h.count_is, h.few, c.if-self-lt-HELD_LINES.false)) in
    serves_settled disk start c.args.store.now c.settle.new.store asked text (c.args.self.now.count + 1) c.settle.new.self written
    _ c.settle.result holding whole s.continues c.settle.new.self.served.failed refl s.settled s.fault s.none_held s.no_text
    (ap (λ served. served.accepted) s.served ∙ counted)

pub returns-then-self-lt-HELD_LINES-clause-faults : goal.returns-then-self-lt-HELD_LINES-clause-faults
returns-then-self-lt-HELD_LINES-clause-faults g c = no_fault g.D.SectorDisk.disk c.args.store.now
