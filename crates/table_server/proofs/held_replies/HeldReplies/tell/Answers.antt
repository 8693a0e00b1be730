use Rattle.std.proofs.Common.{◌≡◌, ◌∷◌, [], ◌++◌, ◌∙◌, true, false, Ok, length, inr, refl, sym, ap, subst, arith}
use Rattle.line_text.specs.Streams.{stream}
use Rattle.table_server.specs.declared.asked.Asked.TheVariants.{Told}
use Rattle.line_replies.specs.declared.fault.ServeFault.{ServeFault}
use Rattle.table_server.specs.Answered.{accepted_all, disk_errors}
use Rattle.table_server.specs.Serving.{Failed, Settled, SettlesBy}
use Rattle.table_server.specs.Standing.{standing_of}
use Rattle.table_server.proofs.CountLemmas.{counted_none}
use Rattle.table_server.proofs.Folds.{held_told}
use Rattle.table_server.proofs.ServingLemmas.{settled, told}
use Rattle.table_server.proofs.FailureLemmas.{failed_settling}
use Rattle.table_server.proofs.ServesLemmas.{replied, serves_more, serves_working, serves_after, stopped_before, stopped_settling}
use Rattle.table_server.proofs.held_replies.HeldReplies.tell.Goals as goal

pub returns-in-Err-clause-serves : goal.returns-in-Err-clause-serves
returns-in-Err-clause-serves g c start asked written w =
    let disk = g.D.SectorDisk.disk in
    let self = c.args.self.now in
    let s = c.in-Err.ensures in (
      s.fault,
      stopped_before disk start c.settle.new.store asked (Told c.args.question ∷ []) written _
          (stopped_settling disk start c.args.store.now c.settle.new.store asked self.text.bytes self.count written _ c.in-Err.fault
          w.holding s.continues c.settle.new.self.served.failed s.settled),
    )

pub returns-then-self-clause-serves : goal.returns-then-self-clause-serves
returns-then-self-clause-serves g c start asked written w =
    let disk = g.D.SectorDisk.disk in
    let self = c.args.self.now in
    let old = c.args.store.now in
    let new = c.settle.new.store in
    let s = c.in_default.ensures in
    let f = c.fail.ensures in
    let before = g.W.Write.contents c.args.writer.now in
    let between_ = g.W.Write.contents c.settle.new.writer in
    let settles : SettlesBy disk {E = ServeFault} true old new self.text.bytes self.count (stream g.W.Write.contents c.args.writer.now c.settle.new.writer) (Ok tt)
    = subst (λ b. SettlesBy disk {E = ServeFault} b old new self.text.bytes self.count (stream g.W.Write.contents c.args.writer.now c.settle.new.writer) (Ok tt))
    c.if-self.true s.settled in
    let count : c.settle.new.self.served.accepted ≡ length (accepted_all (standing_of start) asked)
    = ap (λ served. served.accepted) s.served ∙ w.counted in
    let failed : Failed disk start asked new c.settle.new.self (written ++ disk_errors self.count) = record {
      failed = settles.0;
      none_held = s.none_held;
      served = rw count (failed_settling disk start old new asked self.text.bytes self.count written w.holding settles.0 settles.1 s.continues);
    } in
    serves_after disk start new (asked ++ Told c.args.question ∷ []) c.fail.new.self written (disk_errors self.count) before between_
    (g.W.Write.contents c.fail.new.writer) c.fail.result settles.2
    (serves_more disk start new asked (Told c.args.question) c.settle.new.self c.fail.new.self (written ++ disk_errors self.count) _ c.fail.result
    failed (ap (λ served. served.accepted) f.served) f.none_held (ap (λ served. served.failed) f.served) f.written f.fault)

pub returns-clause-serves : goal.returns-clause-serves
returns-clause-serves g c start asked written w =
    let disk = g.D.SectorDisk.disk in
    let self = c.args.self.now in
    let old = c.args.store.now in
    let new = c.settle.new.store in
    let from = standing_of start in
    let s = c.in_default.ensures in
    let t = c.write_answer.ensures.told in
    let settles : SettlesBy disk {E = ServeFault} false old new self.text.bytes self.count (stream g.W.Write.contents c.args.writer.now c.settle.new.writer) (Ok tt)
    = subst (λ b. SettlesBy disk {E = ServeFault} b old new self.text.bytes self.count (stream g.W.Write.contents c.args.writer.now c.settle.new.writer) (Ok tt))
    c.if-self.false s.settled in
    let all : Settled disk start asked new (written ++ self.text.bytes)
    = settled disk start old new asked self.text.bytes self.count written w.holding settles.0 s.continues in
    let count : c.settle.new.self.served.accepted ≡ length (accepted_all from (asked ++ Told c.args.question ∷ []))
    = ap (λ served. served.accepted) s.served ∙ w.counted ∙ sym (counted_none from asked (Told c.args.question) refl) in
    serves_after disk start new (asked ++ Told c.args.question ∷ []) c.settle.new.self written self.text.bytes
    (g.W.Write.contents c.args.writer.now) (g.W.Write.contents c.settle.new.writer) (g.W.Write.contents c.write_answer.new.writer) c.write_answer.result settles.1
    (serves_working disk start new (asked ++ Told c.args.question ∷ []) c.settle.new.self (written ++ self.text.bytes) t.0 _ c.write_answer.result
    asked (Told c.args.question ∷ []) refl (omega arith) (inr (Told c.args.question, refl, λ works. refl)) (replied disk from asked (written ++ self.text.bytes) all.are_replies)
    (told disk start new asked c.args.question (written ++ self.text.bytes) t.0 all t.1) (held_told asked c.args.question)
    (s.no_text c.if-self.false) s.none_held c.if-self.false count t.2 c.write_answer.ensures.fault)
