use Rattle.std.proofs.Common.{◌≡◌, ◌∙◌, [], length, refl, sym, ap, subst, append-nil}
use Rattle.std.proofs.KnownBytes.{Appends-nil}
use Rattle.table_server.specs.Answered.{accepted_all}
use Rattle.table_server.specs.Serving.{Failed, Works, ServingBy}
use Rattle.table_server.specs.Standing.{standing_of}
use Rattle.table_server.proofs.ServesLemmas.{ends_settled, stopped_settling}
use Rattle.table_server.proofs.FaultLemmas.{no_fault}
use Rattle.table_server.proofs.held_replies.HeldReplies.finish.Goals as goal

pub returns-then-self-clause-ends : goal.returns-then-self-clause-ends
returns-then-self-clause-ends g c start asked written serving =
    let disk = g.D.SectorDisk.disk in
    let failed : Failed disk start asked c.args.store.now c.args.self.now written
    = subst (λ b. ServingBy disk b start asked c.args.store.now c.args.self.now written) c.if-self.true serving in
    ([], Appends-nil (g.W.Write.contents c.args.writer.now), rw (append-nil written) failed.served, c.if-self.true ∙ sym failed.failed)

pub returns-in-Err-clause-ends : goal.returns-in-Err-clause-ends
returns-in-Err-clause-ends g c start asked written serving =
    let disk = g.D.SectorDisk.disk in
    let self = c.args.self.now in
    let s = c.in-Err.ensures in
    let w : Works disk start asked c.args.store.now self written
    = subst (λ b. ServingBy disk b start asked c.args.store.now self written) c.if-self.false serving in (
      s.fault,
      stopped_settling disk start c.args.store.now c.settle.new.store asked self.text.bytes self.count written _ c.in-Err.fault
          w.holding s.continues c.settle.new.self.served.failed s.settled,
    )

pub returns-clause-ends : goal.returns-clause-ends
returns-clause-ends g c start asked written serving =
    let disk = g.D.SectorDisk.disk in
    let self = c.args.self.now in
    let s = c.in_default.ensures in
    let w : Works disk start asked c.args.store.now self written
    = subst (λ b. ServingBy disk b start asked c.args.store.now self written) c.if-self.false serving in
    let count : c.settle.new.self.served.accepted ≡ length (accepted_all (standing_of start) asked)
    = ap (λ served. served.accepted) s.served ∙ w.counted in
    ends_settled disk start c.args.store.now c.settle.new.store asked self.text.bytes self.count c.settle.new.self written _
    w.holding s.continues c.settle.new.self.served.failed refl s.settled count

pub returns-then-self-clause-faults : goal.returns-then-self-clause-faults
returns-then-self-clause-faults g c = no_fault g.D.SectorDisk.disk c.args.store.now
