use Rattle.std.proofs.Common.{◌≡◌, ◌∷◌, [], ◌++◌, ◌∙◌, length, refl, sym, ap, subst}
use Rattle.session_store.proofs.CallLaws.{continues_begins}
use Rattle.bridge_session.specs.SessionKeeping.{session_keeping}
use Rattle.table_server.specs.declared.asked.Asked.TheVariants.{BadLine, LongLine}
use Rattle.line_replies.specs.declared.short_reply.ShortReply.TheVariants as short
use Rattle.table_server.specs.Answered.{accepted_all}
use Rattle.line_replies.specs.ReplyTexts.{short_text}
use Rattle.table_server.specs.Serving.{Failed, Works, ServingBy}
use Rattle.table_server.specs.Standing.{standing_of}
use Rattle.table_server.proofs.CountLemmas.{counted_none}
use Rattle.table_server.proofs.ServingLemmas.{held_more}
use Rattle.table_server.proofs.ServesLemmas.{serves_more}
use Rattle.table_server.proofs.FaultLemmas.{no_fault}
use Rattle.table_server.proofs.held_replies.HeldReplies.answer.Goals as goal

pub returns-then-self-clause-serves : goal.returns-then-self-clause-serves
returns-then-self-clause-serves g c start before written serving =
    let disk = g.D.SectorDisk.disk in
    let f = c.fail.ensures in
    let failed : Failed disk start before c.args.store.now c.args.self.now written
    = subst (λ b. ServingBy disk b start before c.args.store.now c.args.self.now written) c.if-self.true serving in
    serves_more disk start c.args.store.now before c.args.asked c.args.self.now c.fail.new.self written _ c.fail.result
    failed (ap (λ served. served.accepted) f.served) f.none_held (ap (λ served. served.failed) f.served) f.written f.fault

pub returns-in-BadLine-clause-serves : goal.returns-in-BadLine-clause-serves
returns-in-BadLine-clause-serves g c start before written serving =
    let disk = g.D.SectorDisk.disk in
    let store = c.args.store.now in
    let self = c.args.self.now in
    let w : Works disk start before store self written = subst (λ b. ServingBy disk b start before store self written) c.if-self.false serving in
    let count : self.served.accepted ≡ length (accepted_all (standing_of start) (before ++ BadLine ∷ []))
    = w.counted ∙ sym (counted_none (standing_of start) before BadLine refl) in
    rw c.in-BadLine.is
    (c.hold.ensures.serves start (before ++ BadLine ∷ []) written
    (held_more disk start store store before BadLine self.text.bytes (short_text short.BadLine) self.count written w.holding c.requires.fits.few
    refl refl w.holding.works refl (continues_begins session_keeping disk store)) count)

pub returns-in-LongLine-clause-serves : goal.returns-in-LongLine-clause-serves
returns-in-LongLine-clause-serves g c start before written serving =
    let disk = g.D.SectorDisk.disk in
    let store = c.args.store.now in
    let self = c.args.self.now in
    let w : Works disk start before store self written = subst (λ b. ServingBy disk b start before store self written) c.if-self.false serving in
    let count : self.served.accepted ≡ length (accepted_all (standing_of start) (before ++ LongLine ∷ []))
    = w.counted ∙ sym (counted_none (standing_of start) before LongLine refl) in
    rw c.in-LongLine.is
    (c.hold-in-LongLine.ensures.serves start (before ++ LongLine ∷ []) written
    (held_more disk start store store before LongLine self.text.bytes (short_text short.LongLine) self.count written w.holding c.requires.fits.few
    refl refl w.holding.works refl (continues_begins session_keeping disk store)) count)

pub returns-then-self-clause-faults : goal.returns-then-self-clause-faults
returns-then-self-clause-faults g c = no_fault g.D.SectorDisk.disk c.args.store.now
