use Rattle.std.proofs.Common.{◌≡◌, ◌<◌, ◌+◌, ◌∷◌, [], ◌++◌, ◌∙◌, length, inl, refl, sym, ap, arith, append_assoc, length-append}
use Rattle.table_server.specs.declared.asked.Asked.TheVariants.{Change}
use Rattle.table_server.specs.Answered.{after_all, accepted_all, disk_errors}
use Rattle.line_replies.specs.ReplyTexts.{short_text}
use Rattle.table_server.specs.Serving.{accepted_count}
use Rattle.table_server.specs.Standing.{standing_of}
use Rattle.table_server.proofs.CountLemmas.{accepted_few, counted_change}
use Rattle.table_server.proofs.Folds.{all_held_one}
use Rattle.table_server.proofs.ServingLemmas.{held_more}
use Rattle.table_server.proofs.FailureLemmas.{failed_taking}
use Rattle.table_server.proofs.ServesLemmas.{replied, serves_failing}
use Rattle.table_server.proofs.FaultLemmas.{fails_on}
use Rattle.table_server.proofs.held_replies.HeldReplies.change.Goals as goal

pub returns-in-Some-clause-serves : goal.returns-in-Some-clause-serves
returns-in-Some-clause-serves g c start asked written w =
    let disk = g.D.SectorDisk.disk in
    let store = c.args.store.now in
    let action = c.args.action.now in
    let self = c.args.self.now in
    let from = standing_of start in
    let h = w.holding in
    let accepted = accepted_few (after_all from h.answered) h.waiting in
    let few : length store.pending < 64 = omega (arith, accepted, h.pending, h.count_is, c.requires.fits.few) in
    let taken = c.in-Some.ensures.taken h.works few in
    let count : self.served.accepted + c.accepted_count.result ≡ length (accepted_all from (asked ++ Change action ∷ [])) =
    ap (λ n. n + c.accepted_count.result) w.counted
    ∙ ap (λ n. length (accepted_all from asked) + n) (c.accepted_count.ensures.count ∙ ap accepted_count taken.reply_is)
    ∙ sym (counted_change from (standing_of store) asked action h.standing) in
    c.hold.ensures.serves start (asked ++ Change action ∷ []) written
    (held_more disk start store c.take_change.new.store asked (Change action) self.text.bytes (short_text c.in-Some.reply) self.count written
    h c.requires.fits.few refl (ap short_text taken.reply_is) taken.works taken.standing taken.continues) count

pub returns-in-None-clause-serves : goal.returns-in-None-clause-serves
returns-in-None-clause-serves g c start asked written w =
    let disk = g.D.SectorDisk.disk in
    let store = c.args.store.now in
    let action = c.args.action.now in
    let self = c.args.self.now in
    let from = standing_of start in
    let h = w.holding in
    let f = c.fail.ensures in
    let accepted = accepted_few (after_all from h.answered) h.waiting in
    let few : length store.pending < 64 = omega (arith, accepted, h.pending, h.count_is, c.requires.fits.few) in
    let fails = c.in-None.ensures.taken h.works few in
    let long = length-append h.waiting (Change action ∷ []) in
    let all : asked ++ Change action ∷ [] ≡ h.answered ++ (h.waiting ++ Change action ∷ [])
    = ap (λ xs. xs ++ Change action ∷ []) h.all ∙ append_assoc h.answered h.waiting (Change action ∷ []) in
    let count : c.fail.new.self.served.accepted ≡ length (accepted_all from asked) + 1 =
    ap (λ served. served.accepted) f.served ∙ ap (λ n. n + 1) w.counted in
    serves_failing disk start c.take_change.new.store (asked ++ Change action ∷ []) c.fail.new.self written (disk_errors (self.count + 1)) _ c.fail.result
    h.answered (h.waiting ++ Change action ∷ []) all (omega (arith, long, h.count_is, c.requires.fits.few))
    (inl (h.begins, all_held_one h.waiting (Change action) h.group refl)) (replied disk from h.answered written h.are_replies)
    (rw count (failed_taking disk start store c.take_change.new.store asked action self.text.bytes self.count written h c.requires.fits.few fails))
    fails.failed f.none_held (ap (λ served. served.failed) f.served) f.written f.fault

pub returns-in-Some-clause-faults : goal.returns-in-Some-clause-faults
returns-in-Some-clause-faults g c =
    fails_on g.D.SectorDisk.disk c.args.store.now c.take_change.new.store c.hold.new.store c.take_change.ensures.faults c.hold.ensures.faults
