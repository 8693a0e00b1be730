use Rattle.std.proofs.Common.{◌≡◌, ◌+◌, Bool, sym, ap, subst, arith}
use Rattle.line_text.specs.Streams.{Written, stream}
use Rattle.table_server.specs.Answered.{disk_errors}
use Rattle.table_server.specs.Serving.{SettlesBy}
use Rattle.table_server.proofs.ServesLemmas.{confirm_stands}
use Rattle.table_server.proofs.held_replies.HeldReplies.settle.Goals as goal

pub returns-in-Err-clause-settled : goal.returns-in-Err-clause-settled
returns-in-Err-clause-settled g c =
    let disk = g.D.SectorDisk.disk in
    let self = c.args.self.now in
    let stands = confirm_stands disk c.args.store.now c.confirm-confirmed.new.self c.in-Err.field-0 c.in-Err.ensures.answer in
    let none_more : self.count + 0 ≡ self.count = omega arith in
    subst (λ (b : Bool). SettlesBy disk b c.args.store.now c.confirm-confirmed.new.self self.text.bytes self.count
    (stream g.W.Write.contents c.args.writer.now c.fail.new.writer) c.fail.result)
    (sym (ap (λ served. served.failed) c.fail.ensures.served)) (
      stands.0,
      stands.1,
      subst (λ n. Written (stream g.W.Write.contents c.args.writer.now c.fail.new.writer) (disk_errors n) c.fail.result)
          none_more c.fail.ensures.written,
    )
