use Rattle.std.proofs.Common.{inr, subst}
use Rattle.std.specs.Prelude.{true}
use Rattle.line_text.specs.Streams.{Takes, TakesPrefix, stream}
use Rattle.line_replies.specs.Limit.{limit_notice}
use Rattle.table_server.specs.ServedStreams.{IsEnd}
use Rattle.table_server.proofs.StreamLemmas.{ends_stopped, ends_at_end, ends_at_limit, ends_in_notice, ends_at_fault}
use Rattle.table_server.proofs.line_serving.end_lines.Goals as goal

pub returns-in-Err-clause-ends : goal.returns-in-Err-clause-ends
returns-in-Err-clause-ends g c start reader before left end r =
    ends_stopped g.D.SectorDisk.disk start c.args.store.now c.finish.new.store c.args.service.now reader before (g.W.Write.contents c.args.writer.now)
    (g.W.Write.contents c.finish.new.writer) left c.in-Err.fault r (c.in-Err.ensures.ends start r.hearing.asked r.text r.hearing.serving)

pub returns-in-AtEnd-clause-ends : goal.returns-in-AtEnd-clause-ends
returns-in-AtEnd-clause-ends g c start reader before left end r =
    let is = subst (λ ended. IsEnd ended left reader.new) c.in-AtEnd.is end in
    ends_at_end g.D.SectorDisk.disk start c.args.store.now c.finish.new.store c.args.service.now reader before (g.W.Write.contents c.args.writer.now)
    (g.W.Write.contents c.finish.new.writer) left c.in-Ok.served r is.0 is.1 (c.in-Ok.ensures.ends start r.hearing.asked r.text r.hearing.serving) c.in-Ok.ensures.lines

pub returns-in-Ok-write_whole-clause-ends : goal.returns-in-Ok-write_whole-clause-ends
returns-in-Ok-write_whole-clause-ends g c start reader before left end r =
    let is = subst (λ ended. IsEnd ended left reader.new) c.in-AtLimit.is end in
    let notice : Takes (stream g.W.Write.contents c.finish.new.writer c.write_whole.new.writer) (limit_notice true)
    = subst (λ text. Takes (stream g.W.Write.contents c.finish.new.writer c.write_whole.new.writer) text) c.limit_notice.ensures.text c.in-Ok-write_whole.ensures.written in
    ends_at_limit g.D.SectorDisk.disk start c.args.store.now c.finish.new.store c.args.service.now reader before (g.W.Write.contents c.args.writer.now)
    (g.W.Write.contents c.finish.new.writer) (g.W.Write.contents c.write_whole.new.writer) left c.in-Ok.served r is
    (c.in-Ok.ensures.ends start r.hearing.asked r.text r.hearing.serving) c.in-Ok.ensures.lines notice

pub returns-in-Err-write_whole-clause-ends : goal.returns-in-Err-write_whole-clause-ends
returns-in-Err-write_whole-clause-ends g c start reader before left end r =
    let is = subst (λ ended. IsEnd ended left reader.new) c.in-AtLimit.is end in
    let notice : TakesPrefix (stream g.W.Write.contents c.finish.new.writer c.write_whole.new.writer) (limit_notice true)
    = subst (λ text. TakesPrefix (stream g.W.Write.contents c.finish.new.writer c.write_whole.new.writer) text) c.limit_notice.ensures.text c.in-Err-write_whole.ensures.written in
    rw c.in-Err-write_whole.ensures.fault
    (inr (ends_in_notice g.D.SectorDisk.disk start c.args.store.now c.finish.new.store c.args.service.now reader before (g.W.Write.contents c.args.writer.now)
    (g.W.Write.contents c.finish.new.writer) (g.W.Write.contents c.write_whole.new.writer) left c.in-Ok.served r is
    (c.in-Ok.ensures.ends start r.hearing.asked r.text r.hearing.serving) notice))

pub returns-in-AtFault-clause-ends : goal.returns-in-AtFault-clause-ends
returns-in-AtFault-clause-ends g c start reader before left end r =
    let is = subst (λ ended. IsEnd ended left reader.new) c.in-AtFault.is end in
    ends_at_fault g.D.SectorDisk.disk start c.args.store.now c.finish.new.store c.args.service.now reader before (g.W.Write.contents c.args.writer.now)
    (g.W.Write.contents c.finish.new.writer) left c.in-Ok.served r is (c.in-Ok.ensures.ends start r.hearing.asked r.text r.hearing.serving)
