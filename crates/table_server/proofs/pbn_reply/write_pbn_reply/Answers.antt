use Rattle.std.specs.Prelude.{codes}
use Rattle.std.proofs.lemmas.Result.{err_from_is_err_and}
use Rattle.line_text.proofs.Streams.{prefix_longer}
use Rattle.table_server.specs.PbnReply.{text_and_stop}
use Rattle.line_replies.proofs.WrittenParts.{written_after}
use Rattle.table_server.proofs.pbn_reply.write_pbn_reply.Goals as goal

pub returns-in_err-write_text : goal.returns-in_err-write_text
returns-in_err-write_text g c =
    let p = err_from_is_err_and c.from_residual.result c.from_residual.ensures.1 in
    rw p.1
    (prefix_longer (g.W.Write.contents c.args.writer.now) (g.W.Write.contents c.write_text.new.writer)
    (codes "OK\n") (text_and_stop c.args.session.now) c.in_err-write_text.ensures)

pub returns : goal.returns
returns g c =
    written_after (g.W.Write.contents c.args.writer.now) (g.W.Write.contents c.write_text.new.writer) (g.W.Write.contents c.write_text_and_stop.new.writer)
    (codes "OK\n") (text_and_stop c.args.session.now) c.write_text_and_stop.result c.in_ok-write_text.ensures c.write_text_and_stop.ensures
