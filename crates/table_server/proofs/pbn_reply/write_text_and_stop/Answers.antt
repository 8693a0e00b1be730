use Rattle.std.specs.Prelude.{codes}
use Rattle.std.proofs.lemmas.Result.{err_from_is_err_and}
use Rattle.line_text.proofs.Streams.{prefix_longer}
use Rattle.bridge_pbn.specs.Games.{session_text}
use Rattle.table_server.specs.PbnReply.{text_and_stop}
use Rattle.line_replies.proofs.WrittenParts.{written_after}
use Rattle.table_server.proofs.pbn_reply.write_text_and_stop.Goals as goal

pub returns-in_err-write_pbn : goal.returns-in_err-write_pbn
unfolding text_and_stop
returns-in_err-write_pbn g c =
    let p = err_from_is_err_and c.from_residual.result c.from_residual.ensures.1 in
    rw p.1
    (prefix_longer (g.W.Write.contents c.args.writer.now) (g.W.Write.contents c.write_pbn.new.writer)
    (session_text c.args.session.now) (codes ".\n") c.in_err-write_pbn.ensures)

pub returns : goal.returns
unfolding text_and_stop
returns g c =
    written_after (g.W.Write.contents c.args.writer.now) (g.W.Write.contents c.write_pbn.new.writer) (g.W.Write.contents c.write_text.new.writer)
    (session_text c.args.session.now) (codes ".\n") c.write_text.result c.in_ok-write_pbn.ensures c.write_text.ensures
