use Rattle.std.proofs.Common.{◌-◌, take, arith, rules}
use Rattle.std.proofs.lemmas.List.{length-take-le}
use Rattle.std.proofs.lemmas.Result.{err_from_is_err_and}
use Rattle.auction_command.proofs.Heard.{heard_piece, stops_at_piece}
use Rattle.auction_command.proofs.run.answer_lines.Goals as goal

pub returns-in_err-answer_piece-clause-fault : goal.returns-in_err-answer_piece-clause-fault
returns-in_err-answer_piece-clause-fault g c =
    let e = c.in_err-answer_piece.ensures.written in
    let taken = length-take-le c.in_ok-taken.taken c.read_piece.new.piece c.in_ok-taken.ensures.bound.1 in
    let p = err_from_is_err_and c.from_residual-in_err-answer_piece.result c.from_residual-in_err-answer_piece.ensures.1 in
    rw (p.1, p.2, c.in_err-answer_piece.ensures.fault)
    (stops_at_piece c.args.auction_lines.now.dealer (g.R.Read.remaining c.args.reader.now) (g.R.Read.remaining c.loop-left.reader)
    (g.R.Read.remaining c.read_piece.new.reader) (g.W.Write.contents c.args.writer.now) (g.W.Write.contents c.loop-left.writer)
    (g.W.Write.contents c.answer_piece.new.writer) c.loop-left.auction_lines c.answer_piece.new.auction_lines c.loop-left.left c.loop-left.invariant.heard
    (take c.in_ok-taken.taken c.read_piece.new.piece) e.0 (omega (arith, taken, c.in_ok-taken.ensures.bound.0)) c.in_ok-taken.ensures.ok e.1 e.2)

pub loop-left-preserved : goal.loop-left-preserved
loop-left-preserved g c =
    let e = c.in_ok-answer_piece.ensures.written in
    let taken = length-take-le c.in_ok-taken.taken c.read_piece.new.piece c.in_ok-taken.ensures.bound.1 in
    record {
      heard = heard_piece c.args.auction_lines.now.dealer (g.R.Read.remaining c.args.reader.now) (g.R.Read.remaining c.loop-left.reader)
          (g.R.Read.remaining c.read_piece.new.reader) (g.W.Write.contents c.args.writer.now) (g.W.Write.contents c.loop-left.writer)
          (g.W.Write.contents c.answer_piece.new.writer) c.loop-left.auction_lines c.answer_piece.new.auction_lines c.loop-left.left
          (c.loop-left.left - c.in_ok-taken.taken) c.loop-left.invariant.heard (take c.in_ok-taken.taken c.read_piece.new.piece) e.0
          (omega (arith, taken, c.in_ok-taken.ensures.bound.0)) c.in_ok-taken.ensures.ok e.1 e.2;
      room = search rules;
    }
