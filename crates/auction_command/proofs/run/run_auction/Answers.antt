use Rattle.std.proofs.Common.{◌≡◌, ◌∙◌}
use Rattle.std.proofs.lemmas.Result.{err_from_is_err_and}
use Rattle.bridge_cards.specs.Board.{dealer_of}
use Rattle.auction_command.proofs.Heard.{ended}
use Rattle.auction_command.proofs.run.run_auction.Goals as goal

pub returns-clause-ok : goal.returns-clause-ok
returns-clause-ok g c =
    let dealt : c.new-auction_lines.result.dealer ≡ dealer_of c.args.board = c.new-auction_lines.ensures.dealer ∙ c.dealer.ensures in
    rw (← dealt)
    (ended c.new-auction_lines.result.dealer (g.R.Read.remaining c.args.reader.now) (g.R.Read.remaining c.answer_lines.new.reader)
    (g.W.Write.contents c.args.writer.now) (g.W.Write.contents c.answer_lines.new.writer) (g.W.Write.contents c.write_ending.new.writer)
    c.answer_lines.new.auction_lines c.in_ok-left.left c.write_ending.result c.in_ok-left.ensures.heard c.in_ok-left.ensures.end c.write_ending.ensures.written c.write_ending.ensures.fault).0

pub returns-clause-fault : goal.returns-clause-fault
returns-clause-fault g c =
    let dealt : c.new-auction_lines.result.dealer ≡ dealer_of c.args.board = c.new-auction_lines.ensures.dealer ∙ c.dealer.ensures in
    rw (← dealt)
    (ended c.new-auction_lines.result.dealer (g.R.Read.remaining c.args.reader.now) (g.R.Read.remaining c.answer_lines.new.reader)
    (g.W.Write.contents c.args.writer.now) (g.W.Write.contents c.answer_lines.new.writer) (g.W.Write.contents c.write_ending.new.writer)
    c.answer_lines.new.auction_lines c.in_ok-left.left c.write_ending.result c.in_ok-left.ensures.heard c.in_ok-left.ensures.end c.write_ending.ensures.written c.write_ending.ensures.fault).1

pub returns-in_err-left-clause-fault : goal.returns-in_err-left-clause-fault
returns-in_err-left-clause-fault g c =
    let dealt : c.new-auction_lines.result.dealer ≡ dealer_of c.args.board = c.new-auction_lines.ensures.dealer ∙ c.dealer.ensures in
    let p = err_from_is_err_and c.from_residual.result c.from_residual.ensures.1 in
    rw (p.1, p.2, ← dealt) c.in_err-left.ensures.fault
