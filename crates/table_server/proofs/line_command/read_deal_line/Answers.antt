use Rattle.std.proofs.Common.{subst, sym}
use Rattle.line_text.specs.Words.{spaced_words}
use Rattle.table_server.specs.LineCommand.{ReadsDeal, deal_words}
use Rattle.table_server.proofs.CommandLaws.{dealing_is, deals_by, no_board, no_key}
use Rattle.table_server.proofs.line_command.read_deal_line.Goals as goal

pub returns-in_err-key : goal.returns-in_err-key
returns-in_err-key c = subst (λ o. ReadsDeal (deal_words (spaced_words c.args.text.now)) o) (sym c.from_residual.ensures) (no_key (spaced_words c.args.text.now) c.in_err-key.ensures)

pub returns-in_err-board : goal.returns-in_err-board
returns-in_err-board c =
    subst (λ o. ReadsDeal (deal_words (spaced_words c.args.text.now)) o) (sym c.from_residual-in_err-board.ensures)
    (no_board (spaced_words c.args.text.now) (spaced_words c.next_key.new.text.now) c.in_ok-key.key c.in_ok-key.ensures c.in_err-board.ensures)

pub returns : goal.returns
returns c =
    deals_by _ (spaced_words c.args.text.now) c.read_dealt.result
    (dealing_is (spaced_words c.args.text.now) (spaced_words c.next_key.new.text.now) c.in_ok-key.key c.in_ok-board.board c.next_board.new.text.now c.in_ok-key.ensures c.in_ok-board.ensures)
    c.read_dealt.ensures
