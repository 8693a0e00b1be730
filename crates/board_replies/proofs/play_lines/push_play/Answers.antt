use Rattle.std.proofs.Common.{[], ◌∷◌, map}
use Rattle.std.specs.Prelude.{codes, option_and_then}
use Rattle.std.specs.Option.{option_copied}
use Rattle.bridge_auction.specs.Spelling.{call_text}
use Rattle.bridge_config.specs.ConfigValue.{configuration_of}
use Rattle.line_replies.proofs.Added.{line_then, line_last}
use Rattle.line_replies.specs.ReplyTexts.{spaced_line}
use Rattle.board_replies.specs.PlayLines.{board_line, names_line, deal_word, cards_words, claim_told, claim_words, result_line}
use Rattle.board_replies.proofs.OwnTexts.{then_ok}
use Rattle.board_replies.proofs.play_lines.push_play.Goals as goal

pub returns : goal.returns
returns c =
    let board = board_line c.args.row c.args.index c.args.side c.args.known.now.board in
    let names = names_line (configuration_of c.args.fields.now) c.args.row in
    let deal = spaced_line (codes "DEAL") (deal_word (option_copied c.args.known.now.deal) ∷ []) in
    let calls = spaced_line (codes "CALLS") (map call_text c.calls.result.now) in
    let play = option_copied c.args.known.now.play in
    let cards = spaced_line (codes "CARDS") (cards_words play) in
    let claim = spaced_line (codes "CLAIM") (claim_words (option_and_then (claim_told c.args.side) play)) in
    let result = result_line c.args.known.now.board c.args.known.now.outcome in
    let from_claim = claim ∷ result ∷ [] in
    let from_cards = cards ∷ from_claim in
    let from_calls = calls ∷ from_cards in
    let from_deal = deal ∷ from_calls in
    rw (← c.calls.ensures.calls)
    (then_ok c.push_result_line.result
    (λ last. line_then _ _ _ board (names ∷ from_deal) c.in_ok-push_board_line.ensures
    (line_then _ _ _ names from_deal c.in_ok-push_names_line.ensures
    (line_then _ _ _ deal from_calls c.in_ok-push_deal_line.ensures
    (line_then _ _ _ calls from_cards c.in_ok-push_calls_line.ensures
    (line_then _ _ _ cards from_claim c.in_ok-push_cards_line.ensures
    (line_then _ _ _ claim (result ∷ []) c.in_ok-push_claim_line.ensures
    (line_last _ _ result last)))))))
    c.push_result_line.ensures)
