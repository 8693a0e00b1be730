use Rattle.std.proofs.Common.{◌≡◌, List, ◌++◌, ap, subst}
use Rattle.std.specs.Option.{option_copied}
use Rattle.bridge_cards.specs.Board.{dealer_of}
use Rattle.bridge_auction.specs.declared.call.Call.{Call}
use Rattle.bridge_config.specs.ConfigValue.{ConfigValue}
use Rattle.line_text.specs.Lines.{lines_text}
use Rattle.bridge_pbn.specs.Tags.{event_tags, player_tags, board_tags, outcome_tags, table_tags}
use Rattle.bridge_pbn.specs.Sections.{auction_lines, play_lines}
use Rattle.bridge_pbn.proofs.Pushed.{lines_then}
use Rattle.bridge_pbn.proofs.game.push_game.Goals as goal

pub returns : goal.returns
returns c =
    let configuration = c.args.config.now in
    let event = event_tags configuration c.args.board in
    let players = player_tags configuration.pairs c.args.row in
    let board = board_tags c.args.board c.args.deal.now configuration.scoring in
    let outcome = outcome_tags c.args.found.now.outcome in
    let table = table_tags c.args.row in
    let auction = auction_lines (dealer_of c.args.board) c.args.found.now.auction.now.calls in
    let play = play_lines (option_copied c.args.found.now.play) in
    let pairs = ap (λ (stated : ConfigValue). stated.pairs) c.fields-fields.ensures.fields in
    let scoring = ap (λ (stated : ConfigValue). stated.scoring) c.fields-fields.ensures.fields in
    let called = subst (λ (calls : List Call). c.push_auction.new.text.bytes ≡ c.push_table_tags.new.text.bytes ++ lines_text (auction_lines c.dealer.result calls)) c.calls.ensures.calls c.push_auction.ensures.lines in
    lines_then _ _ _ event (players ++ (board ++ (outcome ++ (table ++ (auction ++ play))))) c.push_event_tags.ensures.lines
    (lines_then _ _ _ players (board ++ (outcome ++ (table ++ (auction ++ play)))) (rw (c.as_slice.ensures.value, pairs) at c.push_player_tags.ensures.lines)
    (lines_then _ _ _ board (outcome ++ (table ++ (auction ++ play))) (rw scoring at c.push_board_tags.ensures.lines)
    (lines_then _ _ _ outcome (table ++ (auction ++ play)) c.push_outcome_tags.ensures.lines
    (lines_then _ _ _ table (auction ++ play) c.push_table_tags.ensures.lines
    (lines_then _ _ _ auction play (rw c.dealer.ensures at called) c.push_play_of.ensures)))))
