use Rattle.std.proofs.Common.{◌≡◌, [], ◌∷◌, ap, ◌∙◌}
use Rattle.std.specs.Prelude.{codes}
use Rattle.bridge_config.specs.ConfigValue.{configuration_of}
use Rattle.line_replies.proofs.Added.{line_then, line_last}
use Rattle.line_replies.specs.ReplyTexts.{spaced_line, listed_text}
use Rattle.line_replies.proofs.Pairs.{listed_is}
use Rattle.session_rules.specs.Stage.{stage_to}
use Rattle.page_replies.specs.Place.{round_line, player_line, table_words, names_words, contract_seen, answer_words, answer_seen, place_lines}
use Rattle.line_replies.specs.TableWords.{contract_words}
use Rattle.page_replies.proofs.place.push_lines.Goals as goal

pub returns : goal.returns
returns c =
    let fields = configuration_of c.fields-fields.result.now in
    let round = c.round-round.result in
    let player = c.args.player in
    let next_line = spaced_line (codes "NEXT") (table_words fields.boards c.next_seating.result) in
    let answer_line = spaced_line (codes "ANSWER") (answer_words (answer_seen c.stage-2.result)) in
    let contract_line = spaced_line (codes "CONTRACT") (contract_words (contract_seen c.stage.result)) in
    let names_line = spaced_line (codes "NAMES") (names_words fields c.seat_by-2.result) in
    let table_line = spaced_line (codes "TABLE") (table_words fields.boards c.seat_by.result) in
    let next = next_line ∷ [] in
    let answer = answer_line ∷ next in
    let contract = contract_line ∷ answer in
    let names = names_line ∷ contract in
    let table = table_line ∷ names in
    let players = player_line fields player ∷ table in
    let lines = round_line fields round ∷ players in
    let is_listed =
    listed_is lines _ _ _ _ c.requires c.push_str.ensures.bytes
    (line_then _ _ _ (round_line fields round) players c.push_round_line.ensures.line
    (line_then _ _ _ (player_line fields player) table c.push_player_line.ensures.line
    (line_then _ _ _ table_line names c.push_seat_line.ensures.line
    (line_then _ _ _ names_line contract c.push_names_line.ensures.line
    (line_then _ _ _ contract_line answer c.push_contract_line.ensures.line
    (line_then _ _ _ answer_line next c.push_answer_line.ensures.line
    (line_last _ _ next_line c.push_seat_line-2.ensures.line)))))))
    c.push_str-2.ensures.bytes in
    let session = c.args.session.now in
    let configuration : fields ≡ session.configuration = c.fields-fields.ensures.fields ∙ c.config-config.ensures in
    let config = c.config-config.ensures in
    let is_round : round ≡ session.round = c.round-round.ensures in
    let here = c.seat_by.ensures.seating in
    let there = c.seat_by-2.ensures.seating in
    let then_there = c.next_seating.ensures in
    let stage = c.stage.ensures in
    let again = c.stage-2.ensures in
    let same : lines ≡ place_lines session.configuration session.round (stage_to session c.args.key.0) c.args.key.0 player = cc in
    is_listed ∙ ap listed_text same
