use Rattle.std.proofs.Common.{◌≡◌, ℕ, ◌+◌, ◌-◌, ◌*◌, sym, ap, ◌∙◌}
use Rattle.std.specs.Option.{option_copied, option_map}
use Rattle.bridge_config.specs.ConfigValue.{ConfigValue}
use Rattle.bridge_movement.specs.declared.row.Row.{Row}
use Rattle.session_rules.specs.declared.action.PlayId.{PlayId}
use Rattle.session_rules.specs.Outcome.{outcome_of}
use Rattle.session_rules.specs.Record.{PlainRecord, bidding_of, play_of}
use Rattle.session_rules.specs.State.{record_of, hands_on}
use Rattle.bridge_results.proofs.Known.{row_numbers, record_at}
use Rattle.board_replies.proofs.KnownPlays.{known_is, none_known, known_few}
use Rattle.board_replies.proofs.known_play.known_at.Goals as goal

-- the play at an index of a row's set
abbrev id_of : Row → ℕ → PlayId
id_of row index = record { round = row.round; table = row.table; index = index }

pub play_id-requires-clause-round : goal.play_id-requires-clause-round
play_id-requires-clause-round c = (row_numbers c.args.session.now c.args.row c.requires.session c.requires.row).0

pub play_id-requires-clause-table : goal.play_id-requires-clause-table
play_id-requires-clause-table c = (row_numbers c.args.session.now c.args.row c.requires.session c.requires.row).1

pub returns-in-Some-clause-known : goal.returns-in-Some-clause-known
returns-in-Some-clause-known c =
    let s = c.args.session.now in
    let found = record_of s (id_of c.args.row c.args.index) in
    let asked : record_of s c.play_id.result ≡ found = ap (record_of s) c.play_id.ensures in
    let known = c.in-Some.known in
    let boards = ap (λ (k : ConfigValue). k.boards) (c.fields.ensures.fields ∙ c.config.ensures) in
    known_is s c.board_at-board.result (option_copied c.deal-deal.result) known.auction.now (option_copied known.play) known.outcome found
    (λ plain is. c.board_at-board.ensures ∙ ap (λ n. (c.args.row.set - 1) * n + c.args.index) boards
    ∙ sym (record_at s c.args.row c.args.index plain c.requires.session c.requires.row c.requires.index.0 is).board)
    c.deal-deal.ensures
    (c.in-Some.ensures.auction ∙ ap (option_map bidding_of) asked)
    (c.in-Some.ensures.play ∙ ap (option_map (λ (plain : PlainRecord). play_of (hands_on s.deals plain.board) plain)) asked)
    (c.in-Some.ensures.outcome ∙ ap (option_map outcome_of) asked)

pub returns-in-Some-clause-few : goal.returns-in-Some-clause-few
returns-in-Some-clause-few c =
    let s = c.args.session.now in
    let row = c.args.row in
    let asked : record_of s c.play_id.result ≡ record_of s (id_of row c.args.index) = ap (record_of s) c.play_id.ensures in
    known_few s row c.args.index (option_copied c.in-Some.known.play) c.in-Some.known.outcome (record_of s (id_of row c.args.index))
    (λ plain is. record_at s row c.args.index plain c.requires.session c.requires.row c.requires.index.0 is)
    (c.in-Some.ensures.play ∙ ap (option_map (λ (plain : PlainRecord). play_of (hands_on s.deals plain.board) plain)) asked)
    (c.in-Some.ensures.outcome ∙ ap (option_map outcome_of) asked)
    c.count_cards-cards.ensures.few

pub returns-in-None-clause-known : goal.returns-in-None-clause-known
returns-in-None-clause-known c =
    let s = c.args.session.now in
    none_known s (record_of s (id_of c.args.row c.args.index))
    (c.in-None.ensures.outcome ∙ ap (λ (id : PlayId). option_map outcome_of (record_of s id)) c.play_id.ensures)
