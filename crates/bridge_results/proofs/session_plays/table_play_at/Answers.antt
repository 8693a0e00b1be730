use Rattle.std.proofs.Common.{◌≡◌, ◌+◌, ◌-◌, ◌*◌, Option, sym, ap, ◌∙◌, subst}
use Rattle.std.specs.Prelude.{IfSome}
use Rattle.std.specs.Option.{option_copied, option_map}
use Rattle.bridge_config.specs.ConfigValue.{ConfigValue}
use Rattle.session_rules.specs.declared.action.PlayId.{PlayId}
use Rattle.session_rules.specs.Outcome.{outcome_of}
use Rattle.session_rules.specs.Record.{PlainRecord, play_of}
use Rattle.session_rules.specs.State.{record_of, hands_on}
use Rattle.bridge_results.specs.declared.play.TablePlay.{TablePlay}
use Rattle.bridge_results.specs.Plays.{HasTricksWithin}
use Rattle.bridge_results.proofs.Known.{row_numbers, record_at, known_play, known_few, no_play}
use Rattle.bridge_results.proofs.session_plays.table_play_at.Goals as goal
use Rattle.bridge_results.proofs.session_plays.table_play_at.Goals.{After-play_known}

pub play_id-requires-clause-round : goal.play_id-requires-clause-round
play_id-requires-clause-round c = (row_numbers c.args.session.now c.args.row c.requires.session c.requires.row).0

pub play_id-requires-clause-table : goal.play_id-requires-clause-table
play_id-requires-clause-table c = (row_numbers c.args.session.now c.args.row c.requires.session c.requires.row).1

-- the board at the index
on_board : (c : After-play_known) → c.board_at-board.result ≡ (c.args.row.set - 1) * c.args.session.now.configuration.boards + c.args.index
on_board c =
    let boards = ap (λ (k : ConfigValue). k.boards) (c.fields.ensures.fields ∙ c.config.ensures) in
    c.board_at-board.ensures ∙ ap (λ n. (c.args.row.set - 1) * n + c.args.index) boards

pub returns-in-Some-clause-play : goal.returns-in-Some-clause-play
returns-in-Some-clause-play c =
    let s = c.args.session.now in
    let row = c.args.row in
    let id : PlayId = record { round = row.round; table = row.table; index = c.args.index } in
    let asked : record_of s c.play_id.result ≡ record_of s id = ap (record_of s) c.play_id.ensures in
    c.play_known.ensures.play
    ∙ known_play s row c.args.index c.board_at-board.result c.in-Some.known.outcome (option_copied c.in-Some.known.play) (record_of s id) (on_board c)
    (λ plain is. record_at s row c.args.index plain c.requires.session c.requires.row c.requires.index.0 is)
    (c.in-Some.ensures.outcome ∙ ap (option_map outcome_of) asked)
    (c.in-Some.ensures.play ∙ ap (option_map (λ (plain : PlainRecord). play_of (hands_on s.deals plain.board) plain)) asked)

pub returns-in-Some-clause-tricks : goal.returns-in-Some-clause-tricks
returns-in-Some-clause-tricks c =
    let s = c.args.session.now in
    let row = c.args.row in
    let id : PlayId = record { round = row.round; table = row.table; index = c.args.index } in
    let asked : record_of s c.play_id.result ≡ record_of s id = ap (record_of s) c.play_id.ensures in
    subst (λ (o : Option TablePlay). IfSome o HasTricksWithin) (sym c.play_known.ensures.play)
    (known_few s row c.args.index c.board_at-board.result c.in-Some.known.outcome _ (option_copied c.in-Some.known.play) (record_of s id)
    (λ plain is. record_at s row c.args.index plain c.requires.session c.requires.row c.requires.index.0 is)
    (c.in-Some.ensures.outcome ∙ ap (option_map outcome_of) asked)
    (c.in-Some.ensures.play ∙ ap (option_map (λ (plain : PlainRecord). play_of (hands_on s.deals plain.board) plain)) asked)
    c.play_known.ensures.few)

pub returns-in-None-clause-play : goal.returns-in-None-clause-play
returns-in-None-clause-play c =
    let s = c.args.session.now in
    no_play c.args.row _ (c.in-None.ensures.outcome ∙ ap (λ (id : PlayId). option_map outcome_of (record_of s id)) c.play_id.ensures)
