-- The PBN text of a session: its games, which are the plays that are finished, not void and not adjusted, and to which no score is
-- assigned.
use Rattle.std.specs.Prelude.{ℕ, ◌-◌, Bool, true, false, if◌then◌else◌, List, [], ◌∷◌, ◌++◌, codes, flat_map, Option, Some, None, option_and_then}
use Rattle.std.specs.List.{filter_map, range_with_len}
use Rattle.bridge_cards.specs.Board.{dealer_of}
use Rattle.bridge_auction.specs.declared.call.Call.{Call}
use Rattle.bridge_play.specs.Play.{PlayValue}
use Rattle.bridge_movement.specs.declared.row.Row.{Row}
use Rattle.bridge_config.specs.ConfigValue.{ConfigValue}
use Rattle.session_rules.specs.declared.action.PlayId.{PlayId}
use Rattle.session_rules.specs.declared.outcome.Outcome.{Outcome}
use Rattle.session_rules.specs.declared.outcome.Outcome.TheVariants.{Unfinished, PassedOut, Played, Voided, Adjusted, Assigned}
use Rattle.session_rules.specs.Record.{PlainRecord, play_of}
use Rattle.session_rules.specs.Outcome.{outcome_of}
use Rattle.session_rules.specs.State.{SessionValue, deal_on, is_of_set, record_of}
use Rattle.line_text.specs.Lines.{lines_text, parted}
use Rattle.bridge_pbn.specs.Tags.{event_tags, player_tags, board_tags, outcome_tags, table_tags}
use Rattle.bridge_pbn.specs.Sections.{auction_lines, play_lines}
use Rattle.bridge_movement.specs.Boards.{boards_before}

-- the lines of a game: a board with these hands, by the pairs of a row, what came of it, its calls and its cards
abbrev pub game_lines_by : ConfigValue → Row → ℕ → List ℕ → Outcome → List Call → Option PlayValue → List (List ℕ)
game_lines_by configuration row board hands outcome calls play =
    event_tags configuration board
    ++ (player_tags configuration.pairs row
    ++ (board_tags board hands configuration.scoring
    ++ (outcome_tags outcome
    ++ (table_tags row ++ (auction_lines (dealer_of board) calls ++ play_lines play)))))

-- the lines of the game of a record
abbrev pub game_lines : ConfigValue → Row → ℕ → List ℕ → PlainRecord → List (List ℕ)
game_lines configuration row board hands plain =
    game_lines_by configuration row board hands (outcome_of plain) plain.calls (play_of hands plain)

-- whether a play is listed: it is finished, not void and not adjusted, and no score is assigned to it
abbrev pub is_listed : Outcome → Bool
is_listed Unfinished = false
is_listed PassedOut = true
is_listed (Played contract tricks) = true
is_listed Voided = false
is_listed (Adjusted ns ew) = false
is_listed (Assigned contract tricks) = false

-- the play of a board by the pairs of a row, if the board is of the row's set
abbrev pub play_at : ConfigValue → ℕ → Row → Option PlayId
play_at configuration board row =
    if is_of_set configuration row.set board
    then Some (record { round = row.round; table = row.table; index = board - boards_before configuration.boards row.set })
    else None

-- the lines of a record's play, if it is listed
abbrev pub listed_lines : ConfigValue → Row → ℕ → List ℕ → PlainRecord → Option (List (List ℕ))
listed_lines configuration row board hands plain =
    if is_listed (outcome_of plain) then Some (game_lines configuration row board hands plain) else None

-- the lines of the game of a board by the pairs of a row, if there is one; a board of a finished play is dealt
abbrev pub game_at : SessionValue → ℕ → Row → Option (List (List ℕ))
game_at s board row =
    option_and_then (λ hands. option_and_then (listed_lines s.configuration row board hands)
    (option_and_then (record_of s) (play_at s.configuration board row))) (deal_on s.deals board)

-- the games of a board: the rows of the movement stand by round, then by table
abbrev pub games_on : SessionValue → ℕ → List (List (List ℕ))
games_on s board = filter_map (game_at s board) s.configuration.movement.rows

-- the games of those boards
abbrev pub games_on_boards : SessionValue → List ℕ → List (List (List ℕ))
games_on_boards s boards = flat_map (games_on s) boards

-- the games of the session, of boards 1 to 36
unfoldable pub all_games : SessionValue → List (List (List ℕ))
all_games s = games_on_boards s (range_with_len 1 36)

-- The text: its first line, and the games by board, round and table, with an empty line between each two.
abbrev pub session_text : SessionValue → List ℕ
session_text s = lines_text (codes "% PBN 2.1" ∷ parted [] (all_games s))
