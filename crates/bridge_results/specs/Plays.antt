-- The plays of a session that are finished or ruled on, as they are pinned up.
use Rattle.std.specs.Prelude.{ℕ, ◌==◌, Bool, true, false, if◌then◌else◌, List, [], ◌∷◌, filter, flat_map, zip, slice_get, Option, Some, None, option_and_then}
use Rattle.std.specs.List.{filter_map}
use Rattle.bridge_movement.specs.declared.row.Row.{Row}
use Rattle.session_rules.specs.declared.outcome.Outcome.{Outcome}
use Rattle.session_rules.specs.declared.outcome.Outcome.TheVariants.{Unfinished}
use Rattle.session_rules.specs.Record.{PlainRecord}
use Rattle.session_rules.specs.Outcome.{outcome_of, HasFewTricks}
use Rattle.session_rules.specs.State.{SessionValue, record_of}
use Rattle.bridge_results.specs.declared.play.TablePlay.{TablePlay}

-- whether something came of a play: it is finished, void or adjusted
abbrev pub has_outcome : Outcome → Bool
has_outcome Unfinished = false
has_outcome _ = true

-- the play of a board by the pairs of a row with that outcome and opening lead, if something came of it
abbrev pub play_by : Row → ℕ → Outcome → Option ℕ → Option TablePlay
play_by row board outcome lead =
    if has_outcome outcome then Some (record { row = row; board = board; outcome = outcome; lead = lead }) else None

-- the opening lead: the first card that was played (Law 41A)
abbrev pub lead_of : List ℕ → Option ℕ
lead_of cards = slice_get cards 0

-- the play of a record by the pairs of a row
abbrev pub table_play_in : Row → PlainRecord → Option TablePlay
table_play_in row plain = play_by row plain.board (outcome_of plain) (lead_of plain.cards)

-- the plays of a row's records
abbrev pub plays_in : Row × List PlainRecord → List TablePlay
plays_in both = filter_map (table_play_in both.0) both.1

-- the plays of a session of which something came, by round, table and board
unfoldable pub plays_of : SessionValue → List TablePlay
plays_of s = flat_map plays_in (zip s.configuration.movement.rows s.records)

-- whether the play is of the board
abbrev pub is_of : ℕ → TablePlay → Bool
is_of board play = play.board == board

-- the plays of a board, by round and table
abbrev pub plays_on : List TablePlay → ℕ → List TablePlay
plays_on plays board = filter (is_of board) plays

-- the play of the board at an index of a row's set, if something came of it
abbrev pub table_play_at : SessionValue → Row → ℕ → Option TablePlay
table_play_at s row index =
    option_and_then (table_play_in row) (record_of s (record { round = row.round; table = row.table; index = index }))

-- the plays of a row's set, of at most three boards
abbrev pub plays_at : SessionValue → Row → List TablePlay
plays_at s row = filter_map (table_play_at s row) (1 ∷ 2 ∷ 3 ∷ [])

-- the play has no more tricks than a board has
abbrev pub HasTricksWithin : TablePlay → Type 0
HasTricksWithin play = HasFewTricks play.outcome
