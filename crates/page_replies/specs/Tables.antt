-- What the director is told of all tables, line by line: no card is among it.
use Rattle.std.specs.Prelude.{ℕ, ◌-◌, ◌*◌, ◌==◌, if◌then◌else◌, is_some, ok_or, List, [], ◌∷◌, codes, length, map, slice_get, slice_index_or, Option, None, Result, Ok, Err}
use Rattle.std.specs.List.{range_with_len}
use Rattle.std.specs.Option.{option_map, option_map_or}
use Rattle.std.specs.Fmt.{decimal}
use Rattle.bridge_config.specs.ConfigValue.{ConfigValue, Pair}
use Rattle.bridge_config.specs.Then.{◌>>=◌}
use Rattle.bridge_movement.specs.declared.row.Row.{Row}
use Rattle.session_rules.specs.declared.refused.Refused.{Refused as SessionRefused}
use Rattle.session_rules.specs.declared.refused.Refused.TheVariants.{SitsOut}
use Rattle.session_rules.specs.declared.view.View.{View}
use Rattle.session_rules.specs.Answer.{Answer}
use Rattle.session_rules.specs.Refused.{refusal_name}
use Rattle.session_rules.specs.See.{Shown, shown_to, shown_turn}
use Rattle.bridge_movement.specs.Shape.{index_of_row}
use Rattle.session_rules.specs.State.{SessionValue, director_answer, is_closed}
use Rattle.page_replies.specs.Place.{round_line}
use Rattle.line_replies.specs.declared.short_reply.ShortReply.TheVariants.{Refused, BadLine}
use Rattle.line_replies.specs.KeyWord.{key_of_word}
use Rattle.line_replies.specs.ReplyTexts.{short_text, spaced_line, listed_text}
use Rattle.line_replies.specs.ViewText.{seat_word, phase_text}

-- the key of a pair's first player; pair 0 is nobody
abbrev pub first_key : List Pair → ℕ → Option ℕ
first_key pairs pair =
    if pair == 0 then None else option_map (λ (found : Pair). slice_index_or found.keys 0 0) (slice_get pairs (pair - 1))

-- what the pair of North and South may be shown of the table of a row, or why there is nothing to show
abbrev pub shown_at : SessionValue → Row → Result Shown SessionRefused
shown_at s row = do
  key ← ok_or (first_key s.configuration.pairs row.ns) SitsOut
  shown_to s key

-- How far a table is: the board, whether the cards are played or still the auction, whose turn it is, and how many calls
-- and cards were made; or why nothing is played.
abbrev pub progress_words : Result Shown SessionRefused → List (List ℕ)
progress_words (Err refused) = codes "-" ∷ refusal_name refused ∷ []
progress_words (Ok shown) =
    decimal shown.board ∷ phase_text (is_some shown.play) ∷ seat_word (shown_turn shown shown.play)
    ∷ decimal (length shown.calls) ∷ decimal shown.cards_made ∷ []

-- the words of a view that tell the same
abbrev pub view_words : View → List (List ℕ)
view_words view =
    decimal view.board ∷ phase_text view.in_play ∷ seat_word view.turn ∷ decimal view.calls_made ∷ decimal view.cards_made ∷ []

-- the pairs at the table of a row, and how far it is
abbrev pub row_words : SessionValue → Row → List (List ℕ)
row_words s row = decimal row.ns ∷ decimal row.ew ∷ progress_words (shown_at s row)

-- the line of a table in the present round
abbrev pub table_line : SessionValue → ℕ → List ℕ
table_line s table =
    spaced_line (codes "TABLE") (decimal table
    ∷ option_map_or (row_words s) (slice_get s.configuration.movement.rows (index_of_row s.configuration.movement.shape s.round table)) [])

-- the tables of the present round; once the session is closed there are none
abbrev pub tables_now : SessionValue → List ℕ
tables_now s = if is_closed s.configuration s.round then [] else range_with_len 1 s.configuration.movement.shape.tables

-- how many boards a set has, and how many there are in all
abbrev pub boards_line : ConfigValue → List ℕ
boards_line configuration =
    spaced_line (codes "BOARDS") (decimal configuration.boards ∷ decimal (configuration.movement.shape.sets * configuration.boards) ∷ [])

-- the round, the boards, and a line for each table
abbrev pub table_lines : SessionValue → List (List ℕ)
table_lines s = round_line s.configuration s.round ∷ boards_line s.configuration ∷ map (table_line s) (tables_now s)

-- the reply to the director, or the refusal of anybody else
abbrev pub tables_by : SessionValue → Answer → List ℕ
tables_by s (Err refused) = short_text (Refused refused)
tables_by s (Ok _) = listed_text (table_lines s)

-- what is answered to these bytes, which are to be the director's key
abbrev pub tables_text : SessionValue → List ℕ → List ℕ
tables_text s bytes =
    option_map_or (λ key. tables_by s (director_answer s.configuration key.0)) (key_of_word bytes) (short_text BadLine)
