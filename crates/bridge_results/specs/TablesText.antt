-- The plays and the rankings of a session as tables of comma-separated values (RFC 4180): a row has its fields with commas between
-- them, and a CR and a LF. No field has a comma, a quotation mark or an end of line, so none stands in quotation marks.
use Rattle.std.specs.Prelude.{◌≡◌, ℕ, true, false, List, [], ◌++◌, codes, flat_map, unsigned_abs, Option, Result}
use Rattle.std.specs.List.{range_with_len}
use Rattle.std.specs.Option.{option_map_or}
use Rattle.std.specs.Fmt.{decimal, signed_decimal}
use Rattle.bridge_movement.specs.declared.row.Row.{Row}
use Rattle.bridge_score.specs.declared.ranking.Ranked.{Ranked}
use Rattle.bridge_cards.specs.declared.scoring.Scoring.{Scoring}
use Rattle.bridge_cards.specs.declared.scoring.Scoring.TheVariants.{MatchPoints, Imps}
use Rattle.bridge_score.specs.Percent.{share_percent}
use Rattle.bridge_config.specs.ConfigValue.{Pair, ConfigValue, player_name}
use Rattle.bridge_ranking.specs.declared.field.Field.{Field}
use Rattle.bridge_ranking.specs.declared.field.Field.TheVariants.{First, Second}
use Rattle.session_rules.specs.State.{SessionValue}
use Rattle.line_text.specs.Decimals.{tenths_text, percent_text}
use Rattle.line_text.specs.Streams.{Stream, Written}
use Rattle.bridge_results.specs.declared.traveller.BoardLine.{BoardLine}
use Rattle.bridge_results.specs.Traveller.{traveller}
use Rattle.bridge_results.specs.PlayCells.{contract_cell, declarer_cell, tricks_cell, lead_cell, score_cell, line_score}
use Rattle.bridge_results.specs.BoardText.{side_gain}
use Rattle.bridge_results.specs.ResultsText.{IsFieldRanking}

-- a field behind a comma
abbrev pub after_comma : List ℕ → List ℕ
after_comma field = codes "," ++ field

-- ---- the plays

-- what stands above the plays
unfoldable pub play_titles : List ℕ
play_titles = codes "board,round,table,ns,ew,contract,by,lead,tricks,score,ns_gain,ew_gain\r\n"

-- the board, the round, the table, and the pairs that met
unfoldable pub meeting_fields : ℕ → Row → List ℕ
meeting_fields board row =
    (((decimal board ++ after_comma (decimal row.round)) ++ after_comma (decimal row.table)) ++ after_comma (decimal row.ns))
    ++ after_comma (decimal row.ew)

-- the contract, its declarer, the opening lead and the tricks, as a traveller has them
unfoldable pub outcome_fields : BoardLine → List ℕ
outcome_fields line =
    ((after_comma (contract_cell line.play.outcome) ++ after_comma (declarer_cell line.play.outcome))
    ++ after_comma (lead_cell line.play.lead)) ++ after_comma (tricks_cell line.play.outcome)

-- the score and what each side gained, likewise
unfoldable pub gain_fields : Scoring → BoardLine → List ℕ
gain_fields scoring line =
    (after_comma (score_cell line.play.outcome (line_score line.comparison)) ++ after_comma (side_gain scoring line.comparison true))
    ++ after_comma (side_gain scoring line.comparison false)

-- a play's row
unfoldable pub play_row : Scoring → ℕ → BoardLine → List ℕ
play_row scoring board line =
    ((meeting_fields board line.play.row ++ outcome_fields line) ++ gain_fields scoring line) ++ codes "\r\n"

-- the rows of a board, in the order of its traveller
abbrev pub board_rows : SessionValue → ℕ → List ℕ
board_rows s board = flat_map (play_row s.configuration.scoring board) (traveller s board)

-- those of boards 1 to 36
unfoldable pub all_rows : SessionValue → List ℕ
all_rows s = flat_map (board_rows s) (range_with_len 1 36)

-- the plays of which something came
abbrev pub plays_table : SessionValue → List ℕ
plays_table s = play_titles ++ all_rows s

-- ---- the rankings

-- what stands above the rankings
unfoldable pub ranking_titles : List ℕ
ranking_titles = codes "field,place,pair,first_player,second_player,score,available,percent\r\n"

-- the number of a field
abbrev pub field_number : Field → List ℕ
field_number First = codes "1"
field_number Second = codes "2"

-- the field, the place, the pair, and the names of its players
unfoldable pub pair_fields : List Pair → Field → Ranked → List ℕ
pair_fields pairs field ranked =
    (((field_number field ++ after_comma (decimal ranked.place)) ++ after_comma (decimal ranked.pair))
    ++ after_comma (player_name pairs ranked.pair true)) ++ after_comma (player_name pairs ranked.pair false)

-- the matchpoints, those available and the percentage; or the IMPs, and two empty fields
unfoldable pub value_fields : Scoring → Ranked → List ℕ
value_fields MatchPoints ranked =
    (after_comma (tenths_text (unsigned_abs ranked.value)) ++ after_comma (tenths_text ranked.available))
    ++ after_comma (percent_text (share_percent ranked))
value_fields Imps ranked = after_comma (signed_decimal ranked.value) ++ codes ",,"

-- a pair's row
unfoldable pub ranked_fields : Scoring → List Pair → Field → Ranked → List ℕ
ranked_fields scoring pairs field ranked = (pair_fields pairs field ranked ++ value_fields scoring ranked) ++ codes "\r\n"

-- the rows of a field, in order, if there is such a field
abbrev pub field_rows : ConfigValue → Field → Option (List Ranked) → List ℕ
field_rows configuration field ranking =
    option_map_or (flat_map (ranked_fields configuration.scoring configuration.pairs field)) ranking []

-- the rankings of the fields
abbrev pub rankings_table : ConfigValue → Option (List Ranked) → Option (List Ranked) → List ℕ
rankings_table configuration first second =
    ranking_titles ++ (field_rows configuration First first ++ field_rows configuration Second second)

-- the text is the rankings of the session
abbrev pub IsRankingsTable : SessionValue → List ℕ → Type 0
IsRankingsTable s text = (first second : Option (List Ranked)) × IsFieldRanking s First first × IsFieldRanking s Second second
    × (text ≡ rankings_table s.configuration first second)

-- the writer took the rankings of the session, or at an error a prefix of them
abbrev pub WritesRankings : {E : Type 0} → Stream → SessionValue → Result (Unit {0}) E → Type 0
WritesRankings writer s result = (first second : Option (List Ranked)) × IsFieldRanking s First first × IsFieldRanking s Second second
    × Written writer (rankings_table s.configuration first second) result
