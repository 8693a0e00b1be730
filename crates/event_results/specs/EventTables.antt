-- The plays and the rankings of several sections as tables of comma-separated values (RFC 4180): a row has its fields with commas
-- between them, and a CR and a LF. No field has a comma, a quotation mark or an end of line, so none stands in quotation marks.
use Rattle.std.specs.Prelude.{ℕ, ◌-◌, true, false, List, [], ◌++◌, codes, flat_map, slice_get, Result}
use Rattle.std.specs.List.{range_with_len}
use Rattle.std.specs.Option.{option_map_or}
use Rattle.std.specs.Fmt.{decimal}
use Rattle.bridge_cards.specs.declared.scoring.Scoring.{Scoring}
use Rattle.bridge_config.specs.ConfigValue.{Pair, player_name}
use Rattle.bridge_ranking.specs.declared.field.Field.{Field}
use Rattle.bridge_ranking.specs.declared.field.Field.TheVariants.{First, Second}
use Rattle.session_rules.specs.State.{SessionValue}
use Rattle.line_text.specs.Streams.{Stream, Written}
use Rattle.bridge_results.specs.TablesText.{after_comma, play_row as row_in_section, field_number, value_fields}
use Rattle.event_ranking.specs.declared.ranking.SectionRanked.{SectionRanked}
use Rattle.event_ranking.specs.EventRanking.{scoring_of, unplaced, IsFieldRanking}
use Rattle.event_ranking.specs.EventText.{section_text}
use Rattle.event_results.specs.declared.play.SectionPlay.{SectionPlay}
use Rattle.event_results.specs.EventTraveller.{event_traveller}

-- the letters of the section that begins a row
unfoldable pub section_field : ℕ → List ℕ
section_field section = section_text section ++ codes ","

-- ---- the plays

-- what stands above the plays
unfoldable pub play_titles : List ℕ
play_titles = codes "section,board,round,table,ns,ew,contract,by,lead,tricks,score,ns_gain,ew_gain\r\n"

-- a play's row: its section, and the row that it has in the table of that section
abbrev pub play_row : Scoring → ℕ → SectionPlay → List ℕ
play_row scoring board play = section_field play.section ++ row_in_section scoring board play.line

-- the rows of a board, in the order of its traveller
abbrev pub board_rows : List SessionValue → ℕ → List ℕ
board_rows sections board = flat_map (play_row (scoring_of sections) board) (event_traveller sections board)

-- those of boards 1 to 36
unfoldable pub all_rows : List SessionValue → List ℕ
all_rows sections = flat_map (board_rows sections) (range_with_len 1 36)

-- The plays of all sections of which something came.
abbrev pub plays_table : List SessionValue → List ℕ
plays_table sections = play_titles ++ all_rows sections

-- ---- the rankings

-- what stands above the rankings
unfoldable pub ranking_titles : List ℕ
ranking_titles = codes "section,field,place,pair,first_player,second_player,score,available,percent\r\n"

-- the section, the field, the place, the pair, and the names of its players
unfoldable pub pair_fields : List Pair → Field → SectionRanked → List ℕ
pair_fields pairs field ranked =
    ((((section_field ranked.section ++ field_number field) ++ after_comma (decimal ranked.place)) ++ after_comma (decimal ranked.pair))
    ++ after_comma (player_name pairs ranked.pair true)) ++ after_comma (player_name pairs ranked.pair false)

-- a pair's row, with its names among these pairs of its section
unfoldable pub ranked_fields : Scoring → List Pair → Field → SectionRanked → List ℕ
ranked_fields scoring pairs field ranked =
    (pair_fields pairs field ranked ++ value_fields scoring (unplaced ranked)) ++ codes "\r\n"

-- the pairs of a section, as its configuration has them
abbrev pub pairs_of : List SessionValue → ℕ → List Pair
pairs_of sections section =
    option_map_or (λ (s : SessionValue). s.configuration.pairs) (slice_get sections (section - 1)) []

-- the row of a pair of one of the sections
abbrev pub ranked_row : Scoring → List SessionValue → Field → SectionRanked → List ℕ
ranked_row scoring sections field ranked = ranked_fields scoring (pairs_of sections ranked.section) field ranked

-- the rows of a field, in order
abbrev pub field_rows : List SessionValue → Field → List SectionRanked → List ℕ
field_rows sections field ranking = flat_map (ranked_row (scoring_of sections) sections field) ranking

-- The rankings of both fields over all sections.
abbrev pub rankings_table : List SessionValue → List SectionRanked → List SectionRanked → List ℕ
rankings_table sections first second =
    ranking_titles ++ (field_rows sections First first ++ field_rows sections Second second)

-- the writer took the rankings over all sections, or at an error a prefix of them
abbrev pub WritesEventRankings : {E : Type 0} → Stream → List SessionValue → Result (Unit {0}) E → Type 0
WritesEventRankings writer sections result = (first second : List SectionRanked) × IsFieldRanking sections First first
    × IsFieldRanking sections Second second × Written writer (rankings_table sections first second) result
