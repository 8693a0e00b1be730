-- The TotalScoreTable of a session: a row for each pair, by field and place.
use Rattle.std.specs.Prelude.{ℕ, ◌==◌, nat_lt, Bool, true, false, if◌then◌else◌, List, [], ◌++◌, codes, flat_map, fold, unsigned_abs, Option, is_some}
use Rattle.std.specs.Option.{option_map_or}
use Rattle.std.specs.Fmt.{decimal, signed_decimal}
use Rattle.line_text.specs.Decimals.{tenths_text, percent_text}
use Rattle.bridge_score.specs.declared.ranking.Ranked.{Ranked}
use Rattle.bridge_score.specs.Percent.{share_percent}
use Rattle.bridge_cards.specs.declared.scoring.Scoring.{Scoring}
use Rattle.bridge_cards.specs.declared.scoring.Scoring.TheVariants.{MatchPoints, Imps}
use Rattle.bridge_config.specs.ConfigValue.{Pair, ConfigValue, pair_names}
use Rattle.bridge_ranking.specs.declared.field.Field.{Field}
use Rattle.bridge_ranking.specs.declared.field.Field.TheVariants.{First, Second}
use Rattle.bridge_results.specs.RankingText.{ranked_items}
use Rattle.bridge_results.specs.declared.play.TablePlay.{TablePlay}
use Rattle.results_pbn.specs.declared.totals.Totals as found
use Rattle.results_pbn.specs.Cells.{right_cell}

-- the tag with the columns
unfoldable pub total_columns : Scoring → List ℕ
total_columns MatchPoints = codes "[TotalScoreTable \"Section\\1L;Rank\\2R;PairId\\2R;TotalScoreMP\\6R;TotalPercentage\\6R;Names\"]\n"
total_columns Imps = codes "[TotalScoreTable \"Section\\1L;Rank\\2R;PairId\\2R;TotalIMP\\6R;Names\"]\n"

-- where there are two fields, N for the pairs that sit North and South, and E for the others
abbrev pub section_text : Bool → Field → List ℕ
section_text true First = codes "N"
section_text true Second = codes "E"
section_text false field = codes "-"

-- the section, the place and the pair
unfoldable pub place_cells : Bool → Field → Ranked → List ℕ
place_cells two field ranked = (section_text two field ++ right_cell 2 (decimal ranked.place)) ++ right_cell 2 (decimal ranked.pair)

-- what a pair gained: matchpoints or IMPs in a column of that width, and the percentage of matchpoints
unfoldable pub value_cells : ℕ → Scoring → Ranked → List ℕ
value_cells width MatchPoints ranked =
    right_cell width (tenths_text (unsigned_abs ranked.value)) ++ right_cell 6 (percent_text (share_percent ranked))
value_cells width Imps ranked = right_cell width (signed_decimal ranked.value)

-- the names of its players as one text in quotation marks
unfoldable pub names_cell : List Pair → ℕ → List ℕ
names_cell pairs pair = (codes " \"" ++ pair_names pairs pair) ++ codes "\"\n"

-- a pair's row
unfoldable pub total_row : Bool → Scoring → List Pair → Field → Ranked → List ℕ
total_row two scoring pairs field ranked = (place_cells two field ranked ++ value_cells 6 scoring ranked) ++ names_cell pairs ranked.pair

-- the rows of a field, if there is such a field
abbrev pub field_rows : Bool → ConfigValue → Field → Option (List Ranked) → List ℕ
field_rows two configuration field ranking =
    option_map_or (flat_map (total_row two configuration.scoring configuration.pairs field)) ranking []

-- the rankings, and the board in whose game they stand
pub record Totals : Type 0 where
  pub board : ℕ
  pub first : Option (List Ranked)
  pub second : Option (List Ranked)

-- what the code keeps of them
abbrev pub seen : found.Totals → Totals
seen totals = record { board = totals.board; first = ranked_items totals.first; second = ranked_items totals.second }

-- the table
abbrev pub total_table : ConfigValue → Totals → List ℕ
total_table configuration totals =
    let two = is_some totals.second in
    total_columns configuration.scoring
    ++ (field_rows two configuration First totals.first ++ field_rows two configuration Second totals.second)

-- it stands in the game of one board
abbrev pub totals_on : ConfigValue → Totals → ℕ → List ℕ
totals_on configuration totals board = if board == totals.board then total_table configuration totals else []

-- the lower of a board and that of a play
abbrev pub lower : ℕ → TablePlay → ℕ
lower board play = if nat_lt play.board board then play.board else board

-- the first board of plays; 37 where there are none
abbrev pub first_board : List TablePlay → ℕ
first_board plays = fold lower 37 plays
