-- The ScoreTable of a board: a row for each line of its traveller, in its order.
use Rattle.std.specs.Prelude.{ℕ, true, false, List, [], ◌++◌, codes, flat_map}
use Rattle.std.specs.Option.{option_map_or}
use Rattle.std.specs.Fmt.{decimal, signed_decimal}
use Rattle.bridge_auction.specs.Spelling.{bid_text, doubling_text}
use Rattle.bridge_cards.specs.declared.scoring.Scoring.{Scoring}
use Rattle.bridge_cards.specs.declared.scoring.Scoring.TheVariants.{MatchPoints, Imps}
use Rattle.bridge_movement.specs.declared.row.Row.{Row}
use Rattle.session_rules.specs.declared.outcome.Outcome.{Outcome}
use Rattle.session_rules.specs.declared.outcome.Outcome.TheVariants.{PassedOut, Played, Assigned}
use Rattle.page_layout.specs.declared.format.Align.TheVariants.{Right}
use Rattle.page_layout.specs.Table.{in_width}
use Rattle.bridge_results.specs.declared.traveller.BoardLine.{BoardLine}
use Rattle.bridge_results.specs.BoardText.{side_gain}
use Rattle.bridge_results.specs.PlayCells.{declarer_cell, lead_cell, tricks_cell, line_score}
use Rattle.results_pbn.specs.Cells.{right_cell, left_cell}

-- the columns of what was played, behind the tag's name
unfoldable pub play_columns : List ℕ
play_columns =
    codes "[ScoreTable \"Round\\2R;Table\\2R;PairId_NS\\2R;PairId_EW\\2R;Contract\\5L;Declarer\\1L;Result\\2R;Lead\\2L;Score_NS\\6R;"

-- and those of what was gained
unfoldable pub gain_columns : Scoring → List ℕ
gain_columns MatchPoints = codes "MP_NS\\6R;MP_EW\\6R\"]\n"
gain_columns Imps = codes "IMP_NS\\6R;IMP_EW\\6R\"]\n"

-- the round, the table, and the pairs that met
unfoldable pub meeting_cells : Row → List ℕ
meeting_cells row =
    ((in_width 2 Right (decimal row.round) ++ right_cell 2 (decimal row.table)) ++ right_cell 2 (decimal row.ns))
    ++ right_cell 2 (decimal row.ew)

-- the contract that a play has, by a ruling or not, or that nobody bid
abbrev pub contract_text : Outcome → List ℕ
contract_text PassedOut = codes "Pass"
contract_text (Played contract tricks) = bid_text contract.bid ++ doubling_text contract.doubling
contract_text (Assigned contract tricks) = bid_text contract.bid ++ doubling_text contract.doubling
contract_text _ = []

-- the contract, its declarer, the tricks and the opening lead
unfoldable pub outcome_cells : BoardLine → List ℕ
outcome_cells line =
    ((left_cell 5 (contract_text line.play.outcome) ++ left_cell 1 (declarer_cell line.play.outcome))
    ++ right_cell 2 (tricks_cell line.play.outcome)) ++ left_cell 2 (lead_cell line.play.lead)

-- the score of North and South, and what each side gained
unfoldable pub gain_cells : Scoring → BoardLine → List ℕ
gain_cells scoring line =
    (right_cell 6 (option_map_or signed_decimal (line_score line.comparison) [])
    ++ right_cell 6 (side_gain scoring line.comparison true)) ++ right_cell 6 (side_gain scoring line.comparison false)

-- a line's row
unfoldable pub score_row : Scoring → BoardLine → List ℕ
score_row scoring line = ((meeting_cells line.play.row ++ outcome_cells line) ++ gain_cells scoring line) ++ codes "\n"

-- the table
abbrev pub score_table : Scoring → List BoardLine → List ℕ
score_table scoring lines = (play_columns ++ gain_columns scoring) ++ flat_map (score_row scoring) lines
