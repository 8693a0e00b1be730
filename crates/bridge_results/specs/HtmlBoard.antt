-- A board in HTML: its hands and what could be made, its traveller, its frequencies, and how each table played it.
use Rattle.std.specs.Prelude.{ℕ, Bool, true, false, List, [], ◌∷◌, ◌++◌, codes, flat_map, ℤ}
use Rattle.std.specs.Option.{option_map}
use Rattle.std.specs.Fmt.{decimal}
use Rattle.bridge_cards.specs.declared.seat.Side.TheVariants.{NorthSouth}
use Rattle.bridge_cards.specs.declared.scoring.Scoring.{Scoring}
use Rattle.bridge_cards.specs.declared.scoring.Scoring.TheVariants.{MatchPoints, Imps}
use Rattle.bridge_ranking.specs.Ranking.{games_of, scores_on, available_of}
use Rattle.session_rules.specs.State.{SessionValue, deal_on}
use Rattle.page_layout.specs.declared.format.Format.TheVariants.{Html}
use Rattle.page_layout.specs.declared.format.Level.TheVariants as level
use Rattle.page_layout.specs.Page.{heading_text, paragraph_text, section_end}
use Rattle.page_layout.specs.Table.{title_row, table_end}
use Rattle.page_layout.specs.Linked.{linked_row}
use Rattle.bridge_results.specs.declared.compare.Comparison.{Comparison}
use Rattle.bridge_results.specs.declared.traveller.BoardLine.{BoardLine}
use Rattle.bridge_results.specs.declared.html.columns.TheConstants.{SHARE_LINE_COLUMNS, SUM_LINE_COLUMNS}
use Rattle.bridge_results.specs.PlayCells.{declarer_cell, score_cell, line_score}
use Rattle.bridge_results.specs.declared.analysis.PlayCosts.{PlayCosts}
use Rattle.bridge_results.specs.MakeableText.{MakeableBoards, makeable_on}
use Rattle.bridge_results.specs.Costs.{Analysis, costs_at}
use Rattle.bridge_results.specs.BoardText.{board_words, deal_words, deal_text, side_gain}
use Rattle.bridge_results.specs.ShownPairs.{Names}
use Rattle.bridge_results.specs.HtmlCells.{result_cell, perhaps_card, percent_cell}
use Rattle.bridge_results.specs.HtmlLinks.{board_target, pair_target, play_target}
use Rattle.bridge_results.specs.HtmlCourse.{course_on}
use Rattle.bridge_results.specs.HtmlOften.{often_html}

-- what was available on a board to each side
abbrev pub available_on : SessionValue → ℕ → ℕ
available_on s board = available_of (scores_on (games_of s) NorthSouth board)

-- what stands above the hands of a board
unfoldable pub board_start : ℕ → List ℕ
board_start board =
    (((codes "<section class=\"traveller\" id=\"" ++ board_target board) ++ codes "\">\n")
    ++ heading_text Html level.Part (board_words board)) ++ paragraph_text Html (deal_words board)

-- where the cells of a line lead: to both pairs' cards, and to how the board was played there
abbrev pub line_targets : BoardLine → List (List ℕ) → List (List ℕ)
line_targets line others =
    pair_target line.play.row.ns ∷ pair_target line.play.row.ew ∷ play_target line.play ∷ [] ∷ [] ∷ [] ∷ [] ∷ [] ∷ others

-- what each side gained of what it could, with what stands in the cells behind it
abbrev pub gain_cells : Scoring → BoardLine → List (List ℕ) → List (List ℕ)
gain_cells scoring line others = side_gain scoring line.comparison true ∷ side_gain scoring line.comparison false ∷ others

-- the cells of a line: the pairs, the contract and what came of it, declarer, lead, score, and what each side gained
abbrev pub html_line_cells : Scoring → BoardLine → List (List ℕ) → List (List ℕ)
html_line_cells scoring line others =
    decimal line.play.row.ns ∷ decimal line.play.row.ew ∷ result_cell line.play.outcome ∷ declarer_cell line.play.outcome
    ∷ perhaps_card line.play.lead ∷ score_cell line.play.outcome (line_score line.comparison) ∷ gain_cells scoring line others

-- what North and South gained, or else East and West
abbrev pub gain_for : Bool → Comparison → ℤ
gain_for true compared = compared.ns_gain
gain_for false compared = compared.ew_gain

-- the same in per cent of what was available
abbrev pub side_percent : BoardLine → ℕ → Bool → List ℕ
side_percent line available ns = percent_cell (option_map (gain_for ns) line.comparison) available

-- the row of a line: by matchpoints with both sides' gain in per cent
abbrev pub html_line : Scoring → ℕ → BoardLine → List ℕ
html_line MatchPoints available line =
    linked_row SHARE_LINE_COLUMNS (line_targets line ([] ∷ [] ∷ []))
    (html_line_cells MatchPoints line (side_percent line available true ∷ side_percent line available false ∷ []))
html_line Imps available line = linked_row SUM_LINE_COLUMNS (line_targets line []) (html_line_cells Imps line [])

-- the titles of a traveller
abbrev pub html_line_titles : Scoring → List ℕ
html_line_titles MatchPoints =
    title_row Html SHARE_LINE_COLUMNS
    (codes "NS" ∷ codes "EW" ∷ codes "Contract" ∷ codes "By" ∷ codes "Lead" ∷ codes "Score" ∷ codes "NS MP" ∷ codes "EW MP"
    ∷ codes "NS %" ∷ codes "EW %" ∷ [])
html_line_titles Imps =
    title_row Html SUM_LINE_COLUMNS
    (codes "NS" ∷ codes "EW" ∷ codes "Contract" ∷ codes "By" ∷ codes "Lead" ∷ codes "Score" ∷ codes "NS IMPs" ∷ codes "EW IMPs"
    ∷ [])

-- what stands above the rows of a traveller
unfoldable pub html_lines_head : Scoring → List ℕ
html_lines_head scoring = codes "<table class=\"lines\">\n<caption>Results</caption>\n" ++ html_line_titles scoring

-- the rows of a traveller
abbrev pub html_lines : Scoring → ℕ → List BoardLine → List ℕ
html_lines scoring available lines = flat_map (html_line scoring available) lines

-- a traveller
abbrev pub html_traveller : Scoring → ℕ → List BoardLine → List ℕ
html_traveller scoring available lines = html_lines_head scoring ++ (html_lines scoring available lines ++ table_end Html)

-- the traveller and the frequencies of a board
abbrev pub html_tables : Scoring → ℕ → List BoardLine → List ℕ
html_tables scoring available lines = html_traveller scoring available lines ++ often_html lines

-- how the play of a line went
abbrev pub line_course : Names → List PlayCosts → SessionValue → BoardLine → List ℕ
line_course names plays s line = course_on names (costs_at plays line.play) s line.play

-- how each table played the board
abbrev pub courses_html : Names → List PlayCosts → SessionValue → List BoardLine → List ℕ
courses_html names plays s lines = flat_map (line_course names plays s) lines

-- the hands of a board, once it is dealt, and what could be made, if it is known
abbrev pub html_hands : MakeableBoards → SessionValue → ℕ → List ℕ
html_hands boards s board = deal_text Html board (deal_on s.deals board) (makeable_on boards board)

-- the heading of a board, and its hands with what could be made
abbrev pub html_deal : MakeableBoards → SessionValue → ℕ → List ℕ
html_deal boards s board = board_start board ++ html_hands boards s board

-- the tables of a board, and how it was played
abbrev pub html_played : Names → List PlayCosts → SessionValue → ℕ → List BoardLine → List ℕ
html_played names plays s board lines =
    html_tables s.configuration.scoring (available_on s board) lines ++ (courses_html names plays s lines ++ section_end Html)

-- A board: its dealer, vulnerability and hands, what could be made, its traveller and frequencies, and how each table played it.
abbrev pub board_html : Names → Analysis → SessionValue → ℕ → List BoardLine → List ℕ
board_html names analysis s board lines = html_deal analysis.boards s board ++ html_played names analysis.plays s board lines
