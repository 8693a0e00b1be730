-- A board: its hands, its traveller and its frequencies.
use Rattle.std.specs.Prelude.{ℕ, Bool, true, false, if◌then◌else◌, List, [], ◌∷◌, ◌++◌, codes, flat_map, Option, Some, None}
use Rattle.std.specs.Option.{option_map_or}
use Rattle.std.specs.Fmt.{decimal, signed_decimal}
use Rattle.bridge_cards.specs.Board.{dealer_of, vulnerability_on}
use Rattle.bridge_cards.specs.Seat.{seat_letter}
use Rattle.bridge_cards.specs.Vulnerability.{vulnerability_text}
use Rattle.bridge_cards.specs.declared.scoring.Scoring.{Scoring}
use Rattle.page_layout.specs.declared.format.Format.{Format}
use Rattle.page_layout.specs.declared.format.Level.TheVariants as level
use Rattle.page_layout.specs.declared.format.Section.TheVariants as section
use Rattle.page_layout.specs.Page.{heading_text, paragraph_text, section_start, section_end}
use Rattle.page_layout.specs.Table.{row_text, title_row, table_start, table_end}
use Rattle.bridge_results.specs.declared.compare.Comparison.{Comparison}
use Rattle.bridge_results.specs.declared.frequency.Frequency.{Frequency}
use Rattle.bridge_results.specs.declared.traveller.BoardLine.{BoardLine}
use Rattle.bridge_results.specs.declared.pages.columns.TheConstants.{LINE_COLUMNS, FREQUENCY_COLUMNS}
use Rattle.bridge_results.specs.Diagram.{diagram_text}
use Rattle.bridge_results.specs.declared.makeable.Makeable.{Makeable}
use Rattle.bridge_results.specs.MakeableText.{known_text}
use Rattle.bridge_results.specs.Frequencies.{frequencies_of}
use Rattle.bridge_results.specs.PlayCells.{contract_cell, declarer_cell, tricks_cell, lead_cell, score_cell, gain_cell, line_score}

-- the heading of a board
abbrev pub board_words : ℕ → List ℕ
board_words board = codes "Board " ++ decimal board

-- the dealer and the vulnerability of a board
abbrev pub deal_words : ℕ → List ℕ
deal_words board =
    ((codes "Dealer: " ++ seat_letter (dealer_of board) ∷ []) ++ codes ", vulnerable: ") ++ vulnerability_text (vulnerability_on board)

-- what stands above the hands of a board
abbrev pub board_head : Format → ℕ → List ℕ
board_head format board =
    (section_start format section.Traveller ++ heading_text format level.Part (board_words board))
    ++ paragraph_text format (deal_words board)

-- the hands of a board, once it is dealt
abbrev pub hands_text : Format → Option (List ℕ) → List ℕ
hands_text format hands = option_map_or (diagram_text format) hands []

-- what North and South gained, or else East and West, if anything can be
abbrev pub side_gain : Scoring → Option Comparison → Bool → List ℕ
side_gain scoring None ns = []
side_gain scoring (Some compared) ns = gain_cell scoring (Some (if ns then compared.ns_gain else compared.ew_gain))

-- the cells of a play: round, table, pairs, contract, declarer, lead, tricks, score, and what each side gained
abbrev pub line_cells : Scoring → BoardLine → List (List ℕ)
line_cells scoring line =
    decimal line.play.row.round ∷ decimal line.play.row.table ∷ decimal line.play.row.ns ∷ decimal line.play.row.ew
    ∷ contract_cell line.play.outcome ∷ declarer_cell line.play.outcome ∷ lead_cell line.play.lead ∷ tricks_cell line.play.outcome
    ∷ score_cell line.play.outcome (line_score line.comparison)
    ∷ side_gain scoring line.comparison true ∷ side_gain scoring line.comparison false ∷ []

-- the row of a play
abbrev pub line_row : Format → Scoring → BoardLine → List ℕ
line_row format scoring line = row_text format LINE_COLUMNS (line_cells scoring line)

-- what stands above the rows of a traveller
abbrev pub line_titles : Format → List ℕ
line_titles format =
    table_start format
    ++ title_row format LINE_COLUMNS
    (codes "Round" ∷ codes "Table" ∷ codes "NS" ∷ codes "EW" ∷ codes "Contract" ∷ codes "By" ∷ codes "Lead" ∷ codes "Tricks"
    ∷ codes "Score" ∷ codes "NS gain" ∷ codes "EW gain" ∷ [])

-- a traveller
abbrev pub traveller_text : Format → Scoring → List BoardLine → List ℕ
traveller_text format scoring lines = line_titles format ++ (flat_map (line_row format scoring) lines ++ table_end format)

-- the row of a score: how often it was made, and what each side gains by it
abbrev pub frequency_row : Format → Scoring → Frequency → List ℕ
frequency_row format scoring frequency =
    row_text format FREQUENCY_COLUMNS
    (signed_decimal frequency.score ∷ decimal frequency.count ∷ gain_cell scoring (Some frequency.ns_gain)
    ∷ gain_cell scoring (Some frequency.ew_gain) ∷ [])

-- what stands above the rows of frequencies
abbrev pub frequency_titles : Format → List ℕ
frequency_titles format =
    table_start format
    ++ title_row format FREQUENCY_COLUMNS (codes "Score" ∷ codes "Times" ∷ codes "NS gain" ∷ codes "EW gain" ∷ [])

-- frequencies
abbrev pub frequencies_text : Format → Scoring → List Frequency → List ℕ
frequencies_text format scoring frequencies =
    frequency_titles format ++ (flat_map (frequency_row format scoring) frequencies ++ table_end format)

-- the traveller and the frequencies of a board
abbrev pub board_tables : Format → Scoring → List BoardLine → List ℕ
board_tables format scoring lines =
    traveller_text format scoring lines ++ (frequencies_text format scoring (frequencies_of lines) ++ section_end format)

-- the hands of a board and what could be made, if it is known
abbrev pub deal_text : Format → ℕ → Option (List ℕ) → Option Makeable → List ℕ
deal_text format board hands known = hands_text format hands ++ known_text format board known

-- A board with the lines of its traveller: dealer, vulnerability, hands, what could be made, traveller and frequencies.
abbrev pub board_text : Format → Scoring → ℕ → Option (List ℕ) → Option Makeable → List BoardLine → List ℕ
board_text format scoring board hands known lines =
    board_head format board ++ (deal_text format board hands known ++ board_tables format scoring lines)
