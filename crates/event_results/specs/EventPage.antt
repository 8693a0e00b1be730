-- The results of several sections as a page.
use Rattle.std.specs.Prelude.{ℕ, ◌+◌, List, [], ◌∷◌, ◌++◌, codes, length, flat_map, slice_get, slice_index_or, Result}
use Rattle.std.specs.List.{range_with_len}
use Rattle.std.specs.Option.{option_map_or}
use Rattle.bridge_cards.specs.declared.scoring.Scoring.{Scoring}
use Rattle.bridge_ranking.specs.declared.field.Field.{Field}
use Rattle.bridge_ranking.specs.declared.field.Field.TheVariants.{First, Second}
use Rattle.session_rules.specs.State.{SessionValue}
use Rattle.line_text.specs.Streams.{Stream, Written}
use Rattle.page_layout.specs.declared.format.Format.{Format}
use Rattle.page_layout.specs.Page.{section_end, page_end}
use Rattle.page_layout.specs.Table.{row_text, title_row, table_start, caption_text, table_end}
use Rattle.event_results.specs.EventHead.{event_head}
use Rattle.bridge_results.specs.MakeableText.{MakeableBoards, makeable_on}
use Rattle.bridge_results.specs.BoardText.{board_head, deal_text, line_cells}
use Rattle.bridge_results.specs.ResultsText.{sheet_head}
use Rattle.event_ranking.specs.declared.ranking.SectionRanked.{SectionRanked}
use Rattle.event_ranking.specs.declared.sheet.Among.{Among}
use Rattle.event_ranking.specs.declared.sheet.Among.TheVariants.{Event, Section}
use Rattle.event_ranking.specs.Dealt.{first_deal}
use Rattle.event_ranking.specs.EventRanking.{scoring_of}
use Rattle.event_ranking.specs.EventText.{section_text, sheet_text}
use Rattle.event_results.specs.declared.columns.TheConstants.{LINE_COLUMNS}
use Rattle.event_results.specs.declared.play.SectionPlay.{SectionPlay}
use Rattle.event_results.specs.EventTraveller.{event_traveller}
use Rattle.event_results.specs.Rankings.{RankingsValue}
use Rattle.event_results.specs.Kept.{AreFieldRankings}

-- ---- the rankings

-- a ranking as a sheet, if it has a line
abbrev pub ranked_sheet : Format → List SessionValue → Among → Field → List SectionRanked → List ℕ
ranked_sheet format sections among field [] = []
ranked_sheet format sections among field (ranked ∷ ranking) = sheet_text format sections among field (ranked ∷ ranking)

-- the rankings of both fields
abbrev pub both_sheets : Format → List SessionValue → Among → List SectionRanked → List SectionRanked → List ℕ
both_sheets format sections among first second =
    ranked_sheet format sections among First first ++ ranked_sheet format sections among Second second

-- those of the section at an index
abbrev pub section_sheets : Format → List SessionValue → RankingsValue → RankingsValue → ℕ → List ℕ
section_sheets format sections first second index =
    both_sheets format sections (Section (index + 1)) (slice_index_or first.by_section index []) (slice_index_or second.by_section index [])

-- the rankings over all sections, and those of each section
abbrev pub all_sheets : Format → List SessionValue → RankingsValue → RankingsValue → List ℕ
all_sheets format sections first second =
    both_sheets format sections Event first.over_all second.over_all
    ++ flat_map (section_sheets format sections first second) (range_with_len 0 (length sections))

-- ---- the boards

-- the hands of a board, once it is dealt, and what could be made, if it is known
abbrev pub board_deal : Format → MakeableBoards → List SessionValue → ℕ → List ℕ
board_deal format boards sections board = deal_text format board (first_deal sections board) (makeable_on boards board)

-- the row of a play: its section, and the cells that it has in the traveller of that section
abbrev pub line_row : Format → Scoring → SectionPlay → List ℕ
line_row format scoring play = row_text format LINE_COLUMNS (section_text play.section ∷ line_cells scoring play.line)

-- what stands above the rows of a traveller
abbrev pub line_titles : Format → List ℕ
line_titles format =
    (table_start format ++ caption_text format (codes "Results"))
    ++ title_row format LINE_COLUMNS
    (codes "Section" ∷ codes "Round" ∷ codes "Table" ∷ codes "NS" ∷ codes "EW" ∷ codes "Contract" ∷ codes "By" ∷ codes "Lead"
    ∷ codes "Tricks" ∷ codes "Score" ∷ codes "NS gain" ∷ codes "EW gain" ∷ [])

-- a traveller
abbrev pub traveller_text : Format → Scoring → List SectionPlay → List ℕ
traveller_text format scoring lines = line_titles format ++ (flat_map (line_row format scoring) lines ++ table_end format)

-- the traveller of a board, and what ends the board
abbrev pub board_tables : Format → List SessionValue → List SectionPlay → List ℕ
board_tables format sections lines = traveller_text format (scoring_of sections) lines ++ section_end format

-- a board: its dealer, vulnerability and hands, what could be made, and its traveller
abbrev pub board_text : Format → MakeableBoards → List SessionValue → ℕ → List SectionPlay → List ℕ
board_text format boards sections board lines =
    board_head format board ++ (board_deal format boards sections board ++ board_tables format sections lines)

-- the text of a board with these lines, if it was played
abbrev pub played_text : Format → MakeableBoards → List SessionValue → ℕ → List SectionPlay → List ℕ
played_text format boards sections board [] = []
played_text format boards sections board (line ∷ lines) = board_text format boards sections board (line ∷ lines)

-- the text of a board, if it was played
abbrev pub board_on : Format → MakeableBoards → List SessionValue → ℕ → List ℕ
board_on format boards sections board = played_text format boards sections board (event_traveller sections board)

-- the boards that were played, of boards 1 to 36
unfoldable pub all_boards : Format → MakeableBoards → List SessionValue → List ℕ
all_boards format boards sections = flat_map (board_on format boards sections) (range_with_len 1 36)

-- the sheet of the boards
abbrev pub boards_text : Format → MakeableBoards → List SessionValue → List ℕ
boards_text format boards sections =
    sheet_head format (codes "Boards") ++ (all_boards format boards sections ++ section_end format)

-- ---- the page

-- the head of the page, by the first section's configuration
abbrev pub first_event : Format → List SessionValue → List ℕ
first_event format sections =
    option_map_or (λ (s : SessionValue). event_head format s.configuration (length sections)) (slice_get sections 0) []

-- the boards, and what ends the page
abbrev pub rest_text : Format → MakeableBoards → List SessionValue → List ℕ
rest_text format boards sections = boards_text format boards sections ++ page_end format

-- The page: the event, the rankings over all sections and of each section, and the boards.
abbrev pub page_text : Format → MakeableBoards → List SessionValue → RankingsValue → RankingsValue → List ℕ
page_text format boards sections first second =
    first_event format sections ++ (all_sheets format sections first second ++ rest_text format boards sections)

-- the writer took the page of the sections with what could be made and with the rankings of each field, or at an error a prefix of it
abbrev pub WritesEventPage : {E : Type 0} → Stream → Format → MakeableBoards → List SessionValue → Result (Unit {0}) E → Type 0
WritesEventPage writer format boards sections result =
    (first second : RankingsValue) × AreFieldRankings sections First first × AreFieldRankings sections Second second
    × Written writer (page_text format boards sections first second) result
