-- The results of a session as a page.
use Rattle.std.specs.Prelude.{◌≡◌, ℕ, List, [], ◌∷◌, ◌++◌, codes, flat_map, Option, None, Result, IfSome, is_some}
use Rattle.std.specs.List.{range_with_len}
use Rattle.std.specs.Option.{option_map_or}
use Rattle.bridge_score.specs.declared.ranking.Ranked.{Ranked}
use Rattle.bridge_config.specs.ConfigValue.{ConfigValue}
use Rattle.bridge_ranking.specs.declared.field.Field.{Field}
use Rattle.bridge_ranking.specs.declared.field.Field.TheVariants.{First, Second}
use Rattle.bridge_ranking.specs.Ranking.{has_field, lines_of, IsRankingOf}
use Rattle.session_rules.specs.State.{SessionValue, deal_on}
use Rattle.line_text.specs.Streams.{Stream, Written}
use Rattle.page_layout.specs.declared.format.Format.{Format}
use Rattle.page_layout.specs.declared.format.Format.TheVariants.{Plain, Html}
use Rattle.page_layout.specs.declared.format.Level.TheVariants as level
use Rattle.page_layout.specs.declared.format.Section.TheVariants as section
use Rattle.page_layout.specs.Page.{page_end, heading_text, section_start, section_end}
use Rattle.bridge_results.specs.declared.traveller.BoardLine.{BoardLine}
use Rattle.bridge_results.specs.Traveller.{traveller}
use Rattle.bridge_results.specs.ScoreCard.{score_card_of}
use Rattle.bridge_results.specs.ShownPairs.{Names}
use Rattle.bridge_results.specs.EventText.{event_text}
use Rattle.bridge_results.specs.RankingText.{field_text}
use Rattle.bridge_results.specs.MakeableText.{MakeableBoards, makeable_on}
use Rattle.bridge_results.specs.Costs.{Analysis, no_analysis}
use Rattle.bridge_results.specs.BoardText.{board_text}
use Rattle.bridge_results.specs.CardText.{score_card_text}
use Rattle.bridge_results.specs.HtmlPage.{page_html}

-- the ranking of a field, exactly where there is such a field
pub record IsFieldRanking (s : SessionValue) (field : Field) (ranking : Option (List Ranked)) : Type 0 where
  pub there : is_some ranking ≡ has_field s.configuration.movement.shape field
  pub ranked : IfSome ranking (IsRankingOf s.configuration.scoring (lines_of s field))

-- the text of a field, if there is such a field
abbrev pub ranked_text : Format → Names → ConfigValue → Field → Option (List Ranked) → List ℕ
ranked_text format names configuration field ranking =
    option_map_or (field_text format configuration.scoring names configuration.pairs field) ranking []

-- what begins a sheet of that heading
abbrev pub sheet_head : Format → List ℕ → List ℕ
sheet_head format heading = section_start format section.Sheet ++ heading_text format level.Sheet heading

-- the text of a board with these lines, if it was played
abbrev pub played_text : Format → MakeableBoards → SessionValue → ℕ → List BoardLine → List ℕ
played_text format boards s board [] = []
played_text format boards s board (line ∷ lines) =
    board_text format s.configuration.scoring board (deal_on s.deals board) (makeable_on boards board) (line ∷ lines)

-- the text of a board, if it was played
abbrev pub board_on : Format → MakeableBoards → SessionValue → ℕ → List ℕ
board_on format boards s board = played_text format boards s board (traveller s board)

-- the boards that were played, of boards 1 to 36
unfoldable pub all_boards : Format → MakeableBoards → SessionValue → List ℕ
all_boards format boards s = flat_map (board_on format boards s) (range_with_len 1 36)

-- the sheet of the boards
abbrev pub boards_text : Format → MakeableBoards → SessionValue → List ℕ
boards_text format boards s = sheet_head format (codes "Boards") ++ (all_boards format boards s ++ section_end format)

-- the card of a pair
abbrev pub card_on : Format → Names → SessionValue → ℕ → List ℕ
card_on format names s pair =
    score_card_text format s.configuration.scoring names s.configuration.pairs pair (score_card_of s pair)

-- the cards of all pairs
unfoldable pub all_cards : Format → Names → SessionValue → List ℕ
all_cards format names s = flat_map (card_on format names s) (range_with_len 1 s.configuration.movement.shape.pairs)

-- the sheet of the score cards
abbrev pub cards_text : Format → Names → SessionValue → List ℕ
cards_text format names s = sheet_head format (codes "Score cards") ++ (all_cards format names s ++ section_end format)

-- the rankings of the fields
abbrev pub rankings_text : Format → Names → ConfigValue → Option (List Ranked) → Option (List Ranked) → List ℕ
rankings_text format names configuration first second =
    ranked_text format names configuration First first ++ ranked_text format names configuration Second second

-- the event and the rankings
unfoldable pub front_text : Format → Names → ConfigValue → Option (List Ranked) → Option (List Ranked) → List ℕ
front_text format names configuration first second =
    event_text format configuration ++ rankings_text format names configuration first second

-- the boards and the score cards, and the end of the page
unfoldable pub sheets_text : Format → Names → MakeableBoards → SessionValue → List ℕ
sheets_text format names boards s = boards_text format boards s ++ (cards_text format names s ++ page_end format)

-- the page in plain text
abbrev pub plain_page : Names → MakeableBoards → SessionValue → Option (List Ranked) → Option (List Ranked) → List ℕ
plain_page names boards s first second =
    front_text Plain names s.configuration first second ++ sheets_text Plain names boards s

-- The page: the event, the rankings, the boards and the score cards, with the names of a list or the configuration's, and with what
-- could be made on the boards of which it is known; in HTML with links between its parts, and with each table's auction and play.
abbrev pub named_page_text : Format → Names → Analysis → SessionValue → Option (List Ranked) → Option (List Ranked) → List ℕ
named_page_text Plain names analysis s first second = plain_page names analysis.boards s first second
named_page_text Html names analysis s first second = page_html names analysis s first second

-- the page with the configuration's names, and without what could be made
abbrev pub page_text : Format → SessionValue → Option (List Ranked) → Option (List Ranked) → List ℕ
page_text format s first second = named_page_text format None no_analysis s first second

-- the text is the page of the session's results with these names and what could be made, and with the ranking of each field
abbrev pub IsNamedPageText : Format → Names → Analysis → SessionValue → List ℕ → Type 0
IsNamedPageText format names analysis s text = (first second : Option (List Ranked)) × IsFieldRanking s First first × IsFieldRanking s Second second
    × (text ≡ named_page_text format names analysis s first second)

-- with the configuration's names, and without what could be made
abbrev pub IsPageText : Format → SessionValue → List ℕ → Type 0
IsPageText format s text = IsNamedPageText format None no_analysis s text

-- the writer took the page of the session's results with these names and what could be made, or at an error a prefix of it
abbrev pub WritesNamedPage : {E : Type 0} → Stream → Format → Names → Analysis → SessionValue → Result (Unit {0}) E → Type 0
WritesNamedPage writer format names analysis s result = (first second : Option (List Ranked)) × IsFieldRanking s First first × IsFieldRanking s Second second
    × Written writer (named_page_text format names analysis s first second) result

-- with the configuration's names, and without what could be made
abbrev pub WritesPage : {E : Type 0} → Stream → Format → SessionValue → Result (Unit {0}) E → Type 0
WritesPage writer format s result = WritesNamedPage writer format None no_analysis s result
