-- The results of a session as an HTML page.
use Rattle.std.specs.Prelude.{ℕ, List, [], ◌∷◌, ◌++◌, codes, flat_map, unsigned_abs, Option, None, Some}
use Rattle.std.specs.List.{range_with_len}
use Rattle.std.specs.Option.{option_map_or}
use Rattle.std.specs.Fmt.{decimal, signed_decimal}
use Rattle.bridge_score.specs.declared.ranking.Ranked.{Ranked}
use Rattle.bridge_cards.specs.declared.scoring.Scoring.{Scoring}
use Rattle.bridge_cards.specs.declared.scoring.Scoring.TheVariants.{MatchPoints, Imps}
use Rattle.bridge_score.specs.Percent.{share_percent}
use Rattle.bridge_config.specs.ConfigValue.{ConfigValue, Pair}
use Rattle.session_rules.specs.State.{SessionValue}
use Rattle.line_text.specs.Decimals.{tenths_text, percent_text}
use Rattle.page_layout.specs.declared.format.Format.TheVariants.{Html}
use Rattle.page_layout.specs.Page.{page_end, section_end}
use Rattle.page_layout.specs.Table.{table_end}
use Rattle.page_layout.specs.Linked.{linked_row}
use Rattle.bridge_results.specs.declared.pages.columns.TheConstants.{SHARE_COLUMNS, SUM_COLUMNS}
use Rattle.bridge_results.specs.declared.traveller.BoardLine.{BoardLine}
use Rattle.bridge_results.specs.Traveller.{traveller}
use Rattle.bridge_results.specs.ScoreCard.{score_card_of}
use Rattle.bridge_results.specs.ShownPairs.{Names, shown_pair}
use Rattle.bridge_results.specs.EventText.{event_text}
use Rattle.bridge_results.specs.RankingText.{ranked_titles}
use Rattle.bridge_results.specs.HtmlLinks.{pair_target}
use Rattle.bridge_results.specs.Costs.{Analysis, costs_note}
use Rattle.bridge_results.specs.HtmlBoard.{board_html}
use Rattle.bridge_results.specs.HtmlCard.{standing_of, card_html}

-- the row of a pair: by matchpoints place, pair, names, matchpoints, those available, and the percentage; by IMPs their sum
abbrev pub html_ranked : Scoring → Names → List Pair → Ranked → List ℕ
html_ranked MatchPoints names pairs ranked =
    linked_row SHARE_COLUMNS ([] ∷ pair_target ranked.pair ∷ [] ∷ [] ∷ [] ∷ [] ∷ [])
    (decimal ranked.place ∷ decimal ranked.pair ∷ shown_pair names pairs ranked.pair ∷ tenths_text (unsigned_abs ranked.value)
    ∷ tenths_text ranked.available ∷ percent_text (share_percent ranked) ∷ [])
html_ranked Imps names pairs ranked =
    linked_row SUM_COLUMNS ([] ∷ pair_target ranked.pair ∷ [] ∷ [] ∷ [])
    (decimal ranked.place ∷ decimal ranked.pair ∷ shown_pair names pairs ranked.pair ∷ signed_decimal ranked.value ∷ [])

-- what begins a ranking of that heading, which is its caption too
unfoldable pub html_ranking_start : Scoring → List ℕ → List ℕ
html_ranking_start scoring heading =
    ((((codes "<section class=\"sheet\">\n<h2>" ++ heading) ++ codes "</h2>\n<table>\n<caption>") ++ heading) ++ codes "</caption>\n")
    ++ ranked_titles Html scoring

-- the rows of a ranking
abbrev pub html_ranked_rows : Scoring → Names → List Pair → List Ranked → List ℕ
html_ranked_rows scoring names pairs ranking = flat_map (html_ranked scoring names pairs) ranking

-- a ranking of those pairs with that heading
abbrev pub html_ranking_of : Scoring → Names → List Pair → List ℕ → List Ranked → List ℕ
html_ranking_of scoring names pairs heading ranking =
    html_ranking_start scoring heading ++ (html_ranked_rows scoring names pairs ranking ++ (table_end Html ++ section_end Html))

-- a ranking of that heading
abbrev pub html_ranking : ConfigValue → Names → List ℕ → List Ranked → List ℕ
html_ranking configuration names heading ranking =
    html_ranking_of configuration.scoring names configuration.pairs heading ranking

-- the ranking of a field, if there is such a field
abbrev pub html_field : ConfigValue → Names → List ℕ → Option (List Ranked) → List ℕ
html_field configuration names heading ranking = option_map_or (html_ranking configuration names heading) ranking []

-- the heading of the first field: that of North and South where there are two
abbrev pub first_heading : Option (List Ranked) → List ℕ
first_heading None = codes "Ranking"
first_heading (Some second) = codes "Ranking NS"

-- the rankings of the fields: where there are two, the first is of those who sat North and South
abbrev pub html_rankings : ConfigValue → Names → Option (List Ranked) → Option (List Ranked) → List ℕ
html_rankings configuration names first second =
    html_field configuration names (first_heading second) first ++ html_field configuration names (codes "Ranking EW") second

-- links to the parts of the page
abbrev pub page_links : List ℕ
page_links = codes "<nav>\n<a href=\"#boards\">Boards</a>\n<a href=\"#cards\">Score cards</a>\n</nav>\n"

-- the event, and the links
unfoldable pub html_event : ConfigValue → List ℕ
html_event configuration = event_text Html configuration ++ page_links

-- the event and the rankings
abbrev pub html_front : ConfigValue → Names → Option (List Ranked) → Option (List Ranked) → List ℕ
html_front configuration names first second = html_event configuration ++ html_rankings configuration names first second

-- the text of a board with these lines, if it was played
abbrev pub played_html : Names → Analysis → SessionValue → ℕ → List BoardLine → List ℕ
played_html names analysis s board [] = []
played_html names analysis s board (line ∷ lines) = board_html names analysis s board (line ∷ lines)

-- a board, if it was played
abbrev pub html_board_on : Names → Analysis → SessionValue → ℕ → List ℕ
html_board_on names analysis s board = played_html names analysis s board (traveller s board)

-- the boards that were played, of boards 1 to 36
unfoldable pub html_boards : Names → Analysis → SessionValue → List ℕ
html_boards names analysis s = flat_map (html_board_on names analysis s) (range_with_len 1 36)

-- what begins the sheet of the boards
unfoldable pub boards_start : List ℕ
boards_start = codes "<section class=\"sheet\" id=\"boards\">\n<h2>Boards</h2>\n"

-- the sheet of the boards: what marks behind cards say, and the boards
abbrev pub html_board_sheet : Names → Analysis → SessionValue → List ℕ
html_board_sheet names analysis s = boards_start ++ (costs_note analysis.plays ++ (html_boards names analysis s ++ section_end Html))

-- the card of a pair
abbrev pub html_card_on : Names → SessionValue → Option (List Ranked) → Option (List Ranked) → ℕ → List ℕ
html_card_on names s first second pair =
    card_html s.configuration.scoring names s.configuration.pairs pair (standing_of first second pair) (score_card_of s pair)

-- the cards of all pairs
unfoldable pub html_cards : Names → SessionValue → Option (List Ranked) → Option (List Ranked) → List ℕ
html_cards names s first second =
    flat_map (html_card_on names s first second) (range_with_len 1 s.configuration.movement.shape.pairs)

-- what begins the sheet of the score cards
unfoldable pub cards_start : List ℕ
cards_start = codes "<section class=\"sheet\" id=\"cards\">\n<h2>Score cards</h2>\n"

-- the sheet of the score cards, and the end of the page
abbrev pub html_card_sheet : Names → SessionValue → Option (List Ranked) → Option (List Ranked) → List ℕ
html_card_sheet names s first second = cards_start ++ (html_cards names s first second ++ (section_end Html ++ page_end Html))

-- The page: the event, the rankings, the boards, and the score cards.
abbrev pub page_html : Names → Analysis → SessionValue → Option (List Ranked) → Option (List Ranked) → List ℕ
page_html names analysis s first second =
    html_front s.configuration names first second ++ (html_board_sheet names analysis s ++ html_card_sheet names s first second)
