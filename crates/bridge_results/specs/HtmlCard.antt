-- The score card of a pair in HTML, with its place.
use Rattle.std.specs.Prelude.{ℕ, ◌==◌, List, [], ◌∷◌, ◌++◌, codes, flat_map, length, unsigned_abs, position, slice_get, Option, Some, option_and_then}
use Rattle.std.specs.Option.{option_map, option_map_or}
use Rattle.std.specs.Fmt.{decimal, signed_decimal}
use Rattle.bridge_score.specs.declared.ranking.Ranked.{Ranked}
use Rattle.bridge_cards.specs.declared.scoring.Scoring.{Scoring}
use Rattle.bridge_cards.specs.declared.scoring.Scoring.TheVariants.{MatchPoints, Imps}
use Rattle.bridge_score.specs.Percent.{share_percent}
use Rattle.bridge_config.specs.ConfigValue.{Pair}
use Rattle.line_text.specs.Decimals.{tenths_text, percent_text}
use Rattle.page_layout.specs.declared.format.Format.TheVariants.{Html}
use Rattle.page_layout.specs.declared.format.Level.TheVariants as level
use Rattle.page_layout.specs.Page.{heading_text, paragraph_text, section_end}
use Rattle.page_layout.specs.Table.{title_row, table_end}
use Rattle.page_layout.specs.Linked.{linked_row}
use Rattle.bridge_results.specs.declared.card.CardLine.{CardLine}
use Rattle.bridge_results.specs.declared.html.card.Standing.{Standing}
use Rattle.bridge_results.specs.declared.html.columns.TheConstants.{SHARE_CARD_COLUMNS, SUM_CARD_COLUMNS}
use Rattle.bridge_results.specs.ShownPairs.{Names, shown_pair}
use Rattle.bridge_results.specs.PlayCells.{declarer_cell, score_cell, gain_cell}
use Rattle.bridge_results.specs.CardText.{pair_words, side_words, counted_gain}
use Rattle.bridge_results.specs.HtmlCells.{result_cell, percent_cell}
use Rattle.bridge_results.specs.HtmlLinks.{board_target, pair_target}

-- the place of a pair in a ranking, and among how many
abbrev pub standing_in : List Ranked → ℕ → Option Standing
standing_in ranking pair =
    option_map (λ (ranked : Ranked). record { ranked = ranked; among = length ranking })
    (option_and_then (slice_get ranking) (position (λ (ranked : Ranked). ranked.pair == pair) ranking))

-- the place of a pair in a field, if there is such a field
abbrev pub standing_by : Option (List Ranked) → ℕ → Option Standing
standing_by ranking pair = option_and_then (λ (known : List Ranked). standing_in known pair) ranking

-- the place of a pair in its field
abbrev pub standing_of : Option (List Ranked) → Option (List Ranked) → ℕ → Option Standing
standing_of first second pair = option_map_or Some (standing_by first pair) (standing_by second pair)

-- what stands above the rows of a card
unfoldable pub card_start : Names → List Pair → ℕ → List ℕ
card_start names pairs pair =
    ((codes "<section class=\"card\" id=\"" ++ pair_target pair) ++ codes "\">\n")
    ++ heading_text Html level.Part (pair_words names pairs pair)

-- what a pair has in all: of matchpoints how many were available, and per cent
abbrev pub sum_words : Scoring → Ranked → List ℕ
sum_words MatchPoints ranked =
    ((((tenths_text (unsigned_abs ranked.value) ++ codes " of ") ++ tenths_text ranked.available) ++ codes ", ")
    ++ percent_text (share_percent ranked)) ++ codes " %"
sum_words Imps ranked = signed_decimal ranked.value ++ codes " IMPs"

-- its place
abbrev pub place_words : Standing → List ℕ
place_words standing = ((codes "Place " ++ decimal standing.ranked.place) ++ codes " of ") ++ decimal standing.among

-- the place and the total of a pair
abbrev pub standing_words : Scoring → Standing → List ℕ
standing_words scoring standing = (place_words standing ++ codes ": ") ++ sum_words scoring standing.ranked

-- the same as a paragraph, where the pair has a place
abbrev pub standing_html : Scoring → Option Standing → List ℕ
standing_html scoring standing = option_map_or (λ (known : Standing). paragraph_text Html (standing_words scoring known)) standing []

-- where the cells of a line lead: to the board, and to the opponents' card
abbrev pub card_targets : CardLine → List (List ℕ) → List (List ℕ)
card_targets line others =
    board_target line.board ∷ [] ∷ pair_target line.opponents ∷ [] ∷ [] ∷ [] ∷ [] ∷ [] ∷ others

-- the cells of a line: the board, the side, the opponents and their names, the contract and what came of it, declarer, the score,
-- and what the pair gained
abbrev pub html_card_cells : Scoring → Names → List Pair → CardLine → List (List ℕ) → List (List ℕ)
html_card_cells scoring names pairs line others =
    decimal line.board ∷ side_words line.side ∷ decimal line.opponents ∷ shown_pair names pairs line.opponents
    ∷ result_cell line.outcome ∷ declarer_cell line.outcome ∷ score_cell line.outcome line.score
    ∷ gain_cell scoring (counted_gain line.outcome line.gain) ∷ others

-- the row of a line: by matchpoints with the gain in per cent
abbrev pub html_card_line : Scoring → Names → List Pair → CardLine → List ℕ
html_card_line MatchPoints names pairs line =
    linked_row SHARE_CARD_COLUMNS (card_targets line ([] ∷ []))
    (html_card_cells MatchPoints names pairs line (percent_cell (counted_gain line.outcome line.gain) line.available ∷ []))
html_card_line Imps names pairs line = linked_row SUM_CARD_COLUMNS (card_targets line []) (html_card_cells Imps names pairs line [])

-- the titles of a card
abbrev pub html_card_titles : Scoring → List ℕ
html_card_titles MatchPoints =
    title_row Html SHARE_CARD_COLUMNS
    (codes "Board" ∷ codes "Side" ∷ codes "Against" ∷ codes "Names" ∷ codes "Contract" ∷ codes "By" ∷ codes "Score" ∷ codes "MP"
    ∷ codes "%" ∷ [])
html_card_titles Imps =
    title_row Html SUM_CARD_COLUMNS
    (codes "Board" ∷ codes "Side" ∷ codes "Against" ∷ codes "Names" ∷ codes "Contract" ∷ codes "By" ∷ codes "Score" ∷ codes "IMPs"
    ∷ [])

-- what stands above the rows of a card
unfoldable pub html_card_head : Scoring → List ℕ
html_card_head scoring = codes "<table>\n<caption>Boards</caption>\n" ++ html_card_titles scoring

-- the rows of a card
abbrev pub html_card_lines : Scoring → Names → List Pair → List CardLine → List ℕ
html_card_lines scoring names pairs lines = flat_map (html_card_line scoring names pairs) lines

-- the table of a card
abbrev pub html_card_table : Scoring → Names → List Pair → List CardLine → List ℕ
html_card_table scoring names pairs lines =
    html_card_head scoring ++ (html_card_lines scoring names pairs lines ++ (table_end Html ++ section_end Html))

-- the names of the pair and its place
abbrev pub card_top : Scoring → Names → List Pair → ℕ → Option Standing → List ℕ
card_top scoring names pairs pair standing = card_start names pairs pair ++ standing_html scoring standing

-- The card of a pair: its names, its place and total, and a row for each play.
abbrev pub card_html : Scoring → Names → List Pair → ℕ → Option Standing → List CardLine → List ℕ
card_html scoring names pairs pair standing lines =
    card_top scoring names pairs pair standing ++ html_card_table scoring names pairs lines
