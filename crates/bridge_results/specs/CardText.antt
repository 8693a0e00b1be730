-- The score card of a pair.
use Rattle.std.specs.Prelude.{ℕ, List, [], ◌∷◌, ◌++◌, codes, flat_map, sum_by, ℤ, Option, Some, None}
use Rattle.std.specs.Fmt.{decimal}
use Rattle.bridge_cards.specs.declared.seat.Side.{Side}
use Rattle.bridge_cards.specs.declared.seat.Side.TheVariants.{NorthSouth, EastWest}
use Rattle.bridge_cards.specs.declared.scoring.Scoring.{Scoring}
use Rattle.bridge_cards.specs.declared.scoring.Scoring.TheVariants.{MatchPoints, Imps}
use Rattle.bridge_score.specs.Comparison.{int_sum_by}
use Rattle.bridge_config.specs.ConfigValue.{Pair}
use Rattle.session_rules.specs.declared.outcome.Outcome.{Outcome}
use Rattle.session_rules.specs.declared.outcome.Outcome.TheVariants.{Voided}
use Rattle.page_layout.specs.declared.format.Format.{Format}
use Rattle.page_layout.specs.declared.format.Level.TheVariants as level
use Rattle.page_layout.specs.declared.format.Section.TheVariants as section
use Rattle.line_text.specs.Decimals.{tenths_text}
use Rattle.page_layout.specs.Page.{heading_text, paragraph_text, section_start, section_end}
use Rattle.page_layout.specs.Table.{row_text, title_row, table_start, table_end}
use Rattle.bridge_results.specs.declared.card.CardLine.{CardLine}
use Rattle.bridge_results.specs.declared.pages.columns.TheConstants.{CARD_COLUMNS}
use Rattle.bridge_results.specs.ShownPairs.{Names, shown_pair}
use Rattle.bridge_results.specs.PlayCells.{contract_cell, declarer_cell, tricks_cell, score_cell, gain_text, gain_cell}

-- the heading of a card: the pair's number and its names
abbrev pub pair_words : Names → List Pair → ℕ → List ℕ
pair_words names pairs pair = ((codes "Pair " ++ decimal pair) ++ codes ": ") ++ shown_pair names pairs pair

-- what stands above the rows of a card
abbrev pub card_head : Format → Names → List Pair → ℕ → List ℕ
card_head format names pairs pair =
    ((section_start format section.ScoreCard ++ heading_text format level.Part (pair_words names pairs pair)) ++ table_start format)
    ++ title_row format CARD_COLUMNS
    (codes "Round" ∷ codes "Board" ∷ codes "Side" ∷ codes "Against" ∷ codes "Contract" ∷ codes "By" ∷ codes "Tricks"
    ∷ codes "Score" ∷ codes "Gain" ∷ [])

-- the letters of a side
abbrev pub side_words : Side → List ℕ
side_words NorthSouth = codes "NS"
side_words EastWest = codes "EW"

-- what the pair gained by a play that is not void
abbrev pub counted_gain : Outcome → ℤ → Option ℤ
counted_gain Voided gain = None
counted_gain _ gain = Some gain

-- the cells of a play: round, board, side, opponents, contract, declarer, tricks, score, and what the pair gained
abbrev pub card_cells : Scoring → CardLine → List (List ℕ)
card_cells scoring line =
    decimal line.round ∷ decimal line.board ∷ side_words line.side ∷ decimal line.opponents ∷ contract_cell line.outcome
    ∷ declarer_cell line.outcome ∷ tricks_cell line.outcome ∷ score_cell line.outcome line.score
    ∷ gain_cell scoring (counted_gain line.outcome line.gain) ∷ []

-- the row of a play
abbrev pub card_row : Format → Scoring → CardLine → List ℕ
card_row format scoring line = row_text format CARD_COLUMNS (card_cells scoring line)

-- what the pair gained in all
abbrev pub gain_sum : List CardLine → ℤ
gain_sum lines = int_sum_by (λ (line : CardLine). line.gain) lines

-- what was available to the pair in all
abbrev pub available_sum : List CardLine → ℕ
available_sum lines = sum_by (λ (line : CardLine). line.available) lines

-- what the pair gained in all, and by matchpoints of how many
abbrev pub total_words : Scoring → List CardLine → List ℕ
total_words MatchPoints lines =
    ((codes "Total: " ++ gain_text MatchPoints (gain_sum lines)) ++ codes " of ") ++ tenths_text (available_sum lines)
total_words Imps lines = codes "Total: " ++ gain_text Imps (gain_sum lines)

-- what stands below the rows of a card
abbrev pub card_end : Format → Scoring → List CardLine → List ℕ
card_end format scoring lines =
    (table_end format ++ paragraph_text format (total_words scoring lines)) ++ section_end format

-- The card of a pair: its names, a row for each play, and the total.
abbrev pub score_card_text : Format → Scoring → Names → List Pair → ℕ → List CardLine → List ℕ
score_card_text format scoring names pairs pair lines =
    card_head format names pairs pair ++ (flat_map (card_row format scoring) lines ++ card_end format scoring lines)
