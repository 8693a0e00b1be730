-- The ranking of a field, with the names of the pairs.
use Rattle.std.specs.Prelude.{ℕ, List, [], ◌∷◌, ◌++◌, codes, flat_map, unsigned_abs, Option}
use Rattle.std.specs.Option.{option_map}
use Rattle.std.specs.Fmt.{decimal, signed_decimal}
use Rattle.arrayvec.specs.ArrayVec.{ArrayVec}
use Rattle.bridge_score.specs.declared.ranking.Ranked.{Ranked}
use Rattle.bridge_cards.specs.declared.scoring.Scoring.{Scoring}
use Rattle.bridge_cards.specs.declared.scoring.Scoring.TheVariants.{MatchPoints, Imps}
use Rattle.bridge_score.specs.Percent.{share_percent}
use Rattle.bridge_config.specs.ConfigValue.{Pair}
use Rattle.bridge_ranking.specs.declared.field.Field.{Field}
use Rattle.bridge_ranking.specs.declared.field.Field.TheVariants.{First, Second}
use Rattle.page_layout.specs.declared.format.Format.{Format}
use Rattle.page_layout.specs.declared.format.Level.TheVariants as level
use Rattle.page_layout.specs.declared.format.Section.TheVariants as section
use Rattle.line_text.specs.Decimals.{tenths_text, percent_text}
use Rattle.page_layout.specs.Page.{heading_text, section_start, section_end}
use Rattle.page_layout.specs.Table.{row_text, title_row, table_start, table_end}
use Rattle.bridge_results.specs.ShownPairs.{Names, names_cell}
use Rattle.bridge_results.specs.declared.pages.columns.TheConstants.{SHARE_COLUMNS, SUM_COLUMNS}

-- the lines of a ranking that the code keeps, if it keeps one
abbrev pub ranked_items : Option (ArrayVec Ranked) → Option (List Ranked)
ranked_items ranking = option_map (λ ranked. ranked.items) ranking

-- the row of a pair by matchpoints: place, pair, names, matchpoints, those available, and the percentage
abbrev pub share_row : Format → List ℕ → Ranked → List ℕ
share_row format names ranked =
    row_text format SHARE_COLUMNS
    (decimal ranked.place ∷ decimal ranked.pair ∷ names ∷ tenths_text (unsigned_abs ranked.value) ∷ tenths_text ranked.available
    ∷ percent_text (share_percent ranked) ∷ [])

-- the row of a pair by IMPs: place, pair, names, and the sum
abbrev pub sum_row : Format → List ℕ → Ranked → List ℕ
sum_row format names ranked =
    row_text format SUM_COLUMNS (decimal ranked.place ∷ decimal ranked.pair ∷ names ∷ signed_decimal ranked.value ∷ [])

-- the row of a pair
abbrev pub ranked_row : Format → Scoring → Names → List Pair → Ranked → List ℕ
ranked_row format MatchPoints names pairs ranked = share_row format (names_cell format names pairs ranked.pair) ranked
ranked_row format Imps names pairs ranked = sum_row format (names_cell format names pairs ranked.pair) ranked

-- the titles of a ranking
abbrev pub ranked_titles : Format → Scoring → List ℕ
ranked_titles format MatchPoints =
    title_row format SHARE_COLUMNS
    (codes "Place" ∷ codes "Pair" ∷ codes "Names" ∷ codes "MP" ∷ codes "Available" ∷ codes "%" ∷ [])
ranked_titles format Imps =
    title_row format SUM_COLUMNS (codes "Place" ∷ codes "Pair" ∷ codes "Names" ∷ codes "IMPs" ∷ [])

-- the heading of a field
abbrev pub field_words : Field → List ℕ
field_words First = codes "Ranking, field 1"
field_words Second = codes "Ranking, field 2"

-- what stands before the rows of a ranking
abbrev pub field_head : Format → Scoring → Field → List ℕ
field_head format scoring field =
    ((section_start format section.Sheet ++ heading_text format level.Sheet (field_words field)) ++ table_start format)
    ++ ranked_titles format scoring

-- The ranking of a field: a sheet with a row for each pair, in order.
abbrev pub field_text : Format → Scoring → Names → List Pair → Field → List Ranked → List ℕ
field_text format scoring names pairs field ranking =
    field_head format scoring field
    ++ (flat_map (ranked_row format scoring names pairs) ranking ++ (table_end format ++ section_end format))
