-- The TotalScoreTable of several sections as one field: a row for each pair, by field and place among all.
use Rattle.std.specs.Prelude.{ℕ, ◌-◌, Bool, true, false, List, [], ◌∷◌, ◌++◌, codes, flat_map, slice_get}
use Rattle.std.specs.Option.{option_map_or}
use Rattle.std.specs.Fmt.{decimal}
use Rattle.bridge_cards.specs.declared.scoring.Scoring.{Scoring}
use Rattle.bridge_cards.specs.declared.scoring.Scoring.TheVariants.{MatchPoints, Imps}
use Rattle.bridge_ranking.specs.declared.field.Field.{Field}
use Rattle.bridge_ranking.specs.declared.field.Field.TheVariants.{First, Second}
use Rattle.session_rules.specs.State.{SessionValue}
use Rattle.event_ranking.specs.declared.ranking.SectionRanked.{SectionRanked}
use Rattle.event_ranking.specs.EventRanking.{unplaced}
use Rattle.results_pbn.specs.Cells.{right_cell}
use Rattle.results_pbn.specs.Totals.{section_text, value_cells, names_cell}
use Rattle.event_pbn.specs.SectionCell.{section_cell}

-- the tag with the columns
unfoldable pub total_columns : Scoring → List ℕ
total_columns MatchPoints =
    codes "[TotalScoreTable \"Section\\2L;Direction\\1L;Rank\\3R;PairId\\2R;TotalScoreMP\\7R;TotalPercentage\\6R;Names\"]\n"
total_columns Imps = codes "[TotalScoreTable \"Section\\2L;Direction\\1L;Rank\\3R;PairId\\2R;TotalIMP\\7R;Names\"]\n"

-- the section's letters; N for the first field and E for the second, or a dash where no section has two; the place among all pairs of
-- the field, and the pair
unfoldable pub place_cells : Bool → Field → SectionRanked → List ℕ
place_cells two field ranked =
    ((section_cell ranked.section ++ section_text two field) ++ right_cell 3 (decimal ranked.place)) ++ right_cell 2 (decimal ranked.pair)

-- the names of a pair, as its section's configuration has them
abbrev pub names_on : List SessionValue → SectionRanked → List ℕ
names_on sections ranked =
    option_map_or (λ (s : SessionValue). names_cell s.configuration.pairs ranked.pair) (slice_get sections (ranked.section - 1))
    (names_cell [] ranked.pair)

-- a pair's row
unfoldable pub total_row : Bool → Scoring → List SessionValue → Field → SectionRanked → List ℕ
total_row two scoring sections field ranked =
    (place_cells two field ranked ++ value_cells 7 scoring (unplaced ranked)) ++ names_on sections ranked

-- whether a ranking has a pair
abbrev pub has_any : List SectionRanked → Bool
has_any [] = false
has_any (ranked ∷ others) = true

-- the table
abbrev pub total_table : Scoring → List SessionValue → List SectionRanked → List SectionRanked → List ℕ
total_table scoring sections first second =
    let two = has_any second in
    total_columns scoring
    ++ (flat_map (total_row two scoring sections First) first ++ flat_map (total_row two scoring sections Second) second)
