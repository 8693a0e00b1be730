-- The ranking of the pairs of several sections as a sheet.
use Rattle.std.specs.Prelude.{ℕ, ◌+◌, ◌-◌, ◌/◌, ◌%◌, nat_lt, if◌then◌else◌, List, [], ◌∷◌, ◌++◌, codes, flat_map, slice_get, unsigned_abs, Option}
use Rattle.std.specs.Option.{option_map_or}
use Rattle.std.specs.Fmt.{decimal, signed_decimal}
use Rattle.bridge_cards.specs.declared.scoring.Scoring.{Scoring}
use Rattle.bridge_cards.specs.declared.scoring.Scoring.TheVariants.{MatchPoints, Imps}
use Rattle.bridge_score.specs.Percent.{share_percent}
use Rattle.bridge_config.specs.ConfigValue.{pair_names}
use Rattle.bridge_ranking.specs.declared.field.Field.{Field}
use Rattle.bridge_ranking.specs.declared.field.Field.TheVariants.{First, Second}
use Rattle.session_rules.specs.State.{SessionValue}
use Rattle.page_layout.specs.declared.format.Format.{Format}
use Rattle.page_layout.specs.declared.format.Level.TheVariants as level
use Rattle.page_layout.specs.declared.format.Section.TheVariants as part
use Rattle.line_text.specs.Decimals.{tenths_text, percent_text}
use Rattle.page_layout.specs.Page.{heading_text, section_start, section_end}
use Rattle.page_layout.specs.Table.{row_text, title_row, table_start, caption_text, table_end}
use Rattle.bridge_results.specs.declared.pages.columns.TheConstants.{SHARE_COLUMNS, SUM_COLUMNS}
use Rattle.event_ranking.specs.declared.ranking.SectionRanked.{SectionRanked}
use Rattle.event_ranking.specs.declared.sheet.Among.{Among}
use Rattle.event_ranking.specs.declared.sheet.Among.TheVariants.{Event, Section}
use Rattle.event_ranking.specs.EventRanking.{scoring_of, unplaced}

-- the last letter of a section: A to Z in turn
abbrev pub last_letter : ℕ → ℕ
last_letter section = 65 + (section - 1) % 26

-- the letters of a section: A to Z, then AA, AB and so on
abbrev pub section_text : ℕ → List ℕ
section_text section =
    if nat_lt 26 section then (64 + (section - 1) / 26) ∷ last_letter section ∷ [] else last_letter section ∷ []

-- the share of a pair in hundredths of a per cent, where it is one
abbrev pub share_of : SectionRanked → Option ℕ
share_of ranked = share_percent (unplaced ranked)

-- the section and the number of a pair
abbrev pub pair_text : SectionRanked → List ℕ
pair_text ranked = section_text ranked.section ++ decimal ranked.pair

-- the row of a pair by matchpoints: place, section and pair, names, matchpoints, those available, and the percentage
abbrev pub share_row : Format → List ℕ → SectionRanked → List ℕ
share_row format names ranked =
    row_text format SHARE_COLUMNS
    (decimal ranked.place ∷ pair_text ranked ∷ names ∷ tenths_text (unsigned_abs ranked.value)
    ∷ tenths_text ranked.available ∷ percent_text (share_of ranked) ∷ [])

-- the row of a pair by IMPs: place, section and pair, names, and the sum
abbrev pub sum_row : Format → List ℕ → SectionRanked → List ℕ
sum_row format names ranked =
    row_text format SUM_COLUMNS
    (decimal ranked.place ∷ pair_text ranked ∷ names ∷ signed_decimal ranked.value ∷ [])

-- the row of a pair
abbrev pub wide_row : Format → Scoring → List ℕ → SectionRanked → List ℕ
wide_row format MatchPoints names ranked = share_row format names ranked
wide_row format Imps names ranked = sum_row format names ranked

-- the titles of a ranking
abbrev pub wide_titles : Format → Scoring → List ℕ
wide_titles format MatchPoints =
    title_row format SHARE_COLUMNS
    (codes "Place" ∷ codes "Pair" ∷ codes "Names" ∷ codes "MP" ∷ codes "Available" ∷ codes "%" ∷ [])
wide_titles format Imps =
    title_row format SUM_COLUMNS (codes "Place" ∷ codes "Pair" ∷ codes "Names" ∷ codes "IMPs" ∷ [])

-- the names of a pair, as its section's configuration has them
abbrev pub names_of : List SessionValue → SectionRanked → List ℕ
names_of sections ranked =
    option_map_or (λ (s : SessionValue). pair_names s.configuration.pairs ranked.pair) (slice_get sections (ranked.section - 1)) []

-- the row of a pair of one of the sections
abbrev pub section_row : Format → Scoring → List SessionValue → SectionRanked → List ℕ
section_row format scoring sections ranked = wide_row format scoring (names_of sections ranked) ranked

-- what a heading says of the sections
abbrev pub among_words : Among → List ℕ
among_words Event = codes "Ranking of all sections"
among_words (Section section) = codes "Ranking of section " ++ section_text section

-- what a heading says of the field
abbrev pub field_words : Field → List ℕ
field_words First = codes ", field 1"
field_words Second = codes ", field 2"

-- the heading of a ranking
abbrev pub heading_words : Among → Field → List ℕ
heading_words among field = among_words among ++ field_words field

-- what stands before the rows of a ranking
abbrev pub sheet_head : Format → Scoring → Among → Field → List ℕ
sheet_head format scoring among field =
    (((section_start format part.Sheet ++ heading_text format level.Sheet (heading_words among field)) ++ table_start format)
    ++ caption_text format (heading_words among field)) ++ wide_titles format scoring

-- A ranking of pairs of these sections: a sheet with a row for each, in order.
abbrev pub sheet_text : Format → List SessionValue → Among → Field → List SectionRanked → List ℕ
sheet_text format sections among field ranking =
    sheet_head format (scoring_of sections) among field
    ++ (flat_map (section_row format (scoring_of sections) sections) ranking ++ (table_end format ++ section_end format))
