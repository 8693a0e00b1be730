-- The rankings over all sections in JSON.
use Rattle.std.specs.Prelude.{◌-◌, List, [], ◌∷◌, codes, slice_get}
use Rattle.std.specs.Option.{option_map_or}
use Rattle.bridge_cards.specs.declared.scoring.Scoring.{Scoring}
use Rattle.session_rules.specs.State.{SessionValue}
use Rattle.event_ranking.specs.declared.ranking.SectionRanked.{SectionRanked}
use Rattle.event_ranking.specs.EventRanking.{unplaced}
use Rattle.event_ranking.specs.EventText.{section_text}
use Rattle.serde_json.specs.Data.{Data, null, object, member, no_members}
use Rattle.results_object.specs.Values.{text_data, count_data, list_data}
use Rattle.results_object.specs.Object.{names_data, total_data}

-- the names of a pair, as its section's configuration has them
abbrev pub names_on : List SessionValue → SectionRanked → Data
names_on sections ranked =
    option_map_or (λ (s : SessionValue). names_data s.configuration.pairs ranked.pair) (slice_get sections (ranked.section - 1))
    (names_data [] ranked.pair)

-- a pair with its section, its names, its place among all, and what it gained in all
abbrev pub section_ranked_data : Scoring → List SessionValue → SectionRanked → Data
section_ranked_data scoring sections ranked = object (member (codes "names") (names_on sections ranked)
    (member (codes "pair") (count_data ranked.pair) (member (codes "place") (count_data ranked.place)
    (member (codes "section") (text_data (section_text ranked.section))
    (member (codes "total") (total_data scoring (unplaced ranked)) no_members)))))

-- the pairs of a ranking, in order, or null where no section has the field
abbrev pub field_data : Scoring → List SessionValue → List SectionRanked → Data
field_data scoring sections [] = null
field_data scoring sections (ranked ∷ ranking) = list_data (section_ranked_data scoring sections) (ranked ∷ ranking)
