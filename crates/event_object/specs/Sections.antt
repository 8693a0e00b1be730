-- The sections of an event with their pairs in JSON.
use Rattle.std.specs.Prelude.{ℕ, List, codes}
use Rattle.std.specs.List.{range_with_len, enumerate_from}
use Rattle.bridge_config.specs.ConfigValue.{Pair, ConfigValue}
use Rattle.session_rules.specs.State.{SessionValue}
use Rattle.event_ranking.specs.EventText.{section_text}
use Rattle.serde_json.specs.Data.{Data, object, member, no_members}
use Rattle.results_object.specs.Values.{text_data, count_data, list_data}
use Rattle.results_object.specs.Object.{names_data}

-- a pair and its names
abbrev pub pair_data : List Pair → ℕ → Data
pair_data pairs pair = object (member (codes "names") (names_data pairs pair) (member (codes "pair") (count_data pair) no_members))

-- the pairs of a configuration, by their numbers
abbrev pub pairs_data : ConfigValue → Data
pairs_data configuration = list_data (pair_data configuration.pairs) (range_with_len 1 configuration.movement.shape.pairs)

-- a section: its pairs and its letters
abbrev pub section_data : ℕ × SessionValue → Data
section_data numbered = object (member (codes "pairs") (pairs_data numbered.1.configuration)
    (member (codes "section") (text_data (section_text numbered.0)) no_members))

-- the sections, by their numbers
abbrev pub sections_data : List SessionValue → Data
sections_data sections = list_data section_data (enumerate_from 1 sections)
