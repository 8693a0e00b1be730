-- What contracts see of a configuration: its fields, with texts as lists of bytes and keys as numbers.
use Rattle.std.specs.Prelude.{ℕ, ◌-◌, Bool, if◌then◌else◌, List, [], map, flat_map, ◌∷◌, ◌++◌, codes, slice_get, slice_index_or}
use Rattle.std.specs.Option.{option_map_or}
use Rattle.bridge_cards.specs.declared.scoring.Scoring.{Scoring}
use Rattle.bridge_movement.specs.MovementValue.{MovementValue}
use Rattle.bridge_config.specs.declared.fields.Key.{Key}
use Rattle.bridge_config.specs.declared.fields.PairFields.{PairFields}
use Rattle.bridge_config.specs.declared.fields.ConfigFields.{ConfigFields}

-- the names and the keys of a pair's players
pub record Pair : Type 0 where
  pub names : List (List ℕ)
  pub keys : List ℕ

-- what a configuration states
pub record ConfigValue : Type 0 where
  pub event : List ℕ
  pub site : List ℕ
  pub date : List ℕ
  pub scoring : Scoring
  pub boards : ℕ
  pub movement : MovementValue
  pub director : ℕ
  pub pairs : List Pair

-- a key as its number
abbrev pub key_number : Key → ℕ
key_number key = key.0

-- a pair, its names as their bytes
abbrev pub pair_of : PairFields → Pair
pair_of pair = record { names = map (λ name. name.bytes) pair.names; keys = map key_number pair.keys }

-- both of a pair's names, as `Anna and Berta`
abbrev pub both_names : List (List ℕ) → List ℕ
both_names names = (slice_index_or names 0 [] ++ codes " and ") ++ slice_index_or names 1 []

-- both names of the pair of that number, from 1; none where there is no such pair
abbrev pub pair_names : List Pair → ℕ → List ℕ
pair_names pairs pair = option_map_or (λ (found : Pair). both_names found.names) (slice_get pairs (pair - 1)) []

-- the name of the first or the second player of the pair of that number; none where there is no such pair
abbrev pub player_name : List Pair → ℕ → Bool → List ℕ
player_name pairs pair first =
    option_map_or (λ (found : Pair). slice_index_or found.names (if first then 0 else 1) []) (slice_get pairs (pair - 1)) []

-- what fields state
abbrev pub configuration_of : ConfigFields → ConfigValue
configuration_of fields = record {
  event = fields.event.bytes;
  site = fields.site.bytes;
  date = fields.date.bytes;
  scoring = fields.scoring;
  boards = fields.boards;
  movement = fields.movement;
  director = key_number fields.director;
  pairs = map pair_of fields.pairs.items;
}

-- the keys of the players of these pairs, in order
abbrev pub keys_in : List Pair → List ℕ
keys_in pairs = flat_map (λ (pair : Pair). pair.keys) pairs

-- the director's key and then those of the pairs' players, in order
abbrev pub keys_of : ConfigValue → List ℕ
keys_of configuration = configuration.director ∷ keys_in configuration.pairs

-- what the first five lines of a text state
pub record Heading : Type 0 where
  pub event : List ℕ
  pub site : List ℕ
  pub date : List ℕ
  pub scoring : Scoring
  pub boards : ℕ

-- of a configuration, what its first five lines state
abbrev pub heading_of : ConfigValue → Heading
heading_of configuration = record {
  event = configuration.event;
  site = configuration.site;
  date = configuration.date;
  scoring = configuration.scoring;
  boards = configuration.boards;
}

-- what the lines after the movement's state
pub record People : Type 0 where
  pub director : ℕ
  pub pairs : List Pair

-- of a configuration, what the lines after the movement's state
abbrev pub people_of : ConfigValue → People
people_of configuration = record { director = configuration.director; pairs = configuration.pairs }
