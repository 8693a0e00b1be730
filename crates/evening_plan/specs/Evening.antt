-- What an evening's plan speaks of: what a configuration states, but for its keys.
use Rattle.std.specs.Prelude.{ℕ, List, [], ◌∷◌, map, Option, Some, None}
use Rattle.std.specs.Borrow.{Bor}
use Rattle.bridge_movement.specs.MovementValue.{MovementValue}
use Rattle.bridge_config.specs.ConfigValue.{ConfigValue, Heading, Pair, heading_of}
use Rattle.evening_draft.specs.declared.wishes.PairNames.{PairNames}

-- a configuration without its keys
pub record Evening : Type 0 where
  pub heading : Heading
  pub movement : MovementValue
  pub names : List (List (List ℕ))

-- the names of a pair
abbrev pub names_in : Pair → List (List ℕ)
names_in pair = pair.names

-- the evening of a configuration
abbrev pub evening_of : ConfigValue → Evening
evening_of configuration = record {
  heading = heading_of configuration;
  movement = configuration.movement;
  names = map names_in configuration.pairs;
}

-- the names of a pair as people write them
abbrev pub people_in : PairNames → List (List ℕ)
people_in pair = pair.first.bytes ∷ pair.second.bytes ∷ []

-- the names that are shown: those of a list, where there is one, and otherwise those of the pairs
abbrev pub shown_names : Option (Bor (List PairNames)) → List Pair → List (List (List ℕ))
shown_names None pairs = map names_in pairs
shown_names (Some names) pairs = map people_in names.now

-- the evening of a configuration, with the names of a list in place of its own
abbrev pub shown_evening : ConfigValue → Option (Bor (List PairNames)) → Evening
shown_evening configuration names = record {
  heading = heading_of configuration;
  movement = configuration.movement;
  names = shown_names names configuration.pairs;
}
