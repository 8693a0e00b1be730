-- By which name a player is shown.
use Rattle.std.specs.Prelude.{ℕ, ◌-◌, Bool, if◌then◌else◌, List, [], Option, None, Some, slice_get}
use Rattle.std.specs.Borrow.{Bor}
use Rattle.std.specs.Option.{option_map_or}
use Rattle.bridge_config.specs.ConfigValue.{Pair, player_name}
use Rattle.evening_draft.specs.declared.wishes.PairNames.{PairNames}

-- the name of the first or the second player of the pair of that number, from 1; none where there is no such pair
abbrev pub person_name : List PairNames → ℕ → Bool → List ℕ
person_name names pair first =
    option_map_or (λ (found : PairNames). if first then found.first.bytes else found.second.bytes) (slice_get names (pair - 1)) []

-- the player's name in that list, where there is one, and otherwise that of the configuration
abbrev pub shown_name : Option (Bor (List PairNames)) → List Pair → ℕ → Bool → List ℕ
shown_name None pairs pair first = player_name pairs pair first
shown_name (Some names) pairs pair first = person_name names.now pair first
