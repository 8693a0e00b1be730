-- A list of names beside a configuration: whether it has as many pairs, and the lines that tell pages who is shown by which name.
use Rattle.std.specs.Prelude.{ℕ, ◌+◌, ◌==◌, Bool, true, false, List, [], ◌∷◌, ◌++◌, codes, length, Option, None, Some}
use Rattle.std.specs.Borrow.{Bor}
use Rattle.std.specs.Fmt.{decimal}
use Rattle.bridge_config.specs.ConfigValue.{Pair, player_name}
use Rattle.evening_draft.specs.declared.wishes.PairNames.{PairNames}

-- a list has so many pairs, where there is one
abbrev pub fits : Option (Bor (List PairNames)) → ℕ → Bool
fits None pairs = true
fits (Some names) pairs = length names.now == pairs

-- a word behind a tab
abbrev pub tabbed : List ℕ → List ℕ
tabbed word = 9 ∷ word

-- the line of a pair: its number, its names in the configuration and those that are shown, with tabs between
abbrev pub pair_line : List Pair → ℕ → PairNames → List ℕ
pair_line pairs pair shown =
    ((((decimal pair ++ tabbed (player_name pairs pair true)) ++ tabbed (player_name pairs pair false)) ++ tabbed shown.first.bytes)
    ++ tabbed shown.second.bytes) ++ codes "\n"

-- those of the pairs of which the first has that number
abbrev pub pair_lines : List Pair → ℕ → List PairNames → List ℕ
pair_lines pairs pair [] = []
pair_lines pairs pair (shown ∷ names) = pair_line pairs pair shown ++ pair_lines pairs (pair + 1) names

-- a line for each pair of a list; none where there is no list
abbrev pub people_text : Option (Bor (List PairNames)) → List Pair → List ℕ
people_text None pairs = []
people_text (Some names) pairs = pair_lines pairs 1 names.now
