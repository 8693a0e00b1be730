-- By which names a pair is shown.
use Rattle.std.specs.Prelude.{ℕ, ◌-◌, false, List, [], ◌∷◌, ◌++◌, replicate, chars, Option, None, Some, slice_get}
use Rattle.std.specs.Borrow.{Bor}
use Rattle.std.specs.Option.{option_map_or}
use Rattle.unicode_width.specs.Width.{str_width}
use Rattle.bridge_config.specs.ConfigValue.{Pair, both_names, pair_names}
use Rattle.evening_draft.specs.declared.wishes.PairNames.{PairNames}
use Rattle.page_layout.specs.declared.format.Format.{Format}
use Rattle.page_layout.specs.declared.format.Format.TheVariants.{Plain, Html}

-- a list of names in place of the configuration's, or none
abbrev pub Names : Type 0
Names = Option (Bor (List PairNames))

-- both names of the pair of that number in a list, from 1; none where there is no such pair
abbrev pub listed_pair : List PairNames → ℕ → List ℕ
listed_pair names pair =
    option_map_or (λ (found : PairNames). both_names (found.first.bytes ∷ found.second.bytes ∷ [])) (slice_get names (pair - 1)) []

-- those of a list, where there is one, and otherwise those of the configuration
abbrev pub shown_pair : Names → List Pair → ℕ → List ℕ
shown_pair None pairs pair = pair_names pairs pair
shown_pair (Some names) pairs pair = listed_pair names.now pair

-- a text in so many columns of a terminal: blanks follow it, and a wider text is not cut off
abbrev pub in_columns : ℕ → List ℕ → List ℕ
in_columns columns text = text ++ replicate (columns - str_width false (chars text)) 32

-- in the cell of a table: names of a list stand in 53 columns of plain text
abbrev pub names_cell : Format → Names → List Pair → ℕ → List ℕ
names_cell Html names pairs pair = shown_pair names pairs pair
names_cell Plain None pairs pair = pair_names pairs pair
names_cell Plain (Some names) pairs pair = in_columns 53 (listed_pair names.now pair)
