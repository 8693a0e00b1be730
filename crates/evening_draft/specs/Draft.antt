-- The configuration of an evening, from names, wishes, a movement and keys.
use Rattle.std.specs.Prelude.{ℕ, ◌≡◌, ◌+◌, ◌-◌, ◌*◌, nat_lt, if◌then◌else◌, true, false, List, [], ◌∷◌, drop, slice_index}
use Rattle.bridge_movement.specs.MovementValue.{MovementValue}
use Rattle.bridge_config.specs.ConfigValue.{ConfigValue, Pair}
use Rattle.bridge_config.specs.Limits.{is_name, is_date_form, is_date_within}
use Rattle.evening_draft.specs.declared.wishes.PairNames.{PairNames}
use Rattle.evening_draft.specs.declared.wishes.Wishes.{Wishes}
use Rattle.evening_draft.specs.AsciiName.{player_name}

-- how far two numbers are apart
abbrev pub distance : ℕ → ℕ → ℕ
distance one other = (one - other) + (other - one)

-- one number of boards in a set or another: the one by which a pair plays nearer to so many boards
abbrev pub nearer : ℕ → ℕ → ℕ → ℕ → ℕ
nearer rounds wanted one other =
    if nat_lt (distance wanted (rounds * other)) (distance wanted (rounds * one)) then other else one

-- of 1, 2 and 3 boards in a set, those by which a pair plays as near to so many boards as there can be
abbrev pub boards_for : ℕ → ℕ → ℕ
boards_for rounds wanted = nearer rounds wanted (nearer rounds wanted 1 2) 3

-- both names of the pair of that number in ASCII
abbrev pub names_of : ℕ → PairNames → List (List ℕ)
names_of number pair = player_name number true pair.first.bytes ∷ player_name number false pair.second.bytes ∷ []

-- those of each pair, of which the first has that number
abbrev pub names_from : ℕ → List PairNames → List (List (List ℕ))
names_from number [] = []
names_from number (pair ∷ names) = names_of number pair ∷ names_from (number + 1) names

-- the pairs by number, of which the first has that, each with the next two keys
abbrev pub drafted_pairs : ℕ → List PairNames → List ℕ → List Pair
drafted_pairs number (pair ∷ names) (first ∷ second ∷ keys) =
    record { names = names_of number pair; keys = first ∷ second ∷ [] } ∷ drafted_pairs (number + 1) names keys
drafted_pairs _ _ _ = []

-- the event and the site are names, and the date is one
pub record HasHeading (wishes : Wishes) : Type 0 where
  pub event : is_name wishes.event.bytes ≡ true
  pub site : is_name wishes.site.bytes ≡ true
  pub date_form : is_date_form wishes.date.bytes ≡ true
  pub date_within : is_date_within wishes.date.bytes ≡ true

-- what the evening's configuration states
abbrev pub drafted : Wishes → List PairNames → MovementValue → List ℕ → ConfigValue
drafted wishes names movement keys = record {
  event = wishes.event.bytes;
  site = wishes.site.bytes;
  date = wishes.date.bytes;
  scoring = wishes.scoring;
  boards = boards_for movement.shape.rounds wishes.boards;
  movement = movement;
  director = slice_index keys 0;
  pairs = drafted_pairs 1 names (drop 1 keys);
}
