-- The limits of a configuration.
use Rattle.std.specs.Prelude.{ℕ, ◌≡◌, ◌+◌, ◌-◌, ◌*◌, ◌≤◌, nat_le, Bool, true, not, ◌&&◌, ◌||◌, ◌==◌, List, [], ◌∷◌, length, take, drop, slice_index, slice_range, All}
use Rattle.std.specs.List.{list_all, list_any}
use Rattle.std.specs.Char.{is_ascii_alphanumeric, is_ascii_digit}
use Rattle.bridge_movement.specs.Shape.{IsShape}
use Rattle.bridge_movement.specs.Fair.{IsMovement}
use Rattle.bridge_config.specs.ConfigValue.{ConfigValue, Pair, keys_of}

-- ASCII letters, digits, dots, hyphens and underscores
abbrev pub is_name_byte : ℕ → Bool
is_name_byte byte = is_ascii_alphanumeric byte || byte == 46 || byte == 45 || byte == 95

-- 1 to 24 of them
abbrev pub is_name : List ℕ → Bool
is_name text = list_all is_name_byte text && not (length text == 0) && nat_le (length text) 24

-- four digits, a dot, two digits, a dot and two digits
abbrev pub is_date_form : List ℕ → Bool
is_date_form text =
    length text == 10 && slice_index text 4 == 46 && slice_index text 7 == 46
    && list_all is_ascii_digit (take 4 text) && list_all is_ascii_digit (slice_range text 5 7)
    && list_all is_ascii_digit (drop 8 text)

-- the number of two digits
abbrev pub number_of_digits : ℕ → ℕ → ℕ
number_of_digits tens ones = 10 * (tens - 48) + (ones - 48)

-- from the low number to the high one
abbrev pub is_between : ℕ → ℕ → ℕ → Bool
is_between low high n = nat_le low n && nat_le n high

-- the month is from 01 to 12 and the day from 01 to 31
abbrev pub is_date_within : List ℕ → Bool
is_date_within date =
    is_between 1 12 (number_of_digits (slice_index date 5) (slice_index date 6))
    && is_between 1 31 (number_of_digits (slice_index date 8) (slice_index date 9))

-- the key is among those
abbrev pub stands_in : List ℕ → ℕ → Bool
stands_in keys key = list_any (λ other. other == key) keys

-- no key stands twice
abbrev pub are_distinct : List ℕ → Bool
are_distinct [] = true
are_distinct (key ∷ keys) = not (list_any (λ other. key == other) keys) && are_distinct keys

-- two players, each with a name and a key
pub record IsPair (pair : Pair) : Type 0 where
  pub two_names : length pair.names ≡ 2
  pub two_keys : length pair.keys ≡ 2
  pub names : list_all is_name pair.names ≡ true

-- a key has four bytes
abbrev pub IsKeyNumber : ℕ → Type 0
IsKeyNumber key = key ≤ 4294967295

-- keys, of which none stands twice
pub record AreKeys (keys : List ℕ) : Type 0 where
  pub numbers : All IsKeyNumber keys
  pub distinct : are_distinct keys ≡ true

-- each field is within its limits, and there are as many pairs as the movement has
pub record IsConfiguration (configuration : ConfigValue) : Type 0 where
  pub event : is_name configuration.event ≡ true
  pub site : is_name configuration.site ≡ true
  pub date_form : is_date_form configuration.date ≡ true
  pub date_within : is_date_within configuration.date ≡ true
  pub boards : is_between 1 3 configuration.boards ≡ true
  pub shape : IsShape configuration.movement.shape
  pub movement : IsMovement configuration.movement.shape configuration.movement.rows
  pub count : length configuration.pairs ≡ configuration.movement.shape.pairs
  pub pairs : All IsPair configuration.pairs
  pub keys : AreKeys (keys_of configuration)
