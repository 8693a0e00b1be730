-- What a word of a line states: a number, and a key.
use Rattle.std.specs.Prelude.{ℕ, ◌&&◌, if◌then◌else◌, List, Option, Some, None}
use Rattle.std.specs.Option.{option_map}
use Rattle.std.specs.Str.Parse.{digits_value}
use Rattle.line_text.specs.Numeral.{is_numeral}
use Rattle.bridge_config.specs.declared.fields.Key.{Key}
use Rattle.bridge_config.specs.Limits.{is_between}

-- the number of a numeral, from low to high
abbrev pub number_of_word : ℕ → ℕ → List ℕ → Option ℕ
number_of_word low high word =
    if is_numeral word && is_between low high (digits_value 10 word) then Some (digits_value 10 word) else None

-- the key of a number
abbrev pub key_numbered : ℕ → Key
key_numbered number = record { 0 = number }

-- a key: a number of 32 bits
abbrev pub key_of_word : List ℕ → Option Key
key_of_word word = option_map key_numbered (number_of_word 0 4294967295 word)
