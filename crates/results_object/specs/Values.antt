-- What texts, numbers and lists are in JSON (RFC 8259).
use Rattle.std.specs.Prelude.{◌≡◌, ℕ, ℤ, List, [], ◌∷◌, map, Option, Result, IfOk}
use Rattle.std.specs.Option.{option_map_or}
use Rattle.line_text.specs.Decimals.{hundredths_text}
use Rattle.serde_json.specs.Data.{Data, null, number, unsigned, string, array}
use Rattle.serde_json.specs.Find.{of_integer}
use Rattle.serde_json.specs.View.{items_of, view}
use Rattle.serde_json.specs.declared.value.Value.{Value}
use Rattle.std.specs.declared.alloc.AllocError.{AllocError}

-- a text, or null where it would be empty
abbrev pub text_data : List ℕ → Data
text_data [] = null
text_data (byte ∷ bytes) = string (byte ∷ bytes)

-- a number that is not negative
abbrev pub count_data : ℕ → Data
count_data count = number (unsigned count)

-- a number, or null
abbrev pub number_data : Option ℤ → Data
number_data value = option_map_or (λ (found : ℤ). number (of_integer found)) value null

-- a share in per cent, with two decimals, or null
abbrev pub percent_data : Option ℕ → Data
percent_data hundredths = option_map_or (λ (found : ℕ). string (hundredths_text found)) hundredths null

-- a list
abbrev pub list_data : {A : Type 0} → (A → Data) → List A → Data
list_data of values = array (items_of (map of values))

-- a value that is this, unless memory was refused
abbrev pub IsValue : Data → Result Value AllocError → Type 0
IsValue wanted value = IfOk value (λ made. view made ≡ wanted)
