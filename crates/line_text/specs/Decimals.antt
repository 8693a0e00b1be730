-- Numbers with decimals.
use Rattle.std.specs.Prelude.{ℕ, ◌/◌, ◌%◌, ◌+◌, List, [], ◌∷◌, ◌++◌, codes, Option, Some, None}
use Rattle.std.specs.Fmt.{decimal}

-- a number below 100 in two digits
abbrev pub two_digits : ℕ → List ℕ
two_digits number = (48 + number / 10) ∷ (48 + number % 10) ∷ []

-- a number of tenths, in units with one decimal, as `1.2`
abbrev pub tenths_text : ℕ → List ℕ
tenths_text tenths = (decimal (tenths / 10) ++ codes ".") ++ (48 + tenths % 10) ∷ []

-- a number of hundredths, in units with two decimals, as `33.33`
abbrev pub hundredths_text : ℕ → List ℕ
hundredths_text hundredths = (decimal (hundredths / 100) ++ codes ".") ++ two_digits (hundredths % 100)

-- a percentage of so many hundredths with two decimals, or `-` where there is none
abbrev pub percent_text : Option ℕ → List ℕ
percent_text None = codes "-"
percent_text (Some hundredths) = hundredths_text hundredths
