-- Decimal numerals.
use Rattle.std.specs.Prelude.{ℕ, Bool, not, ◌&&◌, ◌||◌, ◌==◌, List, length, slice_index}
use Rattle.std.specs.List.{list_all}
use Rattle.std.specs.Char.{is_ascii_digit}

-- decimal digits without a leading zero; 0 itself is one zero
abbrev pub is_numeral : List ℕ → Bool
is_numeral word =
    list_all is_ascii_digit word && not (length word == 0) && (length word == 1 || not (slice_index word 0 == 48))
