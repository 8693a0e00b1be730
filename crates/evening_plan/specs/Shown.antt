-- A line as it can be shown.
use Rattle.std.specs.Prelude.{ℕ, ◌+◌, ◌/◌, ◌%◌, nat_lt, nat_le, ◌&&◌, if◌then◌else◌, List, [], ◌∷◌, ◌++◌, codes, length, take, flat_map, Option, None, Some}
use Rattle.std.specs.Fmt.{decimal}

-- a digit of base 16
abbrev pub hex_digit : ℕ → ℕ
hex_digit digit = if nat_lt digit 10 then 48 + digit else 55 + digit

-- a printable byte of ASCII as it is, and any other as its number in base 16, as `<0D>`
abbrev pub shown_byte : ℕ → List ℕ
shown_byte byte =
    if nat_le 32 byte && nat_le byte 126 then byte ∷ []
    else 60 ∷ hex_digit (byte / 16) ∷ hex_digit (byte % 16) ∷ 62 ∷ []

-- the first 80 bytes, and a mark where there are more
abbrev pub shown_text : List ℕ → List ℕ
shown_text line = flat_map shown_byte (take 80 line) ++ (if nat_lt 80 (length line) then codes " .." else [])

-- the line itself, where there is one
abbrev pub shown_words : Option (List ℕ) → List ℕ
shown_words None = codes "(none)"
shown_words (Some line) = shown_text line

-- the line of that number
unfoldable pub shown_line : ℕ → Option (List ℕ) → List ℕ
shown_line number line = (((codes "line " ++ decimal number) ++ codes ": ") ++ shown_words line) ++ codes "\n"
