-- Texts that are typed: characters that show themselves where they stand.
use Rattle.std.specs.Prelude.{ℕ, Bool, not, ◌&&◌, ◌||◌, ◌==◌, if◌then◌else◌, List, length, Option, Some, None}
use Rattle.std.specs.List.{list_all}
use Rattle.std.specs.Str.{chars, is_utf8}
use Rattle.bridge_config.specs.Limits.{is_between}

-- a control character, or the end of a line or of a paragraph
abbrev pub is_control : ℕ → Bool
is_control character = is_between 0 31 character || is_between 127 159 character || is_between 8232 8233 character

-- a character that turns the direction of those beside it
abbrev pub turns_direction : ℕ → Bool
turns_direction character =
    character == 1564 || is_between 8206 8207 character || is_between 8234 8238 character || is_between 8294 8297 character

-- a character that shows itself, and does nothing to others
abbrev pub is_plain : ℕ → Bool
is_plain character = not (is_control character) && not (turns_direction character)

-- so many characters, each of which is plain
abbrev pub has_plain : ℕ → ℕ → List ℕ → Bool
has_plain low high bytes = list_all is_plain (chars bytes) && is_between low high (length (chars bytes))

-- these bytes, where they are so many of them in UTF-8
abbrev pub plain_text_of : ℕ → ℕ → List ℕ → Option (List ℕ)
plain_text_of low high bytes = if is_utf8 bytes && has_plain low high bytes then Some bytes else None
