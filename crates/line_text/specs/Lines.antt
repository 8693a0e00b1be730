-- Lines of bytes.
use Rattle.std.specs.Prelude.{ℕ, Bool, ◌==◌, nat_lt, not, if◌then◌else◌, List, [], ◌∷◌, ◌++◌, length, drop, flat_map}

-- the byte goes onto the front of the first line, if there is one
abbrev pub onto_first_line : ℕ → List (List ℕ) → List (List ℕ)
onto_first_line byte [] = []
onto_first_line byte (line ∷ lines) = (byte ∷ line) ∷ lines

-- the complete lines: what stands before each line feed (byte 10)
abbrev pub complete_lines : List ℕ → List (List ℕ)
complete_lines [] = []
complete_lines (byte ∷ bytes) = if byte == 10 then [] ∷ complete_lines bytes else onto_first_line byte (complete_lines bytes)

-- a line may have 128 bytes before its line feed
abbrev pub is_long : List ℕ → Bool
is_long line = nat_lt 128 (length line)

-- no line feed
abbrev pub is_within_line : ℕ → Bool
is_within_line byte = not (byte == 10)

-- the text of lines, each with the line feed at its end
abbrev pub lines_text : List (List ℕ) → List ℕ
lines_text [] = []
lines_text (line ∷ lines) = line ++ 10 ∷ lines_text lines

-- lists one after another, with the separator between each two
abbrev pub parted : {A : Type 0} → A → List (List A) → List A
parted separator lists = drop 1 (flat_map (λ list. separator ∷ list) lists)
