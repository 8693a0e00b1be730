-- Words that single spaces separate.
use Rattle.std.specs.Prelude.{ℕ, ◌==◌, if◌then◌else◌, List, [], ◌∷◌, Option, Some, None}
use Rattle.std.specs.List.{join_with_byte, slice_split}
use Rattle.std.specs.Str.{bytes_eq}
use Rattle.line_text.specs.Lines.{is_long}

-- words with one space between each two
abbrev pub spaced : List (List ℕ) → List ℕ
spaced words = join_with_byte 32 words

-- what single spaces separate
abbrev pub spaced_words : List ℕ → List (List ℕ)
spaced_words line = slice_split (λ byte. byte == 32) line

-- the words of a line; a line of more than 128 bytes has none
abbrev pub words_of : List ℕ → List (List ℕ)
words_of line = if is_long line then [] else spaced_words line

-- the one word of a line that has no other
abbrev pub only_word : List (List ℕ) → Option (List ℕ)
only_word (word ∷ []) = Some word
only_word _ = None

-- the word of a line that has that word after the keyword
abbrev pub word_after : List ℕ → List (List ℕ) → Option (List ℕ)
word_after keyword [] = None
word_after keyword (first ∷ words) = if bytes_eq first keyword then only_word words else None

-- five words, in order
pub record Five : Type 0 where
  pub first : List ℕ
  pub second : List ℕ
  pub third : List ℕ
  pub fourth : List ℕ
  pub fifth : List ℕ

-- the words where they are five
abbrev pub five_words : List (List ℕ) → Option Five
five_words (a ∷ b ∷ c ∷ d ∷ e ∷ []) = Some (record { first = a; second = b; third = c; fourth = d; fifth = e })
five_words _ = None

-- the five words of a line that has five after the keyword
abbrev pub five_after : List ℕ → List (List ℕ) → Option Five
five_after keyword [] = None
five_after keyword (first ∷ words) = if bytes_eq first keyword then five_words words else None
