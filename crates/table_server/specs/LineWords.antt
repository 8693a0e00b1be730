-- What the words of a line of the protocol state.
use Rattle.std.specs.Prelude.{◌≡◌, ℕ, ◌+◌, ◌-◌, ◌*◌, ◌==◌, nat_le, Bool, ◌&&◌, ◌||◌, if◌then◌else◌, List, [], ◌∷◌, length, slice_index, map, position, codes, Option, Some, None}
use Rattle.std.specs.List.{list_all, range_with_len}
use Rattle.std.specs.Option.{option_map}
use Rattle.std.specs.Char.{is_ascii_digit}
use Rattle.std.specs.Str.{bytes_eq}
use Rattle.bridge_cards.specs.Card.{card_text}
use Rattle.line_replies.specs.KeyWord.{number_of_word}
use Rattle.session_rules.specs.declared.average.Average.{Average}
use Rattle.session_rules.specs.Average.{average_of}
use Rattle.bridge_ranking.specs.declared.field.Field.{Field}
use Rattle.bridge_ranking.specs.declared.field.Field.TheVariants.{First, Second}

infixl 10 ◌>>=◌
-- what follows where a word was read, and otherwise nothing
abbrev pub ◌>>=◌ : {A B : Type 0} → Option A → (A → Option B) → Option B
(Some value) >>= f = f value
None >>= f = None

-- what a function found, seen by view, is what reading gives
abbrev pub FoundAs : {X Y : Type 0} → (X → Y) → Option X → Option Y → Type 0
FoundAs view (Some value) read = read ≡ Some (view value)
FoundAs view None read = read ≡ None

-- a board: 1 to 36
abbrev pub board_of_word : List ℕ → Option ℕ
board_of_word word = number_of_word 1 36 word

-- how many calls, cards or claims were made
abbrev pub made_of_word : List ℕ → Option ℕ
made_of_word word = number_of_word 0 999 word

-- tricks: 0 to 13
abbrev pub tricks_of_word : List ℕ → Option ℕ
tricks_of_word word = number_of_word 0 13 word

-- per cent of the matchpoints available, as an average
abbrev pub average_of_word : List ℕ → Option Average
average_of_word word = number_of_word 40 60 word >>= average_of

-- a round: 1 to 12
abbrev pub round_of_word : List ℕ → Option ℕ
round_of_word word = number_of_word 1 12 word

-- a table: 1 to 12
abbrev pub table_of_word : List ℕ → Option ℕ
table_of_word word = number_of_word 1 12 word

-- the index of a board in its set: 1 to 3
abbrev pub index_of_word : List ℕ → Option ℕ
index_of_word word = number_of_word 1 3 word

-- how many cards were played before an ending
abbrev pub cards_of_word : List ℕ → Option ℕ
cards_of_word word = number_of_word 0 52 word

-- a field: 1 for the first, 2 for the second
abbrev pub field_of_word : List ℕ → Option Field
field_of_word word = if bytes_eq word (codes "1") then Some First else if bytes_eq word (codes "2") then Some Second else None

-- the card that has this text
abbrev pub card_of_word : List ℕ → Option ℕ
card_of_word word = position (λ card. bytes_eq (card_text card) word) (range_with_len 0 52)

-- 0 to 9, and a to f
abbrev pub is_lower_hex : ℕ → Bool
is_lower_hex digit = is_ascii_digit digit || (nat_le 97 digit && nat_le digit 102)

-- the value of a digit
abbrev pub hex_value : ℕ → ℕ
hex_value digit = if is_ascii_digit digit then digit - 48 else digit - 87

-- the byte of the pair of digits at an index, the pairs counted from 0
abbrev pub hex_byte : List ℕ → ℕ → ℕ
hex_byte word index = 16 * hex_value (slice_index word (2 * index)) + hex_value (slice_index word (2 * index + 1))

-- the 32 bytes that 64 digits state
abbrev pub seed_of : List ℕ → Option (List ℕ)
seed_of word =
    if length word == 64 && list_all is_lower_hex word then Some (map (hex_byte word) (range_with_len 0 32)) else None

-- the first of several words, read, and the words after it
abbrev pub first_of : {A : Type 0} → (List ℕ → Option A) → List (List ℕ) → Option (A × List (List ℕ))
first_of read [] = None
first_of read (word ∷ []) = None
first_of read (word ∷ next ∷ words) = option_map (λ value. (value, next ∷ words)) (read word)
