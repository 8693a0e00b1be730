-- What a body asks for.
use Rattle.std.specs.Prelude.{ℕ, Bool, true, false, if◌then◌else◌, List, [], ◌∷◌, bytes_eq, codes, Option, Some, None, option_and_then}
use Rattle.std.specs.Option.{option_map, option_map_or}
use Rattle.bridge_config.specs.ConfigValue.{ConfigValue}
use Rattle.bridge_config.specs.declared.fields.Key.{Key}
use Rattle.session_rules.specs.declared.action.PlayId.{PlayId}
use Rattle.session_rules.specs.State.{is_nobodys}
use Rattle.line_text.specs.Words.{spaced_words}
use Rattle.line_replies.specs.KeyWord.{number_of_word, key_of_word}
use Rattle.board_replies.specs.declared.asked.Asked.{Asked}
use Rattle.board_replies.specs.declared.asked.Asked.TheVariants.{Whole, OnePlay, Switch}

-- a round and a table: 1 to 12
abbrev pub twelve_of_word : List ℕ → Option ℕ
twelve_of_word word = number_of_word 1 12 word

-- the play that three words name: its round, its table and its index in the set
abbrev pub play_by_words : List ℕ → List ℕ → List ℕ → Option PlayId
play_by_words round table index =
    option_and_then (λ (r : ℕ).
    option_and_then (λ (t : ℕ).
    option_map (λ (i : ℕ). record { round = r; table = t; index = i })
    (number_of_word 1 3 index)) (twelve_of_word table)) (twelve_of_word round)

-- the play that a text of three words names
abbrev pub play_of_words : List (List ℕ) → Option PlayId
play_of_words (round ∷ table ∷ index ∷ []) = play_by_words round table index
play_of_words _ = None

-- whether other tables are to be told of
abbrev pub switch_of_word : List ℕ → Option Bool
switch_of_word word = if bytes_eq word (codes "OPEN") then Some true else if bytes_eq word (codes "SHUT") then Some false else None

-- what the words after a key ask for: that other tables be told of, or not; or one play
abbrev pub asked_after : Key → List (List ℕ) → Option Asked
asked_after key (word ∷ []) = option_map (Switch key) (switch_of_word word)
asked_after key words = option_map (OnePlay key) (play_of_words words)

-- a key alone, or a key and other words
abbrev pub asked_of_words : List (List ℕ) → Option Asked
asked_of_words [] = None
asked_of_words (key ∷ []) = option_map Whole (key_of_word key)
asked_of_words (key ∷ word ∷ words) = option_and_then (λ (k : Key). asked_after k (word ∷ words)) (key_of_word key)

-- what these bytes ask for
abbrev pub asked_of : List ℕ → Option Asked
asked_of bytes = asked_of_words (spaced_words bytes)

-- the key by which something is asked
abbrev pub key_in : Asked → ℕ
key_in (Whole key) = key.0
key_in (OnePlay key play) = key.0
key_in (Switch key to_open) = key.0

-- whether these bytes ask by a key that is nobody's
abbrev pub has_wrong_key : ConfigValue → List ℕ → Bool
has_wrong_key configuration bytes = option_map_or (λ (asked : Asked). is_nobodys configuration (key_in asked)) (asked_of bytes) false
