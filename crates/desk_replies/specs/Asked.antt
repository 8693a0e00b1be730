-- What is asked of the desk.
use Rattle.std.specs.Prelude.{ℕ, Bool, false, ◌==◌, if◌then◌else◌, List, [], ◌∷◌, bytes_eq, codes, Option, Some, None, option_and_then}
use Rattle.std.specs.Option.{option_map, option_map_or}
use Rattle.bridge_config.specs.ConfigValue.{ConfigValue}
use Rattle.bridge_config.specs.declared.fields.Key.{Key}
use Rattle.session_rules.specs.State.{is_nobodys}
use Rattle.line_replies.specs.KeyWord.{number_of_word, key_of_word}
use Rattle.desk_replies.specs.PlainText.{plain_text_of}
use Rattle.desk_replies.specs.declared.asked.Asked.{Asked}
use Rattle.desk_replies.specs.declared.asked.Order.{Order}
use Rattle.desk_replies.specs.declared.asked.Order.TheVariants.{Look, Notice, NoNotice, Clock, NoClock, Answered, Call, State, Refuse}

-- what stands before the first space and after it, where there is one
abbrev pub parted : List ℕ → Option (List ℕ × List ℕ)
parted [] = None
parted (byte ∷ bytes) =
    if byte == 32 then Some ([], bytes)
    else option_map (λ (parts : List ℕ × List ℕ). (byte ∷ parts.0, parts.1)) (parted bytes)

-- a word alone: the notice or the clock is taken down, the director is called, or a claim is refused
abbrev pub order_alone : List ℕ → Option Order
order_alone word =
    if bytes_eq word (codes "NOTICE") then Some NoNotice
    else if bytes_eq word (codes "CLOCK") then Some NoClock
    else if bytes_eq word (codes "CALL") then Some (Call [])
    else if bytes_eq word (codes "REFUSAL") then Some Refuse
    else None

-- a word and what stands after it: a notice of 1 to 200 characters, 1 to 240 minutes, a table, or 1 to 100 characters
abbrev pub order_with : List ℕ → List ℕ → Option Order
order_with word text =
    if bytes_eq word (codes "NOTICE") then option_map Notice (plain_text_of 1 200 text)
    else if bytes_eq word (codes "CLOCK") then option_map Clock (number_of_word 1 240 text)
    else if bytes_eq word (codes "ANSWERED") then option_map Answered (number_of_word 1 12 text)
    else if bytes_eq word (codes "CALL") then option_map Call (plain_text_of 1 100 text)
    else if bytes_eq word (codes "STATEMENT") then option_map State (plain_text_of 1 100 text)
    else None

-- the parts of what stands after a key, if it has two
abbrev pub order_of_parts : List ℕ → Option (List ℕ × List ℕ) → Option Order
order_of_parts text None = order_alone text
order_of_parts text (Some parts) = order_with parts.0 parts.1

-- what stands after a key
abbrev pub order_of : List ℕ → Option Order
order_of text = order_of_parts text (parted text)

-- that key's holder asks for it
abbrev pub asked_by : List ℕ → Option Order → Option Asked
asked_by word order =
    option_and_then (λ (key : Key). option_map (λ (o : Order). record { key = key; order = o }) order) (key_of_word word)

-- a key alone asks for what stands
abbrev pub asked_of_parts : List ℕ → Option (List ℕ × List ℕ) → Option Asked
asked_of_parts bytes None = asked_by bytes (Some Look)
asked_of_parts bytes (Some parts) = asked_by parts.0 (order_of parts.1)

-- what these bytes ask for
abbrev pub asked_of : List ℕ → Option Asked
asked_of bytes = asked_of_parts bytes (parted bytes)

-- whether these bytes ask by a key that is nobody's
abbrev pub has_wrong_key : ConfigValue → List ℕ → Bool
has_wrong_key configuration bytes = option_map_or (λ (asked : Asked). is_nobodys configuration asked.key.0) (asked_of bytes) false
