-- What a player is told of his place, line by line.
use Rattle.std.specs.Prelude.{ℕ, ◌+◌, nat_lt, Bool, true, false, if◌then◌else◌, List, [], ◌∷◌, codes, slice_get, Option, None, Some, Result, Ok, Err}
use Rattle.std.specs.Fmt.{decimal}
use Rattle.std.specs.Option.{option_map_or}
use Rattle.bridge_cards.specs.Seat.{seat_letter}
use Rattle.bridge_auction.specs.declared.contract.Contract.{Contract}
use Rattle.bridge_config.specs.ConfigValue.{ConfigValue, Pair, player_name}
use Rattle.bridge_movement.specs.declared.row.Row.{Row}
use Rattle.session_rules.specs.declared.refused.Refused.{Refused as SessionRefused}
use Rattle.session_rules.specs.declared.refused.Refused.TheVariants.{Closed}
use Rattle.session_rules.specs.declared.seating.Player.{Player}
use Rattle.session_rules.specs.declared.seating.Seating.{Seating}
use Rattle.session_rules.specs.declared.stage.Stage.{Stage}
use Rattle.session_rules.specs.Stage.{stage_to}
use Rattle.session_rules.specs.State.{SessionValue, acting_player, seating_of}
use Rattle.bridge_movement.specs.Boards.{boards_before, last_board}
use Rattle.line_replies.specs.declared.short_reply.ShortReply.TheVariants.{Refused, BadLine}
use Rattle.line_replies.specs.KeyWord.{key_of_word}
use Rattle.line_replies.specs.ReplyTexts.{short_text, spaced_line, listed_text}
use Rattle.line_replies.specs.TableWords.{nothing, names_at, contract_words}

-- the names at the table of the row of that index
abbrev pub names_of_row : List Pair → Option Row → List (List ℕ)
names_of_row pairs None = nothing
names_of_row pairs (Some row) = names_at pairs row

-- the names at the table where the player sits
abbrev pub names_words : ConfigValue → Result Seating SessionRefused → List (List ℕ)
names_words configuration (Err refused) = nothing
names_words configuration (Ok seating) = names_of_row configuration.pairs (slice_get configuration.movement.rows seating.row)

-- the round, one more than the last once the session is closed, and how many rounds there are
abbrev pub round_line : ConfigValue → ℕ → List ℕ
round_line configuration round = spaced_line (codes "ROUND") (decimal round ∷ decimal configuration.movement.shape.rounds ∷ [])

-- the pair's number and the player's name
abbrev pub player_line : ConfigValue → Player → List ℕ
player_line configuration player =
    spaced_line (codes "PLAYER") (decimal player.pair ∷ player_name configuration.pairs player.pair player.first ∷ [])

-- the table, the seat, and the first and the last board of the table's set
abbrev pub table_words : ℕ → Result Seating SessionRefused → List (List ℕ)
table_words boards (Err refused) = nothing
table_words boards (Ok seating) =
    decimal seating.table ∷ (seat_letter seating.seat ∷ []) ∷ decimal (boards_before boards seating.set + 1) ∷ decimal (last_board boards seating.set) ∷ []

-- the contract that is known to the player
abbrev pub contract_seen : Result Stage SessionRefused → Option Contract
contract_seen (Err refused) = None
contract_seen (Ok stage) = stage.contract

-- whether the player's answer to a claim is known to be due
abbrev pub answer_seen : Result Stage SessionRefused → Bool
answer_seen (Err refused) = false
answer_seen (Ok stage) = stage.answer_due

-- the word for an answer that is due
abbrev pub answer_words : Bool → List (List ℕ)
answer_words false = nothing
answer_words true = codes "DUE" ∷ []

-- where the player sits in the next round, where there is one
abbrev pub next_seating : ConfigValue → ℕ → ℕ → Result Seating SessionRefused
next_seating configuration round key =
    if nat_lt round configuration.movement.shape.rounds then seating_of configuration (round + 1) key else Err Closed

-- The lines of a place: the round, the player, where he sits and with whom, the contract, whether his answer to a claim is
-- due, and where he sits in the next round. They are made of the configuration, the round and the stage of his play alone.
abbrev pub place_lines : ConfigValue → ℕ → Result Stage SessionRefused → ℕ → Player → List (List ℕ)
place_lines configuration round stage key player =
    round_line configuration round
    ∷ player_line configuration player
    ∷ spaced_line (codes "TABLE") (table_words configuration.boards (seating_of configuration round key))
    ∷ spaced_line (codes "NAMES") (names_words configuration (seating_of configuration round key))
    ∷ spaced_line (codes "CONTRACT") (contract_words (contract_seen stage))
    ∷ spaced_line (codes "ANSWER") (answer_words (answer_seen stage))
    ∷ spaced_line (codes "NEXT") (table_words configuration.boards (next_seating configuration round key))
    ∷ []

-- the place of the player of the key, or the refusal where it is no player's
abbrev pub place_by : ConfigValue → ℕ → Result Stage SessionRefused → ℕ → Result Player SessionRefused → List ℕ
place_by configuration round stage key (Err refused) = short_text (Refused refused)
place_by configuration round stage key (Ok player) = listed_text (place_lines configuration round stage key player)

-- what is told to the player of the key
abbrev pub place_to : SessionValue → ℕ → List ℕ
place_to s key = place_by s.configuration s.round (stage_to s key) key (acting_player s.configuration key)

-- what is answered to these bytes, which are to be a key
abbrev pub place_text : SessionValue → List ℕ → List ℕ
place_text s bytes = option_map_or (λ key. place_to s key.0) (key_of_word bytes) (short_text BadLine)
