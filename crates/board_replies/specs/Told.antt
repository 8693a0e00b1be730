-- What is told of boards: to a player those that his pair has finished, to the director one play, or the rulings.
use Rattle.std.specs.Prelude.{ℕ, Bool, true, false, ◌==◌, if◌then◌else◌, List, [], ◌∷◌, ◌++◌, codes, flat_map, Option, None, Some, Result, Ok, Err}
use Rattle.std.specs.Option.{option_to_list}
use Rattle.std.specs.Result.{is_ok}
use Rattle.bridge_cards.specs.declared.seat.Side.{Side}
use Rattle.bridge_movement.specs.declared.row.Row.{Row}
use Rattle.line_text.specs.Lines.{lines_text}
use Rattle.session_rules.specs.declared.refused.Refused.{Refused as SessionRefused}
use Rattle.session_rules.specs.declared.seating.Player.{Player}
use Rattle.session_rules.specs.Answer.{Answer}
use Rattle.session_rules.specs.State.{SessionValue, acting_player, director_answer}
use Rattle.line_replies.specs.declared.short_reply.ShortReply.TheVariants.{Refused, BadLine}
use Rattle.line_replies.specs.ReplyTexts.{short_text, spaced_line, listed_text}
use Rattle.board_replies.specs.declared.asked.Asked.{Asked}
use Rattle.board_replies.specs.declared.asked.Asked.TheVariants.{Whole, OnePlay, Switch}
use Rattle.board_replies.specs.Asked.{asked_of}
use Rattle.board_replies.specs.Beside.{beside}
use Rattle.board_replies.specs.Director.{one_by}
use Rattle.board_replies.specs.KnownPlay.{KnownPlay}
use Rattle.board_replies.specs.OwnPlays.{OwnPlay, own_play_by, own_plays}
use Rattle.board_replies.specs.PlayLines.{play_lines}
use Rattle.board_replies.specs.Rulings.{ruled_lines}

-- whether a player is told what other tables did on his boards
abbrev pub others_word : Bool → List ℕ
others_word true = codes "OPEN"
others_word false = codes "SHUT"

-- the same as a line
abbrev pub others_line : Bool → List ℕ
others_line open_to_all = spaced_line (codes "OTHERS") (others_word open_to_all ∷ [])

-- the lines of a play of his pair, and of other tables on its board where he is told of them
abbrev pub own_lines : SessionValue → Bool → OwnPlay → List (List ℕ)
own_lines s is_open own =
    play_lines s.configuration own.row own.index (Some own.side) own.known ++ beside s is_open own.side own.row own.known.board

-- the lines of plays as a text
abbrev pub own_text : SessionValue → Bool → List OwnPlay → List ℕ
own_text s is_open plays = lines_text (flat_map (own_lines s is_open) plays)

-- the lines of a play of which so much is known, if it is over
abbrev pub known_text : SessionValue → Bool → Row → Side → ℕ → KnownPlay → List ℕ
known_text s is_open row side index known = own_text s is_open (option_to_list (own_play_by s.round row side index known))

-- what is told of the plays that a pair has finished
abbrev pub told_lines : SessionValue → Bool → List OwnPlay → List (List ℕ)
told_lines s is_open plays = others_line is_open ∷ flat_map (own_lines s is_open) plays

-- what a player is told, or the refusal where the key is no player's
abbrev pub boards_by : SessionValue → Bool → Result Player SessionRefused → List ℕ
boards_by s is_open (Err refused) = short_text (Refused refused)
boards_by s is_open (Ok player) = listed_text (told_lines s is_open (own_plays s player.pair))

-- what is told to the player of the key
abbrev pub boards_to : SessionValue → Bool → ℕ → List ℕ
boards_to s is_open key = boards_by s is_open (acting_player s.configuration key)

-- what the director is told where he names no play: the rulings
abbrev pub rulings_text : SessionValue → Bool → List ℕ
rulings_text s is_open = listed_text (others_line is_open ∷ ruled_lines s)

-- what is told to the holder of the key, who names no play
abbrev pub whole_to : SessionValue → Bool → ℕ → List ℕ
whole_to s is_open key = if key == s.configuration.director then rulings_text s is_open else boards_to s is_open key

-- what is told where other tables are opened or shut: the director may
abbrev pub switched_by : Bool → Answer → List ℕ
switched_by to_open (Err refused) = short_text (Refused refused)
switched_by to_open (Ok _) = listed_text (others_line to_open ∷ [])

-- what is answered to what is asked
abbrev pub asked_text : SessionValue → Bool → Option Asked → List ℕ
asked_text s is_open None = short_text BadLine
asked_text s is_open (Some (Whole key)) = whole_to s is_open key.0
asked_text s is_open (Some (OnePlay key play)) = one_by s play (director_answer s.configuration key.0)
asked_text s is_open (Some (Switch key to_open)) = switched_by to_open (director_answer s.configuration key.0)

-- what is answered to these bytes
abbrev pub boards_text : SessionValue → Bool → List ℕ → List ℕ
boards_text s is_open bytes = asked_text s is_open (asked_of bytes)

-- whether players are told of other tables from then on: as the director says, and else as before
abbrev pub is_open_after : SessionValue → Bool → Option Asked → Bool
is_open_after s is_open (Some (Switch key to_open)) = if is_ok (director_answer s.configuration key.0) then to_open else is_open
is_open_after s is_open _ = is_open

-- after these bytes
abbrev pub opened_by : SessionValue → Bool → List ℕ → Bool
opened_by s is_open bytes = is_open_after s is_open (asked_of bytes)
