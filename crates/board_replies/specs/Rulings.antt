-- The rulings that the director has made, as far as they change what came of a play.
use Rattle.std.specs.Prelude.{ℕ, ◌==◌, if◌then◌else◌, List, [], ◌∷◌, codes, flat_map, Option, Some, None, option_and_then}
use Rattle.std.specs.List.{filter_map}
use Rattle.std.specs.Option.{option_map}
use Rattle.std.specs.Fmt.{decimal}
use Rattle.bridge_cards.specs.Seat.{side_of}
use Rattle.bridge_auction.specs.declared.contract.Contract.{Contract}
use Rattle.bridge_movement.specs.declared.row.Row.{Row}
use Rattle.bridge_play.specs.Play.{PlayValue, tricks_of}
use Rattle.session_rules.specs.declared.outcome.Outcome.{Outcome}
use Rattle.session_rules.specs.declared.outcome.Outcome.TheVariants.{Played, Voided, Adjusted, Assigned}
use Rattle.session_rules.specs.declared.ruling.Ruling.{Ruling}
use Rattle.session_rules.specs.declared.ruling.Ruling.TheVariants as ruling
use Rattle.session_rules.specs.State.{SessionValue}
use Rattle.line_replies.specs.ReplyTexts.{spaced_line}
use Rattle.board_replies.specs.KnownPlay.{KnownPlay, known_at}
use Rattle.board_replies.specs.PlayLines.{average_words, played_words}

-- declarer has that many tricks by a ruling, where they are not those that were made
abbrev pub tricks_ruled : Contract → ℕ → PlayValue → Option Ruling
tricks_ruled contract tricks play =
    if tricks == tricks_of play (side_of contract.declarer) then None else Some (ruling.Tricks tricks)

-- the ruling that a play shows: it is void, adjusted, has an assigned score, or other tricks than were made
abbrev pub ruling_shown : Outcome → Option PlayValue → Option Ruling
ruling_shown Voided play = Some ruling.Void
ruling_shown (Adjusted ns ew) play = Some (ruling.Adjusted ns ew)
ruling_shown (Assigned contract tricks) play = Some (ruling.Assigned contract tricks)
ruling_shown (Played contract tricks) play = option_and_then (tricks_ruled contract tricks) play
ruling_shown _ play = None

-- a ruling
abbrev pub ruling_words : Ruling → List (List ℕ)
ruling_words ruling.Void = codes "VOID" ∷ []
ruling_words (ruling.Adjusted ns ew) = average_words ns ew
ruling_words (ruling.Assigned contract tricks) = codes "ASSIGNED" ∷ played_words contract tricks None
ruling_words (ruling.Tricks tricks) = codes "TRICKS" ∷ decimal tricks ∷ []

-- the line of a ruling: the round, the table, the index in the set, the board, and the ruling
abbrev pub ruled_line : Row → ℕ → ℕ → Ruling → List ℕ
ruled_line row index board made =
    spaced_line (codes "RULED") (decimal row.round ∷ decimal row.table ∷ decimal index ∷ decimal board ∷ ruling_words made)

-- of a play that is known
abbrev pub ruled_by : Row → ℕ → KnownPlay → Option (List ℕ)
ruled_by row index known = option_map (ruled_line row index known.board) (ruling_shown known.outcome known.play)

-- of the play of the board at an index of a row's set
abbrev pub ruled_at : SessionValue → Row → ℕ → Option (List ℕ)
ruled_at s row index = option_and_then (ruled_by row index) (known_at s row index)

-- of the plays of a row's set
abbrev pub ruled_in : SessionValue → Row → List (List ℕ)
ruled_in s row = filter_map (ruled_at s row) (1 ∷ 2 ∷ 3 ∷ [])

-- The lines of all rulings, by round, table and index in the set.
unfoldable pub ruled_lines : SessionValue → List (List ℕ)
ruled_lines s = flat_map (ruled_in s) s.configuration.movement.rows
