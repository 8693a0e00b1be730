-- What the director is told of one play, whatever its state.
use Rattle.std.specs.Prelude.{ℕ, if◌then◌else◌, List, Option, Some, None, slice_get, Ok, Err}
use Rattle.bridge_config.specs.ConfigValue.{ConfigValue}
use Rattle.bridge_movement.specs.declared.row.Row.{Row}
use Rattle.bridge_movement.specs.Shape.{index_of_row}
use Rattle.session_rules.specs.declared.action.PlayId.{PlayId}
use Rattle.session_rules.specs.declared.refused.Refused.TheVariants.{NoSuchPlay, NotDealt}
use Rattle.session_rules.specs.Answer.{Answer}
use Rattle.session_rules.specs.State.{SessionValue, is_row_within}
use Rattle.line_replies.specs.declared.short_reply.ShortReply.TheVariants.{Refused}
use Rattle.line_replies.specs.ReplyTexts.{short_text, listed_text}
use Rattle.board_replies.specs.KnownPlay.{KnownPlay, known_at}
use Rattle.board_replies.specs.PlayLines.{play_lines}

-- the row of a table in a round, if there is one
abbrev pub row_named : ConfigValue → ℕ → ℕ → Option Row
row_named configuration round table =
    if is_row_within configuration.movement.shape round table
    then slice_get configuration.movement.rows (index_of_row configuration.movement.shape round table)
    else None

-- the lines of a play, once its board is dealt
abbrev pub dealt_text : ConfigValue → Row → ℕ → KnownPlay → Option (List ℕ) → List ℕ
dealt_text configuration row index known None = short_text (Refused NotDealt)
dealt_text configuration row index known (Some hands) = listed_text (play_lines configuration row index None known)

-- of a play in a row, if there is one
abbrev pub known_text : ConfigValue → Row → ℕ → Option KnownPlay → List ℕ
known_text configuration row index None = short_text (Refused NoSuchPlay)
known_text configuration row index (Some known) = dealt_text configuration row index known known.hands

-- of the play of that index in a row, if there is one
abbrev pub row_text : SessionValue → ℕ → Option Row → List ℕ
row_text s index None = short_text (Refused NoSuchPlay)
row_text s index (Some row) = known_text s.configuration row index (known_at s row index)

-- of a play
abbrev pub one_text : SessionValue → PlayId → List ℕ
one_text s play = row_text s play.index (row_named s.configuration play.round play.table)

-- of a play, to the director alone
abbrev pub one_by : SessionValue → PlayId → Answer → List ℕ
one_by s play (Err refused) = short_text (Refused refused)
one_by s play (Ok _) = one_text s play
