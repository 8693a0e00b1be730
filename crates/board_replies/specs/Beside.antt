-- What other tables did on a board, and what it is worth so far.
use Rattle.std.specs.Prelude.{ℕ, ◌-◌, ◌*◌, Bool, true, false, ◌==◌, ◌&&◌, if◌then◌else◌, List, [], ◌∷◌, ◌++◌, codes, position, slice_get, sum_by, ℤ, unsigned_abs, Option, Some, None, option_and_then, is_some}
use Rattle.std.specs.List.{filter_map}
use Rattle.std.specs.Fmt.{decimal, signed_decimal}
use Rattle.bridge_cards.specs.declared.seat.Side.{Side}
use Rattle.bridge_cards.specs.declared.seat.Side.TheVariants.{NorthSouth, EastWest}
use Rattle.bridge_movement.specs.declared.row.Row.{Row}
use Rattle.bridge_cards.specs.declared.scoring.Scoring.{Scoring}
use Rattle.bridge_cards.specs.declared.scoring.Scoring.TheVariants.{MatchPoints, Imps}
use Rattle.line_text.specs.Decimals.{tenths_text}
use Rattle.bridge_results.specs.declared.compare.Comparison.{Comparison}
use Rattle.bridge_results.specs.declared.traveller.BoardLine.{BoardLine}
use Rattle.bridge_results.specs.PlayCells.{line_score}
use Rattle.bridge_results.specs.Traveller.{traveller}
use Rattle.session_rules.specs.State.{SessionValue}
use Rattle.line_replies.specs.ReplyTexts.{spaced_line}
use Rattle.line_replies.specs.TableWords.{nothing}
use Rattle.board_replies.specs.PlayLines.{result_by}

-- whether a line of a traveller is that of the row
abbrev pub is_here : Row → BoardLine → Bool
is_here row line = line.play.row.round == row.round && line.play.row.table == row.table

-- the line of another table: its number, the pairs, and what came of the play there
abbrev pub other_line : BoardLine → List ℕ
other_line line =
    spaced_line (codes "OTHER") (decimal line.play.row.table ∷ decimal line.play.row.ns ∷ decimal line.play.row.ew
    ∷ result_by line.play.outcome (line_score line.comparison))

-- the same, where it is not that of the row
abbrev pub other_in : Row → BoardLine → Option (List ℕ)
other_in row line = if is_here row line then None else Some (other_line line)

-- 1 for a line with a score, which one that is void or adjusted has not
abbrev pub score_count : BoardLine → ℕ
score_count line = if is_some (line_score line.comparison) then 1 else 0

-- the most matchpoints that there are: 2 for each other score
abbrev pub most_points : List BoardLine → ℕ
most_points lines = 2 * (sum_by score_count lines - 1)

-- what a side gained
abbrev pub gain_for : Side → Comparison → ℤ
gain_for NorthSouth compared = compared.ns_gain
gain_for EastWest compared = compared.ew_gain

-- what a play is worth to a side so far, and by matchpoints of how many; a void play is worth nothing
abbrev pub worth_words : Scoring → Side → ℕ → Option Comparison → List (List ℕ)
worth_words scoring side most None = nothing
worth_words MatchPoints side most (Some compared) = ((tenths_text (unsigned_abs (gain_for side compared)) ++ codes "/") ++ decimal most) ∷ []
worth_words Imps side most (Some compared) = signed_decimal (gain_for side compared) ∷ []

-- how the play of the line at an index compares
abbrev pub compared_at : List BoardLine → ℕ → Option Comparison
compared_at lines index = option_and_then (λ (line : BoardLine). line.comparison) (slice_get lines index)

-- how the play of the row compares, by the lines of its board
abbrev pub compared_here : Row → List BoardLine → Option Comparison
compared_here row lines = option_and_then (compared_at lines) (position (is_here row) lines)

-- the line of it
abbrev pub worth_line : Scoring → Side → Row → List BoardLine → List ℕ
worth_line scoring side row lines = spaced_line (codes "WORTH") (worth_words scoring side (most_points lines) (compared_here row lines))

-- the lines of the other tables that have finished a board, the best score of North and South first, and of what it is worth
abbrev pub board_beside : Scoring → Side → Row → List BoardLine → List (List ℕ)
board_beside scoring side row lines = filter_map (other_in row) lines ++ worth_line scoring side row lines ∷ []

-- the same of a board of a session, where players are told of other tables
abbrev pub beside : SessionValue → Bool → Side → Row → ℕ → List (List ℕ)
beside s false side row board = []
beside s true side row board = board_beside s.configuration.scoring side row (traveller s board)
