-- The score card of a pair: a line for each of its plays, by round and board.
use Rattle.std.specs.Prelude.{ℕ, ◌==◌, if◌then◌else◌, List, ℤ, pos, Option, Some, None, option_and_then}
use Rattle.std.specs.List.{filter_map}
use Rattle.std.specs.Option.{option_map, option_map_or}
use Rattle.bridge_cards.specs.declared.seat.Side.{Side}
use Rattle.bridge_cards.specs.declared.seat.Side.TheVariants.{NorthSouth, EastWest}
use Rattle.bridge_movement.specs.declared.row.Row.{Row}
use Rattle.bridge_cards.specs.declared.scoring.Scoring.{Scoring}
use Rattle.bridge_ranking.specs.declared.game.Game.{Game}
use Rattle.bridge_ranking.specs.declared.game.PlayResult.{PlayResult}
use Rattle.bridge_ranking.specs.Ranking.{games_of, scores_on, side_score, gained, available_of}
use Rattle.session_rules.specs.State.{SessionValue}
use Rattle.bridge_results.specs.declared.play.TablePlay.{TablePlay}
use Rattle.bridge_results.specs.declared.card.CardLine.{CardLine}
use Rattle.bridge_results.specs.Plays.{plays_of}
use Rattle.bridge_results.specs.Comparison.{result_in}

-- the side on which a pair sits in a row
abbrev pub side_at : ℕ → Row → Option Side
side_at pair row = if row.ns == pair then Some NorthSouth else if row.ew == pair then Some EastWest else None

-- the pair against which a side plays
abbrev pub opponents_of : Side → Row → ℕ
opponents_of NorthSouth row = row.ew
opponents_of EastWest row = row.ns

-- the score of a side by what a play is compared by, which an adjusted or void play has not
abbrev pub own_score : Side → Option PlayResult → Option ℤ
own_score side result = option_and_then (side_score side) result

-- what a side gained on a board, and nothing by a play that is void
abbrev pub gain_by : Scoring → List Game → ℕ → Side → Option PlayResult → ℤ
gain_by scoring games board side result = option_map_or (gained scoring (scores_on games side board) side) result (pos 0)

-- what was available to a side on a board, and nothing by a play that is void
abbrev pub available_by : List Game → ℕ → Side → Option PlayResult → ℕ
available_by games board side result = option_map_or (λ _. available_of (scores_on games side board)) result 0

-- the line of a play on the card of the pair of a side
abbrev pub card_line_of : Scoring → List Game → TablePlay → Side → CardLine
card_line_of scoring games play side = record {
  board = play.board;
  round = play.row.round;
  side = side;
  opponents = opponents_of side play.row;
  outcome = play.outcome;
  score = own_score side (result_in play);
  gain = gain_by scoring games play.board side (result_in play);
  available = available_by games play.board side (result_in play);
}

-- the line of a play on the card of a pair, if the pair played there
abbrev pub score_card_line : Scoring → List Game → ℕ → TablePlay → Option CardLine
score_card_line scoring games pair play = option_map (card_line_of scoring games play) (side_at pair play.row)

-- the lines of a pair among plays
abbrev pub card_lines : Scoring → List Game → List TablePlay → ℕ → List CardLine
card_lines scoring games plays pair = filter_map (score_card_line scoring games pair) plays

-- The score card of a pair: its plays that are finished, adjusted or void, by round, then by board.
abbrev pub score_card_of : SessionValue → ℕ → List CardLine
score_card_of s pair = card_lines s.configuration.scoring (games_of s) (plays_of s) pair
