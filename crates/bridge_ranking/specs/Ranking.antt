-- The ranking of a session: which plays are compared, what a pair gains in them, and the pairs of a field in order (Laws 12C2,
-- 78). Matchpoints, and what is available, are in tenths.
use Rattle.std.specs.Prelude.{◌≡◌, ℕ, ◌+◌, ◌-◌, ◌*◌, ◌/◌, ◌==◌, nat_lt, Bool, true, if◌then◌else◌, List, length, map, position, sum_by, flat_map, zip, ℤ, pos, neg_ℤ, Option, Some, None, Ok, Err, AllPairs, IsPermutation}
use Rattle.std.specs.List.{filter_map, range_with_len}
use Rattle.std.specs.Option.{option_map, option_map_or}
use Rattle.std.specs.Ordering.{int_eq}
use Rattle.bridge_cards.specs.declared.seat.Side.{Side}
use Rattle.bridge_cards.specs.declared.seat.Side.TheVariants.{NorthSouth, EastWest}
use Rattle.bridge_cards.specs.Board.{vulnerability_on}
use Rattle.bridge_cards.specs.Seat.{side_of}
use Rattle.bridge_cards.specs.Vulnerability.{includes_side}
use Rattle.bridge_auction.specs.declared.contract.Contract.{Contract}
use Rattle.bridge_movement.specs.declared.row.Row.{Row}
use Rattle.bridge_movement.specs.declared.shape.Shape.{Shape}
use Rattle.bridge_cards.specs.declared.scoring.Scoring.{Scoring}
use Rattle.bridge_cards.specs.declared.scoring.Scoring.TheVariants.{MatchPoints, Imps}
use Rattle.bridge_score.specs.declared.ranking.Line.{Line}
use Rattle.bridge_score.specs.declared.ranking.Ranked.{Ranked}
use Rattle.bridge_score.specs.ScoringTable.{score_of}
use Rattle.bridge_score.specs.Comparison.{int_sum_by, matchpoints_of, cross_imps_of}
use Rattle.bridge_score.specs.Ranking.{ranked_in, StandsBefore}
use Rattle.bridge_ranking.specs.declared.field.Field.{Field}
use Rattle.bridge_ranking.specs.declared.field.Field.TheVariants.{First, Second}
use Rattle.bridge_ranking.specs.declared.game.Game.{Game}
use Rattle.bridge_ranking.specs.declared.game.PlayResult.{PlayResult}
use Rattle.bridge_ranking.specs.declared.game.PlayResult.TheVariants.{Score, Averages}
use Rattle.session_rules.specs.declared.average.Average.{Average}
use Rattle.session_rules.specs.Average.{percent_of}
use Rattle.session_rules.specs.declared.outcome.Outcome.{Outcome}
use Rattle.session_rules.specs.declared.outcome.Outcome.TheVariants.{PassedOut, Played, Adjusted, Assigned}
use Rattle.session_rules.specs.Answer.{Answer}
use Rattle.session_rules.specs.declared.refused.Refused.TheVariants.{NoSuchPlay}
use Rattle.session_rules.specs.Record.{PlainRecord}
use Rattle.session_rules.specs.Outcome.{outcome_of}
use Rattle.session_rules.specs.State.{SessionValue, ranking_asker}
use Rattle.session_rules.specs.DirectorStep.{if_allowed}

-- The plays that are compared

-- what a side scores where North and South score so much, and the other way round
abbrev pub score_for : Side → ℤ → ℤ
score_for NorthSouth score = score
score_for EastWest score = neg_ℤ score

-- what North and South score for a contract on a board, with so many tricks
abbrev pub played_score : ℕ → Contract → ℕ → ℤ
played_score board contract tricks =
    score_for (side_of contract.declarer) (score_of contract (includes_side (vulnerability_on board) (side_of contract.declarer)) tricks)

-- what a play is compared by: its score where it is finished and not void, the score that is assigned, or its averages
abbrev pub result_of : ℕ → Outcome → Option PlayResult
result_of board PassedOut = Some (Score (pos 0))
result_of board (Played contract tricks) = Some (Score (played_score board contract tricks))
result_of board (Assigned contract tricks) = Some (Score (played_score board contract tricks))
result_of board (Adjusted ns ew) = Some (Averages ns ew)
result_of board _ = None

-- the game of a row on a board with that outcome, if it is compared
abbrev pub game_by : Row → ℕ → Outcome → Option Game
game_by row board outcome =
    option_map (λ result. record { board = board; ns = row.ns; ew = row.ew; result = result }) (result_of board outcome)

-- the play of a record by the pairs of a row, if it is compared
abbrev pub game_in : Row → PlainRecord → Option Game
game_in row plain = game_by row plain.board (outcome_of plain)

-- the games of a row's records
abbrev pub games_in : Row × List PlainRecord → List Game
games_in both = filter_map (game_in both.0) both.1

-- the plays of a session that are compared, of all rounds, tables and fields
abbrev pub games_of : SessionValue → List Game
games_of s = flat_map games_in (zip s.configuration.movement.rows s.records)

-- What a pair gains

-- the game is on the board
abbrev pub is_on : ℕ → Game → Bool
is_on board game = game.board == board

-- a side's score, which an adjusted play has not
abbrev pub side_score : Side → PlayResult → Option ℤ
side_score side (Score score) = Some (score_for side score)
side_score side (Averages ns ew) = None

-- a side's score in a game, if it is one of the board
abbrev pub score_in : Side → ℕ → Game → Option ℤ
score_in side board game = if is_on board game then side_score side game.result else None

-- the scores of a side on a board
abbrev pub scores_on : List Game → Side → ℕ → List ℤ
scores_on games side board = filter_map (score_in side board) games

-- what the score at an index gains against the others
abbrev pub gain_at : Scoring → List ℤ → ℕ → ℤ
gain_at MatchPoints scores index = pos (matchpoints_of scores index)
gain_at Imps scores index = cross_imps_of scores index

-- what a score of the list gains against the others; equal scores gain the same
abbrev pub gain_of : Scoring → List ℤ → ℤ → ℤ
gain_of scoring scores own = option_map_or (gain_at scoring scores) (position (int_eq own) scores) (pos 0)

-- 20 for each other score, and nothing on a board without scores
abbrev pub available_of : List ℤ → ℕ
available_of scores = 20 * (length scores - 1)

-- an average of so much that is available, of matchpoints alone
abbrev pub award : Scoring → Average → ℕ → ℤ
award MatchPoints average available = pos (percent_of average * available / 100)
award Imps average available = pos 0

-- the average of a side
abbrev pub average_for : Side → Average → Average → Average
average_for NorthSouth ns ew = ns
average_for EastWest ns ew = ew

-- what a side gains on a board with these scores: against the others by a score, or by an average of what is available
abbrev pub gained : Scoring → List ℤ → Side → PlayResult → ℤ
gained scoring scores side (Score score) = gain_of scoring scores (score_for side score)
gained scoring scores side (Averages ns ew) = award scoring (average_for side ns ew) (available_of scores)

-- the side on which a pair played
abbrev pub side_in : ℕ → Game → Option Side
side_in pair game = if game.ns == pair then Some NorthSouth else if game.ew == pair then Some EastWest else None

-- what the pair gained in a game, if it played there
abbrev pub value_in : Scoring → List Game → ℕ → Game → ℤ
value_in scoring games pair game =
    option_map_or (λ side. gained scoring (scores_on games side game.board) side game.result) (side_in pair game) (pos 0)

-- what was available to the pair in a game
abbrev pub available_in : List Game → ℕ → Game → ℕ
available_in games pair game = option_map_or (λ side. available_of (scores_on games side game.board)) (side_in pair game) 0

-- the sums over all games
abbrev pub line_of : Scoring → List Game → ℕ → Line
line_of scoring games pair = record {
  pair = pair;
  value = int_sum_by (value_in scoring games pair) games;
  available = sum_by (available_in games pair) games;
}

-- The ranking of a field

-- there is no second field where the first has all pairs
abbrev pub has_field : Shape → Field → Bool
has_field shape First = true
has_field shape Second = nat_lt shape.split shape.pairs

-- the pairs up to the split, and those after it
abbrev pub pairs_of_field : Shape → Field → List ℕ
pairs_of_field shape First = range_with_len 1 shape.split
pairs_of_field shape Second = range_with_len (shape.split + 1) (shape.pairs - shape.split)

-- the answer to who asks for the ranking of a field
abbrev pub ranking_answer : SessionValue → ℕ → Field → Answer
ranking_answer s key field =
    if_allowed (ranking_asker s.configuration s.round key) (if has_field s.configuration.movement.shape field then Ok tt else Err NoSuchPlay)

-- the lines of a field in a session
abbrev pub lines_of : SessionValue → Field → List Line
lines_of s field =
    map (line_of s.configuration.scoring (games_of s)) (pairs_of_field s.configuration.movement.shape field)

-- the lines with their places, by place, then by pair
pub record IsRankingOf (scoring : Scoring) (lines : List Line) (ranking : List Ranked) : Type 0 where
  pub lines_are : IsPermutation (map (ranked_in scoring lines) lines) ranking
  pub order : AllPairs StandsBefore ranking

-- the ranking of the field, to one who may see it
pub record IsRankingTo (s : SessionValue) (key : ℕ) (field : Field) (ranking : List Ranked) : Type 0 where
  pub allowed : ranking_answer s key field ≡ Ok tt
  pub ranked : IsRankingOf s.configuration.scoring (lines_of s field) ranking
