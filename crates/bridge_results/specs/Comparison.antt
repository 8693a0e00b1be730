-- What a play is compared by, and what each side gained by it against the other scores of its board (Laws 12C2, 78).
use Rattle.std.specs.Prelude.{ℕ, List, Option}
use Rattle.std.specs.Option.{option_map}
use Rattle.std.specs.List.{filter_map}
use Rattle.bridge_cards.specs.declared.seat.Side.TheVariants.{NorthSouth, EastWest}
use Rattle.bridge_cards.specs.declared.scoring.Scoring.{Scoring}
use Rattle.bridge_ranking.specs.declared.game.Game.{Game}
use Rattle.bridge_ranking.specs.declared.game.PlayResult.{PlayResult}
use Rattle.bridge_ranking.specs.Ranking.{result_of, game_by, scores_on, gained}
use Rattle.bridge_results.specs.declared.play.TablePlay.{TablePlay}
use Rattle.bridge_results.specs.declared.compare.Comparison.{Comparison}

-- what a play is compared by, if it is not void
abbrev pub result_in : TablePlay → Option PlayResult
result_in play = result_of play.board play.outcome

-- the game of a play, if it is compared
abbrev pub game_of : TablePlay → Option Game
game_of play = game_by play.row play.board play.outcome

-- the games among plays
abbrev pub games_among : List TablePlay → List Game
games_among plays = filter_map game_of plays

-- what each side gained on a board of these games by that result
abbrev pub comparison_by : Scoring → List Game → ℕ → PlayResult → Comparison
comparison_by scoring games board result = record {
  result = result;
  ns_gain = gained scoring (scores_on games NorthSouth board) NorthSouth result;
  ew_gain = gained scoring (scores_on games EastWest board) EastWest result;
}

-- how a play compares with the others of its board, if it is not void
abbrev pub comparison_of : Scoring → List Game → TablePlay → Option Comparison
comparison_of scoring games play = option_map (comparison_by scoring games play.board) (result_in play)
