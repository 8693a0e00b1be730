-- The plays that are compared, of the records that the code keeps.
use Rattle.std.specs.Prelude.{flat_map, zip, List, Option}
use Rattle.std.specs.List.{filter_map}
use Rattle.bridge_cards.specs.Board.{IsBoard}
use Rattle.bridge_table.specs.declared.record.Record.{Record}
use Rattle.bridge_movement.specs.declared.row.Row.{Row}
use Rattle.bridge_ranking.specs.declared.game.Game.{Game}
use Rattle.bridge_ranking.specs.declared.game.PlayResult.{PlayResult}
use Rattle.bridge_ranking.specs.declared.game.PlayResult.TheVariants.{Score}
use Rattle.session_rules.specs.Outcome.{outcome_by}
use Rattle.bridge_table.specs.Kept.{course_kept}
use Rattle.bridge_ranking.specs.Ranking.{game_by}
use Rattle.bridge_score.specs.ScoringTable.{IsScore}

-- the play of a record by the pairs of a row, if it is compared
abbrev pub kept_game : Row → Record → Option Game
kept_game row kept = game_by row kept.board (outcome_by kept.auction.calls (course_kept kept) kept.ruling)

-- the games of a row with its table's records
abbrev pub kept_games_in : Row × List Record → List Game
kept_games_in both = filter_map (kept_game both.0) both.1

-- the plays that are compared, of the tables of all rows
abbrev pub kept_games : List Row → List (List Record) → List Game
kept_games rows tables = flat_map kept_games_in (zip rows tables)

-- a score is within the scoring table
abbrev pub IsResult : PlayResult → Type 0
IsResult (Score score) = IsScore score
IsResult _ = Unit {0}

-- the score of a game is within the scoring table, and its board is one
abbrev pub IsGame : Game → Type 0
IsGame game = IsResult game.result × IsBoard game.board
