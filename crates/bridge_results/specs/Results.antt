-- What is kept of a session for its results.
use Rattle.std.specs.Prelude.{◌≡◌, List, All}
use Rattle.bridge_ranking.specs.declared.game.Game.{Game}
use Rattle.bridge_ranking.specs.Ranking.{games_of}
use Rattle.bridge_ranking.specs.Gains.{AreGames}
use Rattle.session_rules.specs.State.{SessionValue}
use Rattle.session_rules.specs.StateRange.{IsSession}
use Rattle.bridge_results.specs.declared.play.TablePlay.{TablePlay}
use Rattle.bridge_results.specs.Plays.{plays_of, HasTricksWithin}

-- the plays of a session, with no more tricks than a board has, and its games, which can be compared
pub record AreResults (s : SessionValue) (plays : List TablePlay) (games : List Game) : Type 0 where
  pub session : IsSession s
  pub plays_are : plays ≡ plays_of s
  pub games_are : games ≡ games_of s
  pub tricks : All HasTricksWithin plays
  pub compared : AreGames games
