-- The plays of several sections with their scores, as the code keeps them.
use Rattle.std.specs.Prelude.{◌≡◌, ◌≤◌, ℤ, List, length, map, All}
use Rattle.std.specs.List.{range_with_len}
use Rattle.bridge_cards.specs.Board.{IsBoard}
use Rattle.bridge_cards.specs.declared.seat.Side.TheVariants.{NorthSouth}
use Rattle.bridge_ranking.specs.declared.game.Game.{Game}
use Rattle.bridge_ranking.specs.Ranking.{games_of, scores_on}
use Rattle.session_rules.specs.State.{SessionValue}
use Rattle.event_ranking.specs.Joint.{joint}

-- the plays of a section: at most as many as a session may have, each of a board
pub record AreOfSection (games : List Game) : Type 0 where
  pub most : length games ≤ 432
  pub boards : All (λ game. IsBoard game.board) games

-- the plays of 40 sections at most
pub record AreOfSections (sections : List (List Game)) : Type 0 where
  pub few : length sections ≤ 40
  pub each : All AreOfSection sections

-- of each board the scores of North and South in all sections
pub record AreWide (sections : List (List Game)) (scores : List (List ℤ)) : Type 0 where
  pub of_sections : AreOfSections sections
  pub by_board : scores ≡ map (scores_on (joint sections) NorthSouth) (range_with_len 1 36)

-- the plays are those of the sessions of 40 sections at most
pub record AreOfEvent (sessions : List SessionValue) (sections : List (List Game)) : Type 0 where
  pub few : length sessions ≤ 40
  pub games_are : sections ≡ map games_of sessions
