-- The results of several sections as games of Portable Bridge Notation 2.1: one for each board of which a section has a result.
use Rattle.std.specs.Prelude.{ℕ, ◌==◌, if◌then◌else◌, List, [], ◌∷◌, ◌++◌, codes, flat_map, slice_get, Result}
use Rattle.std.specs.List.{range_with_len}
use Rattle.std.specs.Option.{option_map_or}
use Rattle.line_text.specs.Streams.{Stream, Written}
use Rattle.bridge_config.specs.ConfigValue.{ConfigValue}
use Rattle.bridge_ranking.specs.declared.field.Field.TheVariants.{First, Second}
use Rattle.session_rules.specs.State.{SessionValue}
use Rattle.bridge_results.specs.MakeableText.{MakeableBoards, makeable_on}
use Rattle.results_pbn.specs.Games.{head_text}
use Rattle.results_pbn.specs.Optimum.{known_tags}
use Rattle.event_ranking.specs.declared.ranking.SectionRanked.{SectionRanked}
use Rattle.event_ranking.specs.Dealt.{first_deal}
use Rattle.event_ranking.specs.EventRanking.{IsFieldRanking}
use Rattle.event_results.specs.declared.play.SectionPlay.{SectionPlay}
use Rattle.event_results.specs.EventTraveller.{event_traveller}
use Rattle.event_pbn.specs.declared.games.EventGames as found
use Rattle.event_pbn.specs.Played.{first_board}
use Rattle.event_pbn.specs.SectionScores.{section_scores}
use Rattle.event_pbn.specs.EventTotals.{total_table}

-- what the games are made of: the configuration of the first section, all sections, what could be made on the boards of which it is
-- known, the board in whose game the rankings stand, and the rankings of both fields over all sections
pub record EventGames : Type 0 where
  pub configuration : ConfigValue
  pub sections : List SessionValue
  pub boards : MakeableBoards
  pub board : ℕ
  pub first : List SectionRanked
  pub second : List SectionRanked

-- what the code has of it
abbrev pub seen : found.EventGames → EventGames
seen games = record {
  configuration = games.config.now;
  sections = games.results.now;
  boards = games.boards.now;
  board = games.board;
  first = games.first.now;
  second = games.second.now;
}

-- the rankings, in the game of one board
abbrev pub totals_on : EventGames → ℕ → List ℕ
totals_on event board =
    if board == event.board then total_table event.configuration.scoring event.sections event.first event.second else []

-- the 15 tags of a board, and what could be made on it
unfoldable pub board_start : EventGames → ℕ → List ℕ
board_start event board =
    head_text event.configuration board (first_deal event.sections board) ++ known_tags board (makeable_on event.boards board)

-- its tables, and an empty line
unfoldable pub board_tables : EventGames → ℕ → List SectionPlay → List ℕ
board_tables event board plays = section_scores event.configuration.scoring plays ++ (totals_on event board ++ codes "\n")

-- the game of a board with these plays
unfoldable pub board_game : EventGames → ℕ → List SectionPlay → List ℕ
board_game event board plays = board_start event board ++ board_tables event board plays

-- the same where a table has a result
abbrev pub played_game : EventGames → ℕ → List SectionPlay → List ℕ
played_game event board [] = []
played_game event board (play ∷ plays) = board_game event board (play ∷ plays)

-- the game of a board with the plays of its traveller
abbrev pub game_on : EventGames → ℕ → List ℕ
game_on event board = played_game event board (event_traveller event.sections board)

-- those of boards 1 to 36
unfoldable pub all_games : EventGames → List ℕ
all_games event = flat_map (game_on event) (range_with_len 1 36)

-- the games of sections with these rankings
abbrev pub games_text : List SessionValue → MakeableBoards → List SectionRanked → List SectionRanked → List ℕ
games_text sections boards first second =
    option_map_or (λ (s : SessionValue). all_games (record {
      configuration = s.configuration;
      sections = sections;
      boards = boards;
      board = first_board sections;
      first = first;
      second = second;
    })) (slice_get sections 0) []

-- the text
abbrev pub event_games : List SessionValue → MakeableBoards → List SectionRanked → List SectionRanked → List ℕ
event_games sections boards first second = codes "% PBN 2.1\n" ++ games_text sections boards first second

-- the writer took the text with the rankings over all sections, and with what could be made on the boards of which it is known; or at an
-- error a prefix of it
abbrev pub WritesEventGames : {E : Type 0} → Stream → MakeableBoards → List SessionValue → Result (Unit {0}) E → Type 0
WritesEventGames writer boards sections result = (first second : List SectionRanked) × IsFieldRanking sections First first
    × IsFieldRanking sections Second second × Written writer (event_games sections boards first second) result
