-- The results of a session as games of Portable Bridge Notation 2.1: one for each board of which a table has a result.
use Rattle.std.specs.Prelude.{◌≡◌, ℕ, List, [], ◌∷◌, ◌++◌, codes, flat_map, Option, Result}
use Rattle.std.specs.List.{range_with_len}
use Rattle.std.specs.Option.{option_map_or}
use Rattle.line_text.specs.Lines.{lines_text}
use Rattle.line_text.specs.Streams.{Stream, Written}
use Rattle.bridge_cards.specs.Board.{dealer_of, vulnerability_on}
use Rattle.bridge_cards.specs.DealText.{deal_text}
use Rattle.bridge_cards.specs.Seat.{seat_letter}
use Rattle.bridge_cards.specs.Vulnerability.{vulnerability_text}
use Rattle.bridge_cards.specs.declared.scoring.Scoring.{Scoring}
use Rattle.bridge_config.specs.ConfigValue.{ConfigValue}
use Rattle.bridge_ranking.specs.declared.field.Field.TheVariants.{First, Second}
use Rattle.session_rules.specs.State.{SessionValue, deal_on}
use Rattle.bridge_results.specs.declared.traveller.BoardLine.{BoardLine}
use Rattle.bridge_results.specs.MakeableText.{MakeableBoards, makeable_on}
use Rattle.bridge_results.specs.Plays.{plays_of}
use Rattle.bridge_results.specs.ResultsText.{IsFieldRanking}
use Rattle.bridge_results.specs.Traveller.{traveller}
use Rattle.bridge_pbn.specs.Tags.{tag, scoring_text, event_tags}
use Rattle.results_pbn.specs.Optimum.{known_tags}
use Rattle.results_pbn.specs.Scores.{score_table}
use Rattle.results_pbn.specs.Totals.{Totals, totals_on, first_board}

-- ---- the 15 tags of every game (section 3.4), in their order

-- a game is a board and not one table's play of it, so that no players sit there
unfoldable pub no_players : List ℕ
no_players = codes "[West \"\"]\n[North \"\"]\n[East \"\"]\n[South \"\"]\n"

-- and nothing came of it
unfoldable pub no_outcome : List ℕ
no_outcome = codes "[Declarer \"\"]\n[Contract \"\"]\n[Result \"\"]\n"

-- the hands, the dealer's first, once the board is dealt
abbrev pub hands_text : ℕ → Option (List ℕ) → List ℕ
hands_text board hands = option_map_or (λ (dealt : List ℕ). deal_text dealt (dealer_of board)) hands []

-- the dealer, the vulnerability and the hands of the board, and how scores are compared
abbrev pub board_tags : ℕ → Option (List ℕ) → Scoring → List (List ℕ)
board_tags board hands scoring =
    tag (codes "Dealer") (seat_letter (dealer_of board) ∷ [])
    ∷ tag (codes "Vulnerable") (vulnerability_text (vulnerability_on board))
    ∷ tag (codes "Deal") (hands_text board hands)
    ∷ tag (codes "Scoring") (scoring_text scoring)
    ∷ []

-- all 15
unfoldable pub head_text : ConfigValue → ℕ → Option (List ℕ) → List ℕ
head_text configuration board hands =
    ((lines_text (event_tags configuration board) ++ no_players) ++ lines_text (board_tags board hands configuration.scoring)) ++ no_outcome

-- ---- the games

-- the tags of a board, and what could be made on it
unfoldable pub board_start : SessionValue → MakeableBoards → ℕ → List ℕ
board_start s boards board = head_text s.configuration board (deal_on s.deals board) ++ known_tags board (makeable_on boards board)

-- its tables, and an empty line
unfoldable pub board_tables : ConfigValue → Totals → ℕ → List BoardLine → List ℕ
board_tables configuration totals board lines =
    score_table configuration.scoring lines ++ (totals_on configuration totals board ++ codes "\n")

-- the game of a board with these lines
unfoldable pub board_game : SessionValue → MakeableBoards → Totals → ℕ → List BoardLine → List ℕ
board_game s boards totals board lines = board_start s boards board ++ board_tables s.configuration totals board lines

-- the same where a table has a result
abbrev pub played_game : SessionValue → MakeableBoards → Totals → ℕ → List BoardLine → List ℕ
played_game s boards totals board [] = []
played_game s boards totals board (line ∷ lines) = board_game s boards totals board (line ∷ lines)

-- the game of a board with the lines of its traveller
abbrev pub game_on : SessionValue → MakeableBoards → Totals → ℕ → List ℕ
game_on s boards totals board = played_game s boards totals board (traveller s board)

-- those of boards 1 to 36
unfoldable pub all_games : SessionValue → MakeableBoards → Totals → List ℕ
all_games s boards totals = flat_map (game_on s boards totals) (range_with_len 1 36)

-- the text
abbrev pub results_games : SessionValue → MakeableBoards → Totals → List ℕ
results_games s boards totals = codes "% PBN 2.1\n" ++ all_games s boards totals

-- the rankings of the session, to stand in the first game
pub record AreTotals (s : SessionValue) (totals : Totals) : Type 0 where
  pub board : totals.board ≡ first_board (plays_of s)
  pub first : IsFieldRanking s First totals.first
  pub second : IsFieldRanking s Second totals.second

-- the text is the games of the session, with what could be made on the boards of which it is known
abbrev pub IsGamesText : MakeableBoards → SessionValue → List ℕ → Type 0
IsGamesText boards s text = (totals : Totals) × AreTotals s totals × (text ≡ results_games s boards totals)

-- the writer took that text, or at an error a prefix of it
abbrev pub WritesGames : {E : Type 0} → Stream → MakeableBoards → SessionValue → Result (Unit {0}) E → Type 0
WritesGames writer boards s result = (totals : Totals) × AreTotals s totals × Written writer (results_games s boards totals) result
