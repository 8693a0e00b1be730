-- The lines of a score card add up to the pair's line in the ranking.
use Rattle.std.proofs.Common.{◌≡◌, ◌+◌, ℕ, List, [], ◌∷◌, Option, Some, None, ℤ, pos, ◌+ℤ◌, refl, sym, ap, ◌∙◌, arith, sum_by}
use Rattle.std.specs.List.{cons_option, filter_map, fold}
use Rattle.std.specs.Option.{option_map, option_map_or}
use Rattle.std.proofs.lemmas.Int.{ints}
use Rattle.bridge_cards.specs.declared.seat.Side.{Side}
use Rattle.bridge_cards.specs.declared.scoring.Scoring.{Scoring}
use Rattle.bridge_score.specs.Comparison.{int_sum_by}
use Rattle.bridge_ranking.specs.declared.game.Game.{Game}
use Rattle.bridge_ranking.specs.declared.game.PlayResult.{PlayResult}
use Rattle.bridge_ranking.specs.Ranking.{games_of, scores_on, gained, available_of, value_in, available_in, line_of}
use Rattle.session_rules.specs.State.{SessionValue}
use Rattle.bridge_results.specs.declared.play.TablePlay.{TablePlay}
use Rattle.bridge_results.specs.declared.card.CardLine.{CardLine}
use Rattle.bridge_results.specs.Plays.{plays_of}
use Rattle.bridge_results.specs.Comparison.{result_in, game_of}
use Rattle.bridge_results.specs.ScoreCard.{side_at, card_line_of, score_card_line, card_lines, score_card_of}
use Rattle.bridge_results.proofs.Plays.{games_are}

-- the sum from a start on
abbrev added : {T X : Type 0} → (T → T → T) → (X → T) → T → List X → T
added plus f start xs = fold (λ total x. plus total (f x)) start xs

-- of one play more, what its line adds and what its game adds
one_adds : {T : Type 0} (plus : T → T → T) (none : T) → ((a : T) → plus a none ≡ a) → (of_line : CardLine → T) (of_game : Game → T) (line : Side → CardLine) (game : PlayResult → Game)
    (made : Side → PlayResult → T) (side : Option Side) (result : Option PlayResult) (start : T) (lines : List CardLine) (games : List Game) →
    ((s : Side) → of_line (line s) ≡ option_map_or (made s) result none) → ((r : PlayResult) → of_game (game r) ≡ option_map_or (λ s. made s r) side none) →
    ((from : T) → added plus of_line from lines ≡ added plus of_game from games) →
    added plus of_line start (cons_option (option_map line side) lines) ≡ added plus of_game start (cons_option (option_map game result) games)
one_adds plus none unit of_line of_game line game made None None start lines games by_line by_game rest = rest start
one_adds plus none unit of_line of_game line game made None (Some result) start lines games by_line by_game rest =
    rest start ∙ ap (λ from. added plus of_game from games) (sym (ap (plus start) (by_game result) ∙ unit start))
one_adds plus none unit of_line of_game line game made (Some side) None start lines games by_line by_game rest =
    ap (λ from. added plus of_line from lines) (ap (plus start) (by_line side) ∙ unit start) ∙ rest start
one_adds plus none unit of_line of_game line game made (Some side) (Some result) start lines games by_line by_game rest =
    ap (λ from. added plus of_line from lines) (ap (plus start) (by_line side ∙ sym (by_game result))) ∙ rest (plus start (of_game (game result)))

-- the game of a play by that result
abbrev game_with : TablePlay → PlayResult → Game
game_with play result = record { board = play.board; ns = play.row.ns; ew = play.row.ew; result = result }

all_add : {T : Type 0} (plus : T → T → T) (none : T) → ((a : T) → plus a none ≡ a) → (of_line : CardLine → T) (of_game : Game → T) (made : TablePlay → Side → PlayResult → T)
    (scoring : Scoring) (games : List Game) (pair : ℕ) →
    ((play : TablePlay) (s : Side) → of_line (card_line_of scoring games play s) ≡ option_map_or (made play s) (result_in play) none) →
    ((play : TablePlay) (r : PlayResult) → of_game (game_with play r) ≡ option_map_or (λ s. made play s r) (side_at pair play.row) none) →
    (start : T) (plays : List TablePlay) → added plus of_line start (filter_map (score_card_line scoring games pair) plays) ≡ added plus of_game start (filter_map game_of plays)
all_add plus none unit of_line of_game made scoring games pair by_line by_game start [] = refl
all_add plus none unit of_line of_game made scoring games pair by_line by_game start (play ∷ plays) =
    one_adds plus none unit of_line of_game (card_line_of scoring games play) (game_with play) (made play) (side_at pair play.row) (result_in play) start
    (filter_map (score_card_line scoring games pair) plays) (filter_map game_of plays) (by_line play) (by_game play)
    (λ from. all_add plus none unit of_line of_game made scoring games pair by_line by_game from plays)

no_gain : (a : ℤ) → a +ℤ pos 0 ≡ a
no_gain a = omega (arith, ints)

none_more : (a : ℕ) → a + 0 ≡ a
none_more a = omega arith

gains_add : (scoring : Scoring) (games : List Game) (pair : ℕ) (plays : List TablePlay) → int_sum_by (λ (line : CardLine). line.gain) (card_lines scoring games plays pair) ≡ int_sum_by (value_in scoring games pair) (filter_map game_of plays)
gains_add scoring games pair plays =
    all_add ◌+ℤ◌ (pos 0) no_gain (λ (line : CardLine). line.gain) (value_in scoring games pair) (λ play side result. gained scoring (scores_on games side play.board) side result)
    scoring games pair (λ play side. refl) (λ play result. refl) (pos 0) plays

available_adds : (scoring : Scoring) (games : List Game) (pair : ℕ) (plays : List TablePlay) → sum_by (λ (line : CardLine). line.available) (card_lines scoring games plays pair) ≡ sum_by (available_in games pair) (filter_map game_of plays)
available_adds scoring games pair plays =
    all_add ◌+◌ 0 none_more (λ (line : CardLine). line.available) (available_in games pair) (λ play side result. available_of (scores_on games side play.board))
    scoring games pair (λ play side. refl) (λ play result. refl) 0 plays

pub card_gain : (s : SessionValue) (pair : ℕ) → int_sum_by (λ (line : CardLine). line.gain) (score_card_of s pair) ≡ (line_of s.configuration.scoring (games_of s) pair).value
card_gain s pair =
    gains_add s.configuration.scoring (games_of s) pair (plays_of s)
    ∙ ap (int_sum_by (value_in s.configuration.scoring (games_of s) pair)) (games_are s)

pub card_available : (s : SessionValue) (pair : ℕ) → sum_by (λ (line : CardLine). line.available) (score_card_of s pair) ≡ (line_of s.configuration.scoring (games_of s) pair).available
card_available s pair =
    available_adds s.configuration.scoring (games_of s) pair (plays_of s)
    ∙ ap (sum_by (available_in (games_of s) pair)) (games_are s)
