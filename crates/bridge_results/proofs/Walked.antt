-- What is made of the plays and games that a loop has passed, and of one more.
use Rattle.std.proofs.Common.{◌≡◌, ◌+◌, ◌==◌, ◌<◌, ◌≤◌, ℕ, Bool, true, false, cond, List, [], ◌∷◌, ◌++◌, length, get_or, take, drop, filter, map, Option, Some, None, sym, ap, ◌∙◌, arith, length-append, ℤ}
use Rattle.std.specs.List.{cons_option, filter_map}
use Rattle.std.proofs.lemmas.List.{take_more, take-append-drop, map-append, append-nil, length-map}
use Rattle.std.proofs.lemmas.List.Elements.{filter_map-append, filter-append}
use Rattle.std.proofs.lemmas.List.Sums.{fold_push}
use Rattle.bridge_cards.specs.declared.seat.Side.{Side}
use Rattle.bridge_cards.specs.declared.scoring.Scoring.{Scoring}
use Rattle.bridge_ranking.specs.declared.game.Game.{Game}
use Rattle.bridge_ranking.specs.declared.game.PlayResult.{PlayResult}
use Rattle.bridge_ranking.specs.declared.game.PlayResult.TheVariants.{Score, Averages}
use Rattle.bridge_ranking.specs.Ranking.{is_on, side_score, scores_on}
use Rattle.bridge_results.specs.declared.play.TablePlay.{TablePlay}
use Rattle.bridge_results.specs.declared.traveller.BoardLine.{BoardLine}
use Rattle.bridge_results.specs.Plays.{is_of, plays_on}
use Rattle.bridge_results.specs.Traveller.{board_line_of, with_line, in_order}
use Rattle.bridge_results.proofs.Order.{order_length}

-- where something comes of an element, less came of those before it than of all
pub room_left : {X Y : Type 0} (f : X → Option Y) (xs : List X) (i : ℕ) (d : X) (y : Y) → i < length xs → f (get_or xs i d) ≡ Some y → length (filter_map f (take i xs)) + 1 ≤ length (filter_map f xs)
room_left {X} {Y} f xs i d y within is =
    let before = filter_map f (take i xs) in
    let after = filter_map f (drop (i + 1) xs) in
    let next : filter_map f (take (i + 1) xs) ≡ before ++ y ∷ [] =
    ap (filter_map f) (take_more xs i d within)
    ∙ filter_map-append f (take i xs) (get_or xs i d ∷ [])
    ∙ ap (λ (o : Option Y). before ++ cons_option o []) is in
    let whole : filter_map f (take (i + 1) xs) ++ after ≡ filter_map f xs =
    sym (filter_map-append f (take (i + 1) xs) (drop (i + 1) xs)) ∙ ap (filter_map f) (take-append-drop (i + 1) xs) in
    omega (arith, ap length next, ap length whole, length-append before (y ∷ []), length-append (filter_map f (take (i + 1) xs)) after)

-- a board has no more scores of a side than games
perhaps_score : (here : Bool) (side : Side) (result : PlayResult) (scores : List ℤ) (game : Game) (games : List Game) → length scores ≤ length games → length (cons_option (cond here (side_score side result) None) scores) ≤ length (cond here (game ∷ games) games)
perhaps_score true side (Score score) scores game games less = omega arith
perhaps_score true side (Averages ns ew) scores game games less = omega arith
perhaps_score false side result scores game games less = less

pub few_scores : (games : List Game) (side : Side) (board : ℕ) → length (scores_on games side board) ≤ length (filter (is_on board) games)
few_scores [] side board = omega arith
few_scores (game ∷ games) side board =
    perhaps_score (game.board == board) side game.result (scores_on games side board) game (filter (is_on board) games) (few_scores games side board)

-- the plays of a board with one play more
plays_next : (plays : List TablePlay) (board i : ℕ) (d : TablePlay) (here : Bool) → i < length plays → is_of board (get_or plays i d) ≡ here → plays_on (take (i + 1) plays) board ≡ plays_on (take i plays) board ++ cond here (get_or plays i d ∷ []) []
plays_next plays board i d here within is =
    ap (filter (is_of board)) (take_more plays i d within)
    ∙ filter-append (is_of board) (take i plays) (get_or plays i d ∷ [])
    ∙ ap (λ b. plays_on (take i plays) board ++ cond b (get_or plays i d ∷ []) []) is

-- the lines of a board with one play more
abbrev lines_among : Scoring → List Game → List TablePlay → List BoardLine
lines_among scoring games plays = in_order (map (board_line_of scoring games) plays)

pub lines_more : (scoring : Scoring) (games : List Game) (plays : List TablePlay) (board i : ℕ) (d : TablePlay) (before after : List BoardLine) → i < length plays → is_of board (get_or plays i d) ≡ true →
    before ≡ lines_among scoring games (plays_on (take i plays) board) → after ≡ with_line before (board_line_of scoring games (get_or plays i d)) → after ≡ lines_among scoring games (plays_on (take (i + 1) plays) board)
lines_more scoring games plays board i d before after within is so_far left =
    let passed = plays_on (take i plays) board in
    let play = get_or plays i d in
    left
    ∙ ap (λ lines. with_line lines (board_line_of scoring games play)) so_far
    ∙ sym (fold_push with_line [] (map (board_line_of scoring games) passed) (board_line_of scoring games play))
    ∙ ap in_order (sym (map-append (board_line_of scoring games) passed (play ∷ [])))
    ∙ ap (lines_among scoring games) (sym (plays_next plays board i d true within is))

pub lines_same : (scoring : Scoring) (games : List Game) (plays : List TablePlay) (board i : ℕ) (d : TablePlay) (before : List BoardLine) → i < length plays → is_of board (get_or plays i d) ≡ false →
    before ≡ lines_among scoring games (plays_on (take i plays) board) → before ≡ lines_among scoring games (plays_on (take (i + 1) plays) board)
lines_same scoring games plays board i d before within is so_far =
    so_far
    ∙ ap (lines_among scoring games) (sym (append-nil (plays_on (take i plays) board)))
    ∙ ap (lines_among scoring games) (sym (plays_next plays board i d false within is))

-- there is room for the line of a play of the board
pub room_for_line : (scoring : Scoring) (games : List Game) (plays : List TablePlay) (board i : ℕ) (d : TablePlay) (before : List BoardLine) → i < length plays → is_of board (get_or plays i d) ≡ true →
    before ≡ lines_among scoring games (plays_on (take i plays) board) → length before + 1 ≤ length (plays_on plays board)
room_for_line scoring games plays board i d before within is so_far =
    let passed = plays_on (take i plays) board in
    let next = plays_next plays board i d true within is in
    let whole : plays_on (take (i + 1) plays) board ++ plays_on (drop (i + 1) plays) board ≡ plays_on plays board =
    sym (filter-append (is_of board) (take (i + 1) plays) (drop (i + 1) plays)) ∙ ap (filter (is_of board)) (take-append-drop (i + 1) plays) in
    omega (
      arith,
      ap length so_far,
      order_length [] (map (board_line_of scoring games) passed),
      length-map passed (board_line_of scoring games),
      ap length next,
      length-append passed (get_or plays i d ∷ []),
      ap length whole,
      length-append (plays_on (take (i + 1) plays) board) (plays_on (drop (i + 1) plays) board),
    )
