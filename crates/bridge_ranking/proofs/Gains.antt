-- What pairs gain, game by game.
use Rattle.std.proofs.Common.{◌≡◌, ◌+◌, ◌<◌, ◌≤◌, ◌==◌, ℕ, Bool, true, false, cond, List, [], ◌∷◌, ◌++◌, length, take, map, filter, get_or, Option, Some, None, ◌-◌, ◌≢◌, inl, inr, ℤ, pos, neg_ℤ, ◌+ℤ◌, ◌≤ℤ◌, refl, sym, ap, ◌∙◌, arith, length-append}
use Rattle.std.specs.List.{cons_option, filter_map, range_with_len}
use Rattle.std.proofs.lemmas.Int.{ints, to_z-of_z}
use mir.Syntax.{w32}
use mir.Val.{SFits, of_z, to_z}
use Rattle.std.specs.Prelude.{All, AllPairs, slice_get}
use Rattle.std.proofs.lemmas.Bool.{eq-eqb}
use Rattle.std.proofs.lemmas.Bool.Decides.{eqb_tells}
use Rattle.std.proofs.lemmas.List.FromFn.{length-range_with_len, length-map-range_with_len, get_or-map-range_with_len}
use Rattle.std.proofs.lemmas.List.{append-nil, length-map, length-set, take_more, ext_get_or, get_or-set_same, get_or-set_other}
use Rattle.std.proofs.lemmas.List.Elements.{All-nil, All-cons, All-head, All-tail, filter_map-append}
use Rattle.std.proofs.lemmas.Option.{get_or_from_slice_get}
use Rattle.std.proofs.lemmas.List.Sums.{fold_more}
use Rattle.bridge_cards.specs.declared.seat.Side.{Side}
use Rattle.bridge_cards.specs.declared.seat.Side.TheVariants.{NorthSouth, EastWest}
use Rattle.bridge_cards.specs.Board.{IsBoard}
use Rattle.bridge_cards.specs.declared.scoring.Scoring.{Scoring}
use Rattle.bridge_cards.specs.declared.scoring.Scoring.TheVariants.{MatchPoints, Imps}
use Rattle.bridge_score.specs.declared.ranking.Line.{Line}
use Rattle.bridge_score.specs.Comparison.{int_sum_by}
use Rattle.bridge_score.specs.Ranking.{AreOfTwoPairs}
use Rattle.bridge_score.specs.ScoringTable.{IsScore}
use Rattle.bridge_ranking.specs.declared.game.Game.{Game}
use Rattle.bridge_ranking.specs.declared.game.PlayResult.{PlayResult}
use Rattle.bridge_ranking.specs.declared.game.PlayResult.TheVariants.{Score, Averages}
use Rattle.bridge_ranking.specs.Ranking.{is_on, score_for, side_score, score_in, scores_on, line_of}
use Rattle.bridge_ranking.specs.Gains.{IsGainWithin, with_score}
use Rattle.bridge_ranking.specs.KeptGames.{IsGame, IsResult}
use Rattle.bridge_ranking.proofs.Games.{few_so_far}

-- one element more, of which something may come
pub filled : {X Y : Type 0} (h : X → Option Y) (xs : List X) (i : ℕ) (x : X) (before after : List Y) → i < length xs → x ≡ get_or xs i x → before ≡ filter_map h (take i xs) → after ≡ before ++ cons_option (h x) [] → after ≡ filter_map h (take (i + 1) xs)
filled h xs i x before after within is so_far left =
    left
    ∙ ap (λ ys. ys ++ cons_option (h x) []) so_far
    ∙ sym (filter_map-append h (take i xs) (x ∷ []))
    ∙ ap (λ y. filter_map h (take i xs ++ y ∷ [])) is
    ∙ ap (filter_map h) (sym (take_more xs i x within))

-- the scores of a board with one game more
pub scored : (side : Side) (board : ℕ) (games : List Game) (i : ℕ) (d : Game) (score : Option ℤ) (before after : List ℤ) → i < length games → score_in side board (get_or games i d) ≡ score → before ≡ scores_on (take i games) side board → after ≡ before ++ cons_option score [] → after ≡ scores_on (take (i + 1) games) side board
scored side board games i d score before after within is so_far left =
    let f = score_in side board in
    left
    ∙ ap (λ scores. scores ++ cons_option score []) so_far
    ∙ ap (λ o. filter_map f (take i games) ++ cons_option o []) (sym is)
    ∙ sym (filter_map-append f (take i games) (get_or games i d ∷ []))
    ∙ ap (filter_map f) (sym (take_more games i d within))

-- a game has a score on its own board, if it has one, and on no other
score_here : (here : Bool) (side : Side) (board : ℕ) (game : Game) → (game.board == board) ≡ here → score_in side board game ≡ cond here (side_score side game.result) None
score_here here side board game test = ap (λ b. cond b (side_score side game.result) None) test

-- the list of a board gets the score, and each other list stays
pub listed : (side : Side) (games : List Game) (i : ℕ) (d : Game) (lists : List (List ℤ)) (score : ℤ) → i < length games → IsBoard (get_or games i d).board → side_score side (get_or games i d).result ≡ Some score → lists ≡ map (scores_on (take i games) side) (range_with_len 1 36) → with_score lists (get_or games i d).board score ≡ map (scores_on (take (i + 1) games) side) (range_with_len 1 36)
listed side games i d lists score within is_board is so_far =
    let game = get_or games i d in
    let board = game.board in
    let now = map (scores_on (take (i + 1) games) side) (range_with_len 1 36) in
    let new = with_score lists board score in
    let index = board - 1 in
    let added = get_or lists index [] ++ score ∷ [] in
    let count : length lists ≡ 36 = ap length so_far ∙ length-map-range_with_len (scores_on (take i games) side) 1 36 in
    let same_length : length new ≡ 36 = length-set lists index added ∙ count in
    let was : (k : ℕ) → k < 36 → get_or lists k [] ≡ scores_on (take i games) side (k + 1) =
    λ k inside. ap (λ ls. get_or ls k []) so_far ∙ get_or-map-range_with_len (scores_on (take i games) side) 1 36 k (k + 1) [] inside (omega arith) in
    let becomes : (k : ℕ) → k < 36 → get_or now k [] ≡ scores_on (take (i + 1) games) side (k + 1) =
    λ k inside. get_or-map-range_with_len (scores_on (take (i + 1) games) side) 1 36 k (k + 1) [] inside (omega arith) in
    ext_get_or [] new now (same_length ∙ sym (length-map-range_with_len (scores_on (take (i + 1) games) side) 1 36)) (λ k less.
    let inside : k < 36 = omega (arith, less, same_length) in
    elim (eqb_tells board (k + 1)) [
      | inl at ↦
          let here : k ≡ index = omega (arith, at.1) in
          let get : get_or new k [] ≡ added = ap (λ j. get_or new j []) here ∙ get_or-set_same lists index added [] (omega (arith, here, inside, count)) in
          get
          ∙ scored side (k + 1) games i d (Some score) (get_or lists k []) added within (score_here true side (k + 1) game at.0 ∙ is) (was k inside)
          (ap (λ j. get_or lists j [] ++ score ∷ []) (sym here))
          ∙ sym (becomes k inside)
      | inr other ↦
          let apart : k ≢ index = λ same. other.1 (omega (arith, same, is_board.0)) in
          get_or-set_other lists index k added [] apart
          ∙ scored side (k + 1) games i d None (get_or lists k []) (get_or lists k []) within (score_here false side (k + 1) game other.0) (was k inside) (sym (append-nil (get_or lists k [])))
          ∙ sym (becomes k inside)
    ])

-- an adjusted play leaves the lists
no_score : (here : Bool) (score : Option ℤ) → score ≡ None → cond here score None ≡ None
no_score true score none = none
no_score false score none = refl

pub passed_over : (side : Side) (games : List Game) (i : ℕ) (d : Game) (lists : List (List ℤ)) → i < length games → side_score side (get_or games i d).result ≡ None → lists ≡ map (scores_on (take i games) side) (range_with_len 1 36) → lists ≡ map (scores_on (take (i + 1) games) side) (range_with_len 1 36)
passed_over side games i d lists within none so_far =
    let game = get_or games i d in
    let each : (board : ℕ) → scores_on (take i games) side board ≡ scores_on (take (i + 1) games) side board =
    λ board. scored side board games i d None (scores_on (take i games) side board) (scores_on (take i games) side board) within
    (score_here (game.board == board) side board game refl ∙ no_score (game.board == board) (side_score side game.result) none)
    refl (sym (append-nil (scores_on (take i games) side board))) in
    so_far ∙ ap (λ (f : ℕ → List ℤ). map f (range_with_len 1 36)) (λ k board. each board k)

-- the scores of plays are within the scoring table
score_range : (side : Side) (score : ℤ) → IsScore score → IsScore (score_for side score)
score_range NorthSouth score is = is
score_range EastWest score is = (omega (arith, ints, is.0, is.1), omega (arith, ints, is.0, is.1))

result_range : (here : Bool) (side : Side) (result : PlayResult) (scores : List ℤ) → IsResult result → All IsScore scores → All IsScore (cons_option (cond here (side_score side result) None) scores)
result_range true side (Score score) scores is all = All-cons IsScore (score_for side score) scores (score_range side score is) all
result_range true side (Averages ns ew) scores is all = all
result_range false side result scores is all = all

pub scores_range : (games : List Game) (side : Side) (board : ℕ) → All IsGame games → All IsScore (scores_on games side board)
scores_range [] side board each = All-nil IsScore
scores_range (game ∷ games) side board each =
    result_range (game.board == board) side game.result (scores_on games side board) (All-head IsGame game games each).0
    (scores_range games side board (All-tail IsGame game games each))

-- there are no more scores on a board than games
perhaps_score : (here : Bool) (side : Side) (result : PlayResult) (scores : List ℤ) (game : Game) (games : List Game) → length scores ≤ length games → length (cons_option (cond here (side_score side result) None) scores) ≤ length (cond here (game ∷ games) games)
perhaps_score true side (Score score) scores game games less = omega arith
perhaps_score true side (Averages ns ew) scores game games less = omega arith
perhaps_score false side result scores game games less = less

scores_few : (games : List Game) (side : Side) (board : ℕ) → length (scores_on games side board) ≤ length (filter (is_on board) games)
scores_few [] side board = omega arith
scores_few (game ∷ games) side board =
    perhaps_score (game.board == board) side game.result (scores_on games side board) game (filter (is_on board) games) (scores_few games side board)

-- the list at a board's index is its scores
pub scores_there : (games : List Game) (side : Side) (lists : List (List ℤ)) (board : ℕ) (found : List ℤ) → lists ≡ map (scores_on games side) (range_with_len 1 36) → slice_get lists (board - 1) ≡ Some found → IsBoard board → found ≡ scores_on games side board
scores_there games side lists board found are there is =
    sym (get_or_from_slice_get lists (board - 1) found [] there)
    ∙ ap (λ ls. get_or ls (board - 1) []) are
    ∙ get_or-map-range_with_len (scores_on games side) 1 36 (board - 1) board [] (omega (arith, is.0, is.1)) (omega (arith, is.0))

-- there is room for the score of a game on its board
pub room_for : (side : Side) (games : List Game) (i : ℕ) (d : Game) (score : ℤ) → i < length games → side_score side (get_or games i d).result ≡ Some score → length (scores_on (take i games) side (get_or games i d).board) + 1 ≤ length (filter (is_on (get_or games i d).board) games)
room_for side games i d score within is =
    let game = get_or games i d in
    let board = game.board in
    let before = scores_on (take i games) side board in
    let here = score_here true side board game (eq-eqb board board refl) ∙ is in
    let whole : before ++ score ∷ [] ≡ scores_on (take (i + 1) games) side board = scored side board games i d (Some score) before (before ++ score ∷ []) within here refl refl in
    omega (arith, few_so_far board games (i + 1), scores_few (take (i + 1) games) side board, ap length whole, length-append before (score ∷ []))

-- gains add up
pub within_both : (scoring : Scoring) (v w : ℤ) (a b : ℕ) → IsGainWithin scoring v a → IsGainWithin scoring w b → IsGainWithin scoring (v +ℤ w) (a + b)
within_both MatchPoints v w a b first second = (omega (arith, ints, first.0, first.1, second.0, second.1), omega (arith, ints, first.0, first.1, second.0, second.1))
within_both Imps v w a b first second = (omega (arith, ints, first.0, first.1, second.0, second.1), omega (arith, ints, first.0, first.1, second.0, second.1))

-- and stay far below the limits
pub record IsSmall (v : ℤ) : Type 0 where
  pub least : neg_ℤ (pos 3000000) ≤ℤ v
  pub most : v ≤ℤ pos 3000000

pub within_small : (scoring : Scoring) (v : ℤ) (a : ℕ) → IsGainWithin scoring v a → a ≤ 1235520 → IsSmall v
within_small MatchPoints v a within few = record { least = omega (arith, ints, within.0, within.1); most = omega (arith, ints, within.0, within.1) }
within_small Imps v a within few = record { least = omega (arith, ints, within.0, within.1); most = omega (arith, ints, within.0, within.1) }

-- one game more in a sum
pub summed : {X : Type 0} (f : X → ℤ) (xs : List X) (i : ℕ) (d : X) (before gained : ℤ) → i < length xs → before ≡ int_sum_by f (take i xs) → gained ≡ f (get_or xs i d) → before +ℤ gained ≡ int_sum_by f (take (i + 1) xs)
summed f xs i d before gained within so_far gain =
    ap (λ v. v +ℤ gained) so_far
    ∙ ap (λ v. int_sum_by f (take i xs) +ℤ v) gain
    ∙ sym (fold_more (λ total y. total +ℤ f y) (pos 0) xs i d within)

-- a sum as the code adds to it
pub code_sum : (v g : ℤ) → SFits w32 g → SFits w32 (v +ℤ g) → to_z w32 (of_z w32 (v +ℤ to_z w32 (of_z w32 g))) ≡ v +ℤ g
code_sum v g fits_gain fits =
    ap (λ z. to_z w32 (of_z w32 (v +ℤ z))) (to_z-of_z w32 g fits_gain) ∙ to_z-of_z w32 (v +ℤ g) fits

pub score_fits : (score : ℤ) → IsScore score → SFits w32 score
score_fits score is = omega (arith, ints, is.0, is.1)

pub small_fits : (v : ℤ) → IsSmall v → SFits w32 v
small_fits v small = omega (arith, ints, small.least, small.most)

-- the lines of different pairs
pub lines_apart : (scoring : Scoring) (games : List Game) (first n : ℕ) (lines : List Line) → lines ≡ map (line_of scoring games) (range_with_len first n) → AllPairs AreOfTwoPairs lines
lines_apart scoring games first n lines is = λ i j d less within same.
    let count : length lines ≡ n = ap length is ∙ length-map (range_with_len first n) (line_of scoring games) ∙ length-range_with_len first n in
    let pair_at : (k : ℕ) → k < n → (get_or lines k d).pair ≡ first + k = λ k inside.
    ap (λ (line : Line). line.pair) (ap (λ ls. get_or ls k d) is ∙ get_or-map-range_with_len (line_of scoring games) first n k (first + k) d inside refl) in
    let a = pair_at i (omega arith) in
    let b = pair_at j (omega arith) in
    omega (arith, a, b, same)
