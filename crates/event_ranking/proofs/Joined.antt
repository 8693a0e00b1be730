-- The scores of several sections.
use Rattle.std.proofs.Common.{◌≡◌, ◌==◌, ◌+◌, ◌-◌, ◌*◌, ◌<◌, ◌≤◌, ℕ, Bool, true, false, cond, List, [], ◌∷◌, ◌++◌, length, map, take, get_or, ℤ, neg_ℤ, Option, Some, None, refl, sym, ap, ◌∙◌, arith, append_assoc, length-append}
use Rattle.std.specs.Prelude.{All}
use Rattle.std.specs.List.{cons_option, filter_map, range_with_len}
use Rattle.std.proofs.lemmas.List.{length-map, take_more, map_push, flat_map_more}
use Rattle.std.proofs.lemmas.List.Concat.{flat_map-cons}
use Rattle.std.proofs.lemmas.List.Elements.{filter_map-append, All-head, All-tail}
use Rattle.std.proofs.lemmas.List.FromFn.{get_or-map-range_with_len}
use Rattle.bridge_cards.specs.Board.{IsBoard}
use Rattle.event_ranking.specs.Wide.{AreOfSection, AreOfSections}
use Rattle.bridge_cards.specs.declared.seat.Side.{Side}
use Rattle.bridge_cards.specs.declared.seat.Side.TheVariants.{NorthSouth}
use Rattle.bridge_cards.specs.declared.seat.Side.TheVariants.{EastWest}
use Rattle.bridge_ranking.specs.declared.game.PlayResult.{PlayResult}
use Rattle.bridge_ranking.specs.declared.game.PlayResult.TheVariants.{Score}
use Rattle.bridge_ranking.specs.declared.game.PlayResult.TheVariants.{Averages}
use Rattle.bridge_ranking.specs.declared.game.Game.{Game}
use Rattle.bridge_ranking.specs.Ranking.{score_for, side_score, score_in, scores_on, available_of}
use Rattle.event_ranking.specs.Joint.{joint}
use Rattle.event_ranking.proofs.Mirror.{map_itself}

one_mirrored : (here : Bool) (result : PlayResult) (scores : List ℤ) → cons_option (cond here (side_score EastWest result) None) (map neg_ℤ scores) ≡ map neg_ℤ (cons_option (cond here (side_score NorthSouth result) None) scores)
one_mirrored true (Score score) scores = refl
one_mirrored true (Averages ns ew) scores = refl
one_mirrored false result scores = refl

east_west : (games : List Game) (board : ℕ) → scores_on games EastWest board ≡ map neg_ℤ (scores_on games NorthSouth board)
east_west [] board = refl
east_west (game ∷ games) board =
    ap (cons_option (score_in EastWest board game)) (east_west games board)
    ∙ one_mirrored (game.board == board) game.result (scores_on games NorthSouth board)

-- each side's scores are those of North and South, with its sign
pub mirrored : (games : List Game) (side : Side) (board : ℕ) → scores_on games side board ≡ map (score_for side) (scores_on games NorthSouth board)
mirrored games NorthSouth board = sym (map_itself (scores_on games NorthSouth board))
mirrored games EastWest board = east_west games board

-- one element more, of which something may come
pub one_more : {X Y : Type 0} (h : X → Option Y) (xs : List X) (i : ℕ) (x : X) (start before after : List Y) → i < length xs → x ≡ get_or xs i x → before ≡ start ++ filter_map h (take i xs) → after ≡ before ++ cons_option (h x) [] → after ≡ start ++ filter_map h (take (i + 1) xs)
one_more h xs i x start before after within is so_far left =
    let whole : filter_map h (take i xs) ++ cons_option (h x) [] ≡ filter_map h (take (i + 1) xs)
    = sym (filter_map-append h (take i xs) (x ∷ []))
    ∙ ap (λ y. filter_map h (take i xs ++ y ∷ [])) is
    ∙ ap (filter_map h) (sym (take_more xs i x within)) in
    left
    ∙ ap (λ ys. ys ++ cons_option (h x) []) so_far
    ∙ append_assoc start (filter_map h (take i xs)) (cons_option (h x) [])
    ∙ ap (λ ys. start ++ ys) whole

-- the plays of one section more
joint_more : {X : Type 0} (items : X → List Game) (xs : List X) (i : ℕ) (x : X) → i < length xs → x ≡ get_or xs i x → joint (map items (take (i + 1) xs)) ≡ joint (map items (take i xs)) ++ items x
joint_more items xs i x within is =
    ap (λ ys. joint (map items ys)) (take_more xs i x within)
    ∙ ap joint (map_push items (take i xs) (get_or xs i x))
    ∙ sym (flat_map_more (λ games. games) [] (map items (take i xs)) (items (get_or xs i x)))
    ∙ ap (λ y. joint (map items (take i xs)) ++ items y) (sym is)

-- and their scores on a board
pub scores_more : {X : Type 0} (items : X → List Game) (side : Side) (board : ℕ) (xs : List X) (i : ℕ) (x : X) (before after : List ℤ) → i < length xs → x ≡ get_or xs i x →
    before ≡ scores_on (joint (map items (take i xs))) side board → after ≡ before ++ scores_on (items x) side board → after ≡ scores_on (joint (map items (take (i + 1) xs))) side board
scores_more items side board xs i x before after within is so_far left =
    left
    ∙ ap (λ scores. scores ++ scores_on (items x) side board) so_far
    ∙ sym (filter_map-append (score_in side board) (joint (map items (take i xs))) (items x))
    ∙ ap (filter_map (score_in side board)) (sym (joint_more items xs i x within is))

-- the list at a board's index is its scores
pub scores_there : (games : List Game) (lists : List (List ℤ)) (board : ℕ) (d : List ℤ) → lists ≡ map (scores_on games NorthSouth) (range_with_len 1 36) → IsBoard board → get_or lists (board - 1) d ≡ scores_on games NorthSouth board
scores_there games lists board d are is =
    ap (λ ls. get_or ls (board - 1) d) are
    ∙ get_or-map-range_with_len (scores_on games NorthSouth) 1 36 (board - 1) board d (omega (arith, is.0, is.1)) (omega (arith, is.0))

-- there are no more scores than plays
scores_few : (games : List Game) (side : Side) (board : ℕ) → length (scores_on games side board) ≤ length games
scores_few [] side board = omega arith
scores_few (game ∷ games) side board = perhaps (score_in side board game) (scores_few games side board)
  where
    perhaps : (score : Option ℤ) → length (scores_on games side board) ≤ length games → length (cons_option score (scores_on games side board)) ≤ length (game ∷ games)
    perhaps None less = omega arith
    perhaps (Some score) less = omega arith

plays_few : (sections : List (List Game)) → All AreOfSection sections → length (joint sections) ≤ 432 * length sections
plays_few [] each = omega arith
plays_few (games ∷ sections) each =
    omega (
      arith,
      plays_few sections (All-tail AreOfSection games sections each),
      (All-head AreOfSection games sections each).most,
      ap length (flat_map-cons (λ (of : List Game). of) games sections),
      length-append games (joint sections),
    )

pub most_scores : (sections : List (List Game)) (board : ℕ) → AreOfSections sections → length (scores_on (joint sections) NorthSouth board) ≤ 17280
most_scores sections board are =
    omega (arith, scores_few (joint sections) NorthSouth board, plays_few sections are.each, are.few)

-- as much is available to either side
pub side_available : (games : List Game) (side : Side) (board : ℕ) → available_of (scores_on games NorthSouth board) ≡ available_of (scores_on games side board)
side_available games side board =
    omega (arith, ap length (mirrored games side board), length-map (scores_on games NorthSouth board) (score_for side))
