-- The plays that are compared, as they are kept and as they are seen, and how many there are on a board.
use Rattle.std.proofs.Common.{◌≡◌, ◌+◌, ◌-◌, ◌*◌, ◌==◌, ◌<◌, ◌≤◌, ℕ, zero, suc, Bool, true, false, cond, List, [], ◌∷◌, ◌++◌, length, take, drop, get_or, filter, Option, Some, None, refl, sym, ap, ◌∙◌, arith, length-append}
use Rattle.std.specs.Prelude.{All, map, zip, flat_map}
use Rattle.std.specs.List.{cons_option, filter_map, range_with_len}
use Rattle.std.specs.Option.{option_map}
use Rattle.std.proofs.lemmas.Bool.{eqb-true}
use Rattle.std.proofs.lemmas.List.{take-append-drop, take_more, flat_map_more}
use Rattle.std.proofs.lemmas.Slice.Zip.{length-zip, get_or-zip}
use Rattle.std.proofs.lemmas.List.Concat.{flat_map-cons}
use Rattle.std.proofs.lemmas.List.Elements.{filter-append}
use Rattle.bridge_movement.specs.declared.row.Row.{Row}
use Rattle.bridge_movement.specs.Row.{is_live}
use Rattle.bridge_ranking.specs.declared.game.Game.{Game}
use Rattle.bridge_ranking.specs.declared.game.PlayResult.{PlayResult}
use Rattle.bridge_table.specs.declared.record.Record.{Record}
use Rattle.session_rules.specs.Outcome.{outcome_by}
use Rattle.session_rules.specs.State.{row_boards}
use Rattle.bridge_ranking.specs.Ranking.{is_on, result_of, game_by, game_in, games_in}
use Rattle.bridge_table.specs.Kept.{plain_of, board_kept, course_kept, IsTiedIn}
use Rattle.bridge_ranking.specs.KeptGames.{kept_game, kept_games_in, kept_games}
use Rattle.bridge_table.proofs.Outcomes.{outcome_seen}

abbrev Deals : Type 0
Deals = List (Option (List ℕ))

-- the plays that are compared are those of what is seen
table_seen : (deals : Deals) (row : Row) (table : List Record) → All (IsTiedIn deals) table → filter_map (kept_game row) table ≡ filter_map (game_in row) (map plain_of table)
table_seen deals row [] tied = refl
table_seen deals row (kept ∷ table) tied =
    let here = outcome_seen deals kept (tied zero kept (omega arith)) in
    let rest = table_seen deals row table (λ k d within. tied (suc k) d (omega arith)) in
    ap (λ outcome. cons_option (game_by row kept.board outcome) (filter_map (kept_game row) table)) here
    ∙ ap (cons_option (game_in row (plain_of kept))) rest

pub games_seen : (deals : Deals) (rows : List Row) (tables : List (List Record)) → All (All (IsTiedIn deals)) tables → kept_games rows tables ≡ flat_map games_in (zip rows (map (map plain_of) tables))
games_seen deals [] tables tied = refl
games_seen deals (row ∷ rows) [] tied = refl
games_seen deals (row ∷ rows) (table ∷ tables) tied =
    let here = table_seen deals row table (tied zero table (omega arith)) in
    let rest = games_seen deals rows tables (λ k d within. tied (suc k) d (omega arith)) in
    flat_map-cons kept_games_in (row, table) (zip rows tables)
    ∙ ap (λ games. games ++ kept_games rows tables) here
    ∙ ap (λ games. filter_map (game_in row) (map plain_of table) ++ games) rest
    ∙ sym (flat_map-cons games_in (row, map plain_of table) (zip rows (map (map plain_of) tables)))

-- how often a number is among these
abbrev times : ℕ → List ℕ → ℕ
times b numbers = length (filter (λ k. k == b) numbers)

-- a number is once in a range at most
not_here : (same : Bool) (a b : ℕ) (numbers : List ℕ) → (a == b) ≡ same → b < a → times b numbers ≡ 0 → length (cond same (a ∷ filter (λ k. k == b) numbers) (filter (λ k. k == b) numbers)) ≡ 0
not_here true a b numbers is less none = absurd (omega (arith, eqb-true a b is))
not_here false a b numbers is less none = none

none_before : (a n b : ℕ) → b < a → times b (range_with_len a n) ≡ 0
none_before a zero b less = refl
none_before a (suc n) b less = not_here (a == b) a b (range_with_len (a + 1) n) refl less (none_before (a + 1) n b (omega arith))

once_here : (same : Bool) (a b : ℕ) (numbers : List ℕ) → (a == b) ≡ same → (b < a + 1 → times b numbers ≡ 0) → times b numbers ≤ 1 → length (cond same (a ∷ filter (λ k. k == b) numbers) (filter (λ k. k == b) numbers)) ≤ 1
once_here true a b numbers is none one = let later = none (omega (arith, eqb-true a b is)) in omega arith
once_here false a b numbers is none one = one

once : (a n b : ℕ) → times b (range_with_len a n) ≤ 1
once a zero b = omega arith
once a (suc n) b = once_here (a == b) a b (range_with_len (a + 1) n) refl (none_before (a + 1) n b) (once (a + 1) n b)

once_if : (live : Bool) (boards : List ℕ) (b : ℕ) → times b boards ≤ 1 → times b (cond live boards []) ≤ 1
once_if true boards b few = few
once_if false boards b few = omega arith

-- a record has a game at most, and it is on its board
perhaps_more : (same : Bool) (n x : ℕ) (xs : List ℕ) → n ≤ length xs → n ≤ length (cond same (x ∷ xs) xs)
perhaps_more true n x xs less = omega arith
perhaps_more false n x xs less = less

both_more : (same : Bool) (x : Game) (xs : List Game) (y : ℕ) (ys : List ℕ) → length xs ≤ length ys → length (cond same (x ∷ xs) xs) ≤ length (cond same (y ∷ ys) ys)
both_more true x xs y ys less = omega arith
both_more false x xs y ys less = less

game_counts : (row : Row) (board b : ℕ) (result : Option PlayResult) (games : List Game) (boards : List ℕ) → length (filter (is_on b) games) ≤ times b boards → length (filter (is_on b) (cons_option (option_map (λ r. record { board = board; ns = row.ns; ew = row.ew; result = r }) result) games)) ≤ times b (board ∷ boards)
game_counts row board b None games boards less =
    perhaps_more (board == b) (length (filter (is_on b) games)) board (filter (λ k. k == b) boards) less
game_counts row board b (Some result) games boards less =
    both_more (board == b) (record { board = board; ns = row.ns; ew = row.ew; result = result }) (filter (is_on b) games) board (filter (λ k. k == b) boards) less

table_counts : (row : Row) (table : List Record) (b : ℕ) → length (filter (is_on b) (filter_map (kept_game row) table)) ≤ times b (map board_kept table)
table_counts row [] b = omega arith
table_counts row (kept ∷ table) b =
    game_counts row kept.board b (result_of kept.board (outcome_by kept.auction.calls (course_kept kept) kept.ruling)) (filter_map (kept_game row) table) (map board_kept table) (table_counts row table b)

-- on a board there is a game for each row at most
pub few_on_board : (boards : ℕ) (rows : List Row) (tables : List (List Record)) (b : ℕ) → map (map board_kept) tables ≡ map (row_boards boards) rows → length (filter (is_on b) (kept_games rows tables)) ≤ length rows
few_on_board boards [] tables b same = omega arith
few_on_board boards (row ∷ rows) [] b same = omega arith
few_on_board boards (row ∷ rows) (table ∷ tables) b same =
    let first : map board_kept table ≡ row_boards boards row = cc in
    let others : map (map board_kept) tables ≡ map (row_boards boards) rows = cc in
    let rest = few_on_board boards rows tables b others in
    let here = table_counts row table b in
    let one : times b (row_boards boards row) ≤ 1 =
    once_if (is_live row) (range_with_len ((row.set - 1) * boards + 1) boards) b (once ((row.set - 1) * boards + 1) boards b) in
    let whole : filter (is_on b) (kept_games (row ∷ rows) (table ∷ tables)) ≡ filter (is_on b) (filter_map (kept_game row) table) ++ filter (is_on b) (kept_games rows tables) =
    ap (filter (is_on b)) (flat_map-cons kept_games_in (row, table) (zip rows tables)) ∙ filter-append (is_on b) (filter_map (kept_game row) table) (kept_games rows tables) in
    omega (
      arith,
      rest,
      here,
      one,
      ap (times b) first,
      ap length whole,
      length-append (filter (is_on b) (filter_map (kept_game row) table)) (filter (is_on b) (kept_games rows tables)),
    )

-- some of the games have no more on a board than all
pub few_so_far : (b : ℕ) (games : List Game) (i : ℕ) → length (filter (is_on b) (take i games)) ≤ length (filter (is_on b) games)
few_so_far b games i =
    let whole : filter (is_on b) (take i games) ++ filter (is_on b) (drop i games) ≡ filter (is_on b) games =
    sym (filter-append (is_on b) (take i games) (drop i games)) ∙ ap (filter (is_on b)) (take-append-drop i games) in
    omega (arith, ap length whole, length-append (filter (is_on b) (take i games)) (filter (is_on b) (drop i games)))

-- one row's games more
pub grown_games : (rows : List Row) (tables : List (List Record)) (i : ℕ) (d : Row) (table : List Record) (before after : List Game) → i < length rows → i < length tables → get_or tables i table ≡ table → before ≡ flat_map kept_games_in (take i (zip rows tables)) → after ≡ before ++ filter_map (kept_game (get_or rows i d)) table → after ≡ flat_map kept_games_in (take (i + 1) (zip rows tables))
grown_games rows tables i d table before after within inside is so_far left =
    let both = zip rows tables in
    let row = get_or rows i d in
    let next : take (i + 1) both ≡ take i both ++ (row, table) ∷ [] =
    take_more both i (d, table) (omega (arith, length-zip rows tables))
    ∙ ap (λ (e : Row × List Record). take i both ++ e ∷ []) (get_or-zip rows tables i (d, table) within inside ∙ ap (λ (t : List Record). (row, t)) is) in
    left
    ∙ ap (λ games. games ++ filter_map (kept_game row) table) so_far
    ∙ flat_map_more kept_games_in [] (take i both) (row, table)
    ∙ ap (flat_map kept_games_in) (sym next)
